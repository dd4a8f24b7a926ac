-- A state stays a state: the shuffle and its inverse keep its length and give bytes, at every size; and what stands in each byte.
-- Assumes nothing.
use Rattle.std.specs.Prelude.{◌≡◌, refl, List, ℕ, zero, suc, ◌+◌, ◌<◌, length, get_or}
use Rattle.std.proofs.Common.{ap, ◌∙◌, not-suc-le-zero, le_of_suc-le-suc, add-zero, zero-add, add-suc, suc-add, arith}
use Rattle.base_lists.specs.Below.{Below}
use Rattle.gage_shuffle.specs.Shuffling.{element, source, tabled, shuffled_byte, shuffle, unshuffled_byte, unshuffle}
use Rattle.gage_shuffle.specs.Bits.{placed_below, origin-below}

pub length-tabled : (f : ℕ → ℕ) (i n : ℕ) → length (tabled f i n) ≡ n
unfolding tabled
length-tabled f i zero = refl
length-tabled f i (suc n) = ap suc (length-tabled f (suc i) n)

pub tabled-at : (f : ℕ → ℕ) (i n k : ℕ) → k < n → get_or (tabled f i n) k 0 ≡ f (i + k)
unfolding tabled
tabled-at f i zero k h = absurd (not-suc-le-zero h)
tabled-at f i (suc n) zero h = rw add-zero
tabled-at f i (suc n) (suc k) h = tabled-at f (suc i) n k (le_of_suc-le-suc h) ∙ rw (suc-add, add-suc)

tabled-below : (m : ℕ) (f : ℕ → ℕ) (i n : ℕ) → ((k : ℕ) → f k < m) → Below m (tabled f i n)
unfolding tabled
tabled-below m f i zero h = tt
tabled-below m f i (suc n) h = (h i, tabled-below m f (suc i) n h)

pub length-shuffle : (s : List ℕ) → length (shuffle s) ≡ length s
unfolding shuffle
length-shuffle s = length-tabled (shuffled_byte s) 0 (length s)

pub length-unshuffle : (s : List ℕ) → length (unshuffle s) ≡ length s
unfolding unshuffle
length-unshuffle s = length-tabled (unshuffled_byte s) 0 (length s)

pub shuffle-at : (s : List ℕ) (i : ℕ) → i < length s → get_or (shuffle s) i 0 ≡ shuffled_byte s i
unfolding shuffle
shuffle-at s i h = tabled-at (shuffled_byte s) 0 (length s) i h ∙ rw zero-add

pub unshuffle-at : (s : List ℕ) (i : ℕ) → i < length s → get_or (unshuffle s) i 0 ≡ unshuffled_byte s i
unfolding unshuffle
unshuffle-at s i h = tabled-at (unshuffled_byte s) 0 (length s) i h ∙ rw zero-add

pub shuffle-below : (s : List ℕ) → Below 256 (shuffle s)
unfolding shuffle shuffled_byte
shuffle-below s = tabled-below 256 (shuffled_byte s) 0 (length s) (λ k. placed_below (element s k) (λ j. omega arith))

pub unshuffle-below : (s : List ℕ) → Below 256 (unshuffle s)
unfolding unshuffle unshuffled_byte
unshuffle-below s = tabled-below 256 (unshuffled_byte s) 0 (length s) (λ k. origin-below (source s k) (λ j. omega arith))
