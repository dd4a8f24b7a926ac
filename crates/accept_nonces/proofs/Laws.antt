-- The numbers of a nonce put together from three of four bytes, and looking through places. Assumes nothing.
use mathlib.Core.Path.{◌≡◌, refl, sym, ap, ap₂, ◌∙◌}
use mathlib.Core.Bool.{Bool, true, false, cond}
use Rattle.std.specs.Prelude.{◌||◌}
use Rattle.std.specs.Int.{from_be_bytes, w32, w64}
use Rattle.std.specs.List.{list_any, range_with_len}
use mathlib.Core.List.{List, [], ◌∷◌}
use Prim.Native.Nat.{ℕ, zero, suc, ◌+◌}
use native.Mathlib.Omega.{arith}
use lib.ListN.{length, get_or, drop, drop_of_length-le}
use Rattle.base_lists.specs.Walk as walk
use Rattle.frame_body.specs.Fields.{nonce_length}
use Rattle.accept_nonces.specs.Words.{high, low, words_of}
use Rattle.accept_nonces.specs.Seen.{pair_at, pair_in}

-- k elements from place i on, one by one
abbrev from : List ℕ → ℕ → ℕ → List ℕ
from n i zero = []
from n i (suc k) = get_or n i 0 ∷ from n (i + 1) k

listed : (n : List ℕ) (k i : ℕ) → i + k ≡ length n → drop i n ≡ from n i k
listed n zero i h = drop_of_length-le n {i = i} (omega arith)
listed n (suc k) i h = walk.at n i (omega arith) ∙ ap (λ (l : List ℕ). get_or n i 0 ∷ l) (listed n k (i + 1) (omega arith))

module _ (n : List ℕ) (twelve : length n ≡ nonce_length) where
  whole : n ≡ from n 0 nonce_length
  whole = listed n nonce_length 0 (omega arith)

  pub words_are : (a b : ℕ) → a ≡ from_be_bytes w64 (from n 0 8) → b ≡ from_be_bytes w32 (from n 8 4) → record { high = a; low = b } ≡ words_of n
  words_are a b p q =
      let h : a ≡ high (from n 0 nonce_length) = omega (arith, p) in
      let l : b ≡ low (from n 0 nonce_length) = omega (arith, q) in
      ap₂ (λ (x y : ℕ). record { high = x; low = y }) h l ∙ ap words_of (sym whole)

-- looking at n places is asking of each whether the numbers stand there
pub pair_in-any : (highs lows : List ℕ) (h l i n : ℕ) → pair_in highs lows h l i n ≡ list_any (pair_at highs lows h l) (range_with_len i n)
unfolding pair_in
pair_in-any highs lows h l i zero = refl
pair_in-any highs lows h l i (suc n) = go (pair_at highs lows h l i) (pair_in-any highs lows h l (i + 1) n)
  where
    go : (t : Bool) {u v : Bool} → u ≡ v → cond t true u ≡ (t || v)
    go true e = refl
    go false e = e
