-- Each of the shuffle and its inverse undoes the other, at every state size from 8 bytes on. Assumes nothing.
use Rattle.std.specs.Prelude.{◌≡◌, List, ℕ, ◌+◌, ◌/◌, ◌-◌, ◌≤◌, ◌<◌, ◌%◌}
use Rattle.std.proofs.Common.{ap, ◌∙◌, mod-lt, mod-eq_of_lt, arith}
use Rattle.std.proofs.Math.Nat.{zero-add, mod-add-mod, add-mod_right}
use Rattle.std.proofs.Math.ListN.{length, get_or}
use Rattle.std.proofs.Math.Seq.{ext_get_or}
use Rattle.base_lists.specs.Below.{Below, below_at}
use Rattle.gage_shuffle.specs.Sizes.{SMALLEST}
use Rattle.gage_shuffle.specs.Shuffling.{element, source, weights, origins, shuffled_byte, shuffle, unshuffled_byte, unshuffle}
use Rattle.gage_shuffle.specs.Bits.{origin-weight, weighed-by, placed-back, origin-back, placed-whole, origin-whole}
use Rattle.gage_shuffle.specs.States.{length-shuffle, length-unshuffle, shuffle-at, unshuffle-at}

-- byte (k - j) + j is byte k, and (k + j) - j too
forth : (n k j : ℕ) → k < n → j ≤ n → ((k + (n - j)) % n + j) % n ≡ k
forth n k j h g =
    mod-add-mod (k + (n - j)) n j ∙ ap (λ (x : ℕ). x % n) (let e : k + (n - j) + j ≡ k + n = omega arith in e)
    ∙ add-mod_right k n ∙ mod-eq_of_lt h

back : (n k j : ℕ) → k < n → j ≤ n → ((k + j) % n + (n - j)) % n ≡ k
back n k j h g =
    mod-add-mod (k + j) n (n - j) ∙ ap (λ (x : ℕ). x % n) (let e : k + j + (n - j) ≡ k + n = omega arith in e)
    ∙ add-mod_right k n ∙ mod-eq_of_lt h

module _ (s : List ℕ) (wide : SMALLEST ≤ length s) (b : Below 256 s) where
  -- element j + 1 of byte k - j, read back at its place, is bit 7 - j of byte k
  source-shuffled : (k j : ℕ) → k < length s → j < 8 → source (shuffle s) k j ≡ get_or s k 0 / get_or origins j 1 % 2
  unfolding shuffled_byte
  source-shuffled k j h g =
      let m = (k + (length s - j)) % length s in
      rw (
        length-shuffle s,
        shuffle-at s m (mod-lt (k + (length s - j)) (omega arith)),
        placed-back (element s m) (λ i. omega arith) j g,
        forth (length s) k j h (omega arith),
        origin-weight j g,
      )

  -- bit 7 - j of byte i + j, read back where it came from, stands at its place in byte i
  element-unshuffled : (i j : ℕ) → i < length s → j < 8 → element (unshuffle s) i j ≡ get_or s i 0 / get_or weights j 1 % 2
  unfolding unshuffled_byte
  element-unshuffled i j h g =
      let m = (i + j) % length s in
      rw (
        length-unshuffle s,
        unshuffle-at s m (mod-lt (i + j) (omega arith)),
        origin-weight j g,
        origin-back (source s m) (λ k. omega arith) j g,
        back (length s) i j h (omega arith),
      )

  pub unshuffle-shuffle : unshuffle (shuffle s) ≡ s
  unfolding unshuffled_byte
  unshuffle-shuffle =
      ext_get_or 0 (unshuffle (shuffle s)) s (length-unshuffle (shuffle s) ∙ length-shuffle s)
      (λ k h.
      let g : k < length s = rw (length-unshuffle, length-shuffle) at h in
      unshuffle-at (shuffle s) k (rw length-shuffle g)
      ∙ weighed-by (source (shuffle s) k) (λ j. get_or s k 0 / get_or origins j 1 % 2) 0 origins
      (λ j l. rw zero-add (source-shuffled k j g l))
      ∙ origin-whole (get_or s k 0) (below_at 256 s k b g))

  pub shuffle-unshuffle : shuffle (unshuffle s) ≡ s
  unfolding shuffled_byte
  shuffle-unshuffle =
      ext_get_or 0 (shuffle (unshuffle s)) s (length-shuffle (unshuffle s) ∙ length-unshuffle s)
      (λ k h.
      let g : k < length s = rw (length-shuffle, length-unshuffle) at h in
      shuffle-at (unshuffle s) k (rw length-unshuffle g)
      ∙ weighed-by (element (unshuffle s) k) (λ j. get_or s k 0 / get_or weights j 1 % 2) 0 weights
      (λ j l. rw zero-add (element-unshuffled k j g l))
      ∙ placed-whole (get_or s k 0) (below_at 256 s k b g))
