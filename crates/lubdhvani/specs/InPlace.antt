-- A permutation of a whole state of 72 bytes, seen on the bytes that a caller lent. Assumes nothing.
use Rattle.std.specs.Prelude.{◌≡◌, List, ◌++◌, ℕ, ◌≤◌, ◌<◌, length, replicate, Ok, Err, Result, ⊤}
use Rattle.std.proofs.Math.Path.{refl}
use Rattle.std.proofs.Common.{append-nil, arith, drop_of_length-le, take_all, take_at}
use Rattle.std.proofs.Math.ListN.{take, drop}
use Rattle.base_lists.specs.Buffers.{copied}
use Rattle.gage_cells.specs.Sizes.{LARGEST}
use Rattle.gage_spec.specs.Permutation.{judged_number, judged, answered}
use Rattle.gage_spec.specs.Answers.{judged-size}
use Rattle.gage_spec.specs.Tables.{too_large}
use Rattle.gage_spec.specs.declared.PermuteRefusal.{PermuteRefusal}
use Rattle.gage_spec.specs.declared.PermuteRefusal.TheVariants.{Size, Rounds}
use Rattle.gage_spec.specs.declared.Permuted.{Permuted}
use Rattle.lubdhvani.specs.Calls.{permute_number, permute_state}

module _ (f : ℕ → List ℕ → List ℕ) (k : ℕ) (keeps : (s : List ℕ) → length (f k s) ≡ length s) (s : List ℕ) (fits : length s ≤ LARGEST) where
  wide : List ℕ
  wide = copied s (replicate LARGEST 0)

  -- the lent bytes stand first in the whole state
  front : take (length s) wide ≡ s
  unfolding wide
  front =
      rw (take_all LARGEST s fits) (take_at s (drop (length s) (replicate LARGEST 0)) (length s) refl)

  -- all of the lent bytes are written over
  covered : (v w : List ℕ) → take (length s) v ≡ w → length w ≡ length s → copied v s ≡ w
  covered v w h e = rw (h, drop_of_length-le s (let g : length s ≤ length w = omega arith in g)) (append-nil w)

  decided : (a : Result ⊤ PermuteRefusal) → judged (length s) k ≡ a → copied (answered f wide (length s) k).state s ≡ permute_state f s k
  unfolding answered permute_state
  decided (Ok tt) e =
      let first : take (length s) (f k (take (length s) wide) ++ drop (length s) wide) ≡ f k s =
      rw front (take_at (f k s) (drop (length s) wide) (length s) (keeps s)) in
      rw e (covered (f k (take (length s) wide) ++ drop (length s) wide) (f k s) first (keeps s))
  decided (Err Size) e = rw e (covered wide s front refl)
  decided (Err Rounds) e = rw e (covered wide s front refl)

  -- document 01's number, and the lent state afterwards
  pub in_place : (r : Permuted) → r ≡ answered f (copied s (replicate LARGEST 0)) (length s) k
      → (judged_number r.answer ≡ permute_number (length s) k) × (copied r.state s ≡ permute_state f s k)
  unfolding wide answered permute_number
  in_place r e = (rw e refl, rw e (decided (judged (length s) k) refl))

-- a state larger than any permitted one is refused
pub too-large-refused : (f : ℕ → List ℕ → List ℕ) (s : List ℕ) (k : ℕ) → LARGEST < length s
    → (judged_number (Err Size) ≡ permute_number (length s) k) × (s ≡ permute_state f s k)
unfolding permute_number permute_state
too-large-refused f s k h = let size = judged-size (length s) k (too_large (length s) h) in (rw size, rw size)
