-- What `take_in`, `close` and `hash` make of a message or a part of it is what their definitions say, and what their callees ask for holds.
-- Assumes nothing.
use mathlib.Core.Path.{◌≡◌, sym, ap, ap₂, ◌∙◌}
use mathlib.Core.Bool.{false}
use mathlib.Core.List.{List, ◌++◌}
use Prim.Native.Nat.{ℕ, ◌-◌, ◌/◌, ◌≤◌, min}
use native.Mathlib.Omega.{arith}
use lib.ListN.{length, take, drop, replicate, length-replicate}
use lib.Seq.{take_all, length-take-le}
use borrow.Rule.Slice.PartMut.{put_mid}
use Rattle.base_lists.specs.Buffers.{over}
use Rattle.base_lists.specs.Over.{over-whole}
use Rattle.gage_planes_spec.specs.declared.State.{State}
use Rattle.gage_planes_spec.specs.Told.{ROOM, told}
use Rattle.gage_planes_spec.specs.Bytes.{length-told}
use Rattle.gage_spec.specs.Permutation.{LARGEST, ROUNDS, permute}
use Rattle.gage_sponge.specs.Padding.{block_count, last_block}
use Rattle.gage_sponge.specs.Absorbing.{xored, from, changed, called}
use Rattle.digest_spec.specs.Instances.{unknown, size_of, rate_of, outputs_of}
use Rattle.digest_spec.specs.Hashing.{absorbed, squeezed, sponged, digest_of}
use Rattle.digest_spec.specs.Shapes.{Fits, known-whole}
use Rattle.digest_spec.specs.Outputs.{squeezed-state}
use Rattle.digest_sponge.specs.Parts.{taken, closed, taken_in, closed_by, hash_of}
use Rattle.digest_sponge.proofs.Taking.{size_room}

-- the shape of a known instance
module _ (i : ℕ) {n R k : ℕ} (known : unknown i ≡ false) (shape : (n ≡ size_of i) × (R ≡ rate_of i) × (k ≡ outputs_of i)) where
  shape-fits : Fits n R
  shape-fits = rw (shape.0, shape.1) (known-whole i known).fits

  shape-room : n ≤ LARGEST
  shape-room = (size_room shape-fits).1

  -- the state's bytes told over zeros
  pub part-taken : (s x : List ℕ) (o state : State) {w : List ℕ} → told n o ≡ take n s → told n state ≡ (taken R x (from (told n o)) (length x / R)).state
      → w ≡ over (told (min (length (take (n - 0) (drop 0 (replicate {A = ℕ} LARGEST 0)))) ROOM) state) (take (n - 0) (drop 0 (replicate {A = ℕ} LARGEST 0)))
      → put_mid 0 (n - 0) (replicate {A = ℕ} LARGEST 0) w ≡ taken_in i s x
  unfolding taken_in
  part-taken s x o state {w} first e w-is =
      let z : n - 0 ≡ n = omega arith in
      let zeros : List ℕ = replicate LARGEST 0 in
      let long : length (take n zeros) ≡ n = length-take-le n zeros (let l = shape-room in omega (arith, length-replicate {A = ℕ} LARGEST 0)) in
      let m : min n ROOM ≡ n = let l = shape-room in omega arith in
      let after = (taken R x (from (take n s)) (length x / R)).state in
      let out : w ≡ told n state = w-is ∙ rw (z, long, m) (over-whole (told n state) (take n zeros) (omega (arith, length-told n state))) in
      let bytes : w ≡ after = out ∙ e ∙ rw first in
      let la : length after ≡ n = ap (λ (l : List ℕ). length l) (sym bytes ∙ out) ∙ length-told n state in
      let whole : take LARGEST after ≡ after = take_all LARGEST after (let l = shape-room in omega arith) in
      rw (z, bytes, known, ← shape.0, ← shape.1)
      (ap₂ (λ (u : List ℕ) (k : ℕ). u ++ drop k zeros) (sym whole) (sym (ap (λ (l : List ℕ). length l) whole ∙ la)))

  -- the last block and the outputs
  pub rest-closed : (s rest : List ℕ) (o state : State) {w : List ℕ} → told n o ≡ take n s
      → told n state ≡ permute ROUNDS (xored (take R (last_block rest)) (told n o))
      → w ≡ (squeezed R (from (told n state)) k).hash → w ≡ closed_by i s rest
  unfolding closed_by closed
  rest-closed s rest o state first e w-is =
      w-is
      ∙ squeezed-state R (from (told n state)) (called (permute ROUNDS) (changed (xored (take R (last_block rest))) (from (take n s)))) k (e ∙ rw first)
      ∙ rw (known, shape.0, shape.1, shape.2)

  -- the message taken up and the outputs
  pub message-hashed : (m : List ℕ) (s : State) {w : List ℕ} → told n s ≡ (absorbed n R m (block_count R m)).state → w ≡ (squeezed R (from (told n s)) k).hash
      → w ≡ hash_of i m
  unfolding hash_of digest_of sponged
  message-hashed m s e w-is =
      w-is ∙ squeezed-state R (from (told n s)) (absorbed n R m (block_count R m)) k e ∙ rw (known, shape.0, shape.1, shape.2)
