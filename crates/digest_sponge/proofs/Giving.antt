-- What the loop that gives out keeps: the state is the sponge's after j outputs, and the digest's first bytes are those outputs.
-- Assumes nothing.
use mathlib.Core.Path.{◌≡◌, refl, sym, ap, ◌∙◌}
use mathlib.Core.List.{List, ◌++◌}
use Prim.Native.Nat.{ℕ, ◌+◌, ◌-◌, ◌*◌, ◌≤◌, ◌<◌, min}
use native.Mathlib.Nat.{zero-mul, mul-le-mul_right}
use native.Mathlib.Numerals.{add-one}
use native.Mathlib.Omega.{arith}
use lib.ListN.{length, take, drop, replicate, length-append, length-drop}
use lib.Seq.{take_all, take_at, take-append-add, length-take-le}
use borrow.Rule.Slice.PartMut.{put_mid, post_of}
use Rattle.base_lists.specs.Buffers.{over}
use Rattle.base_lists.specs.Over.{over-whole}
use Rattle.gage_spec.specs.Permutation.{ROUNDS, permute}
use Rattle.gage_sponge.specs.Absorbing.{from}
use Rattle.gage_sponge.proofs.Blocks.{blocks-suc}
use Rattle.gage_planes_spec.specs.declared.State.{State}
use Rattle.gage_planes_spec.specs.Told.{ROOM, told}
use Rattle.gage_planes_spec.specs.Bytes.{length-told, take-told}
use Rattle.digest_spec.specs.Instances.{DIGEST}
use Rattle.digest_spec.specs.Shapes.{Fits}
use Rattle.digest_spec.specs.Hashing.{squeezed}
use Rattle.digest_sponge.proofs.Taking.{size_room}

-- after j of k outputs from the state s
pub record Given (n R k : ℕ) (s : State) (hash : List ℕ) (t : State) (j : ℕ) : Type 0 where
  pub fits : Fits n R
  pub makes : k * R ≡ DIGEST
  pub turns : j ≤ k
  pub room : length hash ≡ DIGEST
  pub state : told n t ≡ (squeezed R (from (told n s)) j).run.state
  pub put : take (j * R) hash ≡ (squeezed R (from (told n s)) j).hash

pub given-none : {n R k : ℕ} (s : State) → Fits n R → k * R ≡ DIGEST → Given n R k s (replicate DIGEST 0) s 0
unfolding squeezed
given-none {n} {R} {k} s f e = record {
  fits = f;
  makes = e;
  turns = omega arith;
  room = refl;
  state = refl;
  put = rw zero-mul refl;
}

-- an output has room
pub given-room : {n R k : ℕ} {s t : State} {hash : List ℕ} {j : ℕ} → Given n R k s hash t j → j < k → j * R + R ≤ DIGEST
given-room {n} {R} {k} {s} {t} {hash} {j} g h =
    let makes : k * R ≡ DIGEST = g.makes in
    let ends : (j + 1) * R ≤ k * R = mul-le-mul_right R (omega arith) in
    omega (arith, blocks-suc j R)

-- x of R bytes behind the first at bytes of hash
module _ (hash x : List ℕ) (at R : ℕ) (room : length hash ≡ DIGEST) (long : length x ≡ R) (ends : at + R ≤ DIGEST) where
  front : length (take at hash) ≡ at
  front = length-take-le at hash (omega arith)

  length-put : length (put_mid at R hash x) ≡ DIGEST
  length-put = simp (length-append, length-drop) (omega (arith, front))

  first-put : take (at + R) (put_mid at R hash x) ≡ take at hash ++ x
  first-put =
      ap (λ (k : ℕ). take (k + R) (take at hash ++ (x ++ post_of at R hash))) (sym front)
      ∙ take-append-add (take at hash) (x ++ post_of at R hash) R
      ∙ ap (λ (l : List ℕ). take at hash ++ l) (take_at x (post_of at R hash) R long)

-- an output told into its place
told-out : (R : ℕ) (u : State) (o w : List ℕ) → R ≤ ROOM → length o ≡ R → w ≡ over (told (min (length o) ROOM) u) o → w ≡ told R u
told-out R u o w room long e =
    let m : min R ROOM ≡ R = omega arith in
    e ∙ rw (long, m) (over-whole (told R u) o (omega (arith, length-told R u)))

pub given-more : {n R k : ℕ} {s t u : State} {hash : List ℕ} {j : ℕ} → Given n R k s hash t j → j < k
    → told n u ≡ permute ROUNDS (told n t) → (w : List ℕ)
    → w ≡ over (told (min (length (take (j * R + R - j * R) (drop (j * R) hash))) ROOM) u) (take (j * R + R - j * R) (drop (j * R) hash))
    → Given n R k s (put_mid (j * R) (j * R + R - j * R) hash w) u (j + 1)
unfolding squeezed
given-more {n} {R} {k} {s} {t} {u} {hash} {j} g h p w e =
    let at : ℕ = j * R in
    let z : at + R - at ≡ R = omega arith in
    let size = size_room g.fits in
    let ends : at + R ≤ DIGEST = given-room g h in
    let room : length hash ≡ DIGEST = g.room in
    let part : length (take R (drop at hash)) ≡ R = length-take-le R (drop at hash) (rw length-drop (omega arith)) in
    let v : w ≡ told R u = told-out R u (take R (drop at hash)) w (omega arith) part (rw z at e) in
    let st : told n u ≡ permute ROUNDS (squeezed R (from (told n s)) j).run.state = rw g.state at p in
    let first : told R u ≡ take R (permute ROUNDS (squeezed R (from (told n s)) j).run.state) = sym (take-told R n u size.0) ∙ ap (take R) st in
    record {
      fits = g.fits;
      makes = g.makes;
      turns = omega arith;
      room = rw (z, v) (length-put hash (told R u) at R g.room (length-told R u) ends);
      state = rw (add-one j) st;
      put = rw (z, v, blocks-suc j R, add-one j) (first-put hash (told R u) at R g.room (length-told R u) ends ∙ rw (g.put, first));
    }

pub given-all : {n R k : ℕ} {s t : State} {hash : List ℕ} {j : ℕ} → Given n R k s hash t j → k ≤ j
    → hash ≡ (squeezed R (from (told n s)) k).hash
given-all {n} {R} {k} {s} {t} {hash} {j} g h =
    let turns : j ≤ k = g.turns in
    let room : length hash ≡ DIGEST = g.room in
    let e : j ≡ k = omega arith in
    let full : j * R ≡ DIGEST = rw e g.makes in
    sym (take_all (j * R) hash (omega arith)) ∙ g.put ∙ ap (λ (i : ℕ). (squeezed R (from (told n s)) i).hash) e
