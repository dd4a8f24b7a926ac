-- What the loop over a message's whole blocks keeps, and what the last block makes of it: the bytes that the state's planes tell are those of
-- the sponge. Assumes nothing.
use mathlib.Core.Path.{◌≡◌, refl, sym, ap, ◌∙◌}
use mathlib.Core.List.{List, ◌++◌}
use Prim.Native.Nat.{ℕ, ◌+◌, ◌-◌, ◌*◌, ◌/◌, ◌≤◌, ◌<◌}
use native.Mathlib.Nat.{zero-mul, div-mul-le_self}
use native.Mathlib.Numerals.{add-one}
use native.Mathlib.Omega.{arith}
use lib.ListN.{length, take, drop, replicate, length-drop, length-append}
use Rattle.std.proofs.lemmas.Nat.{div-mul-add}
use Rattle.std.proofs.Common.{take_at, drop_at, drop-drop}
use lib.Seq.{take_all}
use Rattle.gage_spec.specs.Permutation.{LARGEST, ROUNDS, permute}
use Rattle.gage_spec.specs.Tables.{permitted-size}
use Rattle.gage_sponge.specs.Padding.{block, block_count, last_block}
use Rattle.gage_sponge.specs.Absorbing.{xored, from}
use Rattle.gage_sponge.proofs.Blocks.{blocks-suc, last-block-cut, take-replicate}
use Rattle.gage_planes_spec.specs.declared.State.{State}
use Rattle.gage_planes_spec.specs.Told.{told}
use Rattle.gage_weave.specs.Mixing.{MixedIn}
use Rattle.digest_spec.specs.Shapes.{Fits}
use Rattle.digest_spec.specs.Hashing.{absorbed}
use Rattle.digest_sponge.specs.Parts.{taken}
use Rattle.digest_sponge.specs.Joining.{absorbed-taken}

-- from the state o, after i whole blocks of the message, and what is left of it
pub record Taken (n R : ℕ) (m : List ℕ) (o s : State) (rest : List ℕ) (i : ℕ) : Type 0 where
  pub fits : Fits n R
  pub long : length m ≡ i * R + length rest
  pub left : rest ≡ drop (i * R) m
  pub state : told n s ≡ (taken R m (from (told n o)) i).state

-- a size has room for every block
pub size_room : {n R : ℕ} → Fits n R → (R ≤ n) × (n ≤ LARGEST)
size_room f = let s = permitted-size _ f.permits in let l = f.least in (omega arith, s.1)

pub taken_none : {n R : ℕ} (m : List ℕ) (s : State) → Fits n R → Taken n R m s s m 0
unfolding taken
taken_none {n} {R} m s f = record {
  fits = f;
  long = omega (arith, zero-mul R);
  left = rw zero-mul refl;
  state = refl;
}

-- one block, then the permutation
stepped : {n R : ℕ} {s u : State} (v : State) (b t : List ℕ) → Fits n R → told n s ≡ t
    → MixedIn b s u → told n v ≡ permute ROUNDS (told n u) → told n v ≡ permute ROUNDS (xored b t)
stepped {n} v b t f e x p = p ∙ ap (permute ROUNDS) (x.each n (size_room f).1 ∙ ap (xored b) e)

pub taken_more : {n R : ℕ} {m : List ℕ} {o s u v : State} {rest : List ℕ} {i : ℕ} (b r : List ℕ) → Taken n R m o s rest i → rest ≡ b ++ r → length b ≡ R
    → MixedIn b s u → told n v ≡ permute ROUNDS (told n u) → Taken n R m o v r (i + 1)
unfolding taken
taken_more {n} {R} {m} {o} {s} {u} {v} {rest} {i} b r t e l x p =
    let e-block : take R (drop (i * R) m) ≡ b = rw (← t.left, e) (take_at b r R l) in
    let e-left : drop R (drop (i * R) m) ≡ r = rw (← t.left, e) (drop_at b r R l) in
    record {
      fits = t.fits;
      long = let long : length m ≡ i * R + length rest = t.long in omega (arith, blocks-suc i R, ap length e, length-append b r, l);
      left = sym e-left ∙ drop-drop R (i * R) m ∙ ap (λ (k : ℕ). drop k m) (sym (blocks-suc i R));
      state = stepped v (take R (drop (i * R) m)) (taken R m (from (told n o)) i).state t.fits t.state (rw e-block x) p
          ∙ ap (λ (k : ℕ). (taken R m (from (told n o)) k).state) (sym (add-one i));
    }

pub taken-all : {n R : ℕ} {m : List ℕ} {o s : State} {rest : List ℕ} {i : ℕ} → Taken n R m o s rest i → length rest < R
    → told n s ≡ (taken R m (from (told n o)) (length m / R)).state
taken-all {n} {R} {m} {o} {s} {rest} {i} t h =
    let e : length m / R ≡ i = ap (λ (k : ℕ). k / R) t.long ∙ div-mul-add i R (length rest) h in
    t.state ∙ ap (λ (k : ℕ). (taken R m (from (told n o)) k).state) (sym e)

-- what is left of a message behind its whole blocks, as the last block
pub last_taken : {n R : ℕ} (rest : List ℕ) {last : List ℕ} (s u v : State) → Fits n R → last ≡ last_block rest
    → MixedIn (take (R - 0) (drop 0 last)) s u → told n v ≡ permute ROUNDS (told n u)
    → told n v ≡ permute ROUNDS (xored (take R (last_block rest)) (told n s))
last_taken {n} {R} rest {last} s u v f e x p =
    let z : R - 0 ≡ R = omega arith in
    stepped v (take R (last_block rest)) (told n s) f refl (rw (z, e) at x) p

-- both, from a state of zeros, are the sponge after all blocks
pub all-taken : {n R : ℕ} (m : List ℕ) (o s v : State) {at : ℕ} → Fits n R → told n o ≡ take n (replicate LARGEST 0)
    → told n s ≡ (taken R m (from (told n o)) (length m / R)).state → at ≡ length m / R * R
    → told n v ≡ permute ROUNDS (xored (take R (last_block (take (length m - at) (drop at m)))) (told n s))
    → told n v ≡ (absorbed n R m (block_count R m)).state
unfolding absorbed
all-taken {n} {R} m o s v {at} f none e place p =
    let q = length m / R in
    let ends : q * R ≤ length m = div-mul-le_self (length m) R in
    let rest : take (length m - at) (drop at m) ≡ drop (q * R) m = take_all (length m - at) (drop at m) (rw length-drop (omega arith)) ∙ rw place in
    let zeros : told n o ≡ replicate n 0 = none ∙ take-replicate n LARGEST 0 (size_room f).1 in
    let st : told n s ≡ (absorbed n R m q).state = e ∙ rw (zeros, absorbed-taken n R m q ends) in
    let b : take R (last_block (drop (q * R) m)) ≡ block R m q = last-block-cut R m q f.some f.least refl in
    p ∙ rw (rest, st, b, add-one q)
