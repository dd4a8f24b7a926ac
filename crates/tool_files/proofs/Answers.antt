-- What a tested answer of a read is by definition, and what becomes of a load after it. Assumes nothing.
use Rattle.std.specs.Prelude.{Ok, Err, Result}
use mathlib.Core.Path.{◌≡◌, refl, sym, ap, subst}
use mathlib.Core.Bool.{Bool, true, false, cond}
use Prim.Native.Nat.{ℕ, ◌+◌, ◌≤◌, ◌<◌}
use native.Mathlib.Omega.{arith}
use lib.Dec.{T, eqb}
use lib.IntN.{ℤ, pos, negsuc, nat_abs}
use lib.Signed.{lt_z, non_neg}
use borrow.Author.Tests.{ltb-true, ltb-false, le-leb, lt-leb, eq-eqb, ne_eqb}
use mir.Syntax.{w64}
use mir.Val.{to_z, of_z, SFits}
use mir.Facts.{to_z-of_z}
use Rattle.tool_files.specs.Loading.{heard_of, stepped, held_in, HeardIn}
use Rattle.tool_files.specs.declared.Heard.{Heard}
use Rattle.tool_files.specs.declared.Heard.TheVariants as heard
use Rattle.tool_files.specs.declared.LoadFault.{LoadFault}
use Rattle.tool_files.specs.declared.LoadFault.TheVariants.{Long, Failed}
use Rattle.tool_files.specs.declared.Step.TheVariants.{On, Ended}

-- a number above 0, as the machine tests it
pub positive : (z : ℤ) → lt_z (pos 0) z ≡ true → T (non_neg z)
positive (pos n) e = tt
positive (negsuc n) e = subst T (sym e) tt

pub some : (z : ℤ) (i : Bool) → lt_z (pos 0) z ≡ true → heard.Some (nat_abs z) ≡ heard_of z i
unfolding heard_of
some (pos n) i e = let h = ltb-true 0 n e in rw (ne_eqb n 0 (λ q. omega (arith, h, q))) refl
some (negsuc n) i e = absurd (positive (negsuc n) e)

pub failed : (z : ℤ) (i : Bool) → lt_z z (pos 0) ≡ true → cond i heard.Again heard.Failed ≡ heard_of z i
unfolding heard_of
failed (pos n) i e = let h = ltb-true n 0 e in absurd (omega (arith, h))
failed (negsuc n) i e = refl

pub ended : (z : ℤ) (i : Bool) → lt_z (pos 0) z ≡ false → lt_z z (pos 0) ≡ false → heard.End ≡ heard_of z i
unfolding heard_of
ended (pos n) i e f = let h = ltb-false 0 n e in rw (eq-eqb n 0 (omega (arith, h))) refl
ended (negsuc n) i e f = absurd (subst T f tt)

-- the answer as the machine reads it back is the answer
pub read_back : (z : ℤ) (i : Bool) → SFits w64 z → heard_of (to_z w64 (of_z w64 z)) i ≡ heard_of z i
read_back z i f = ap (λ (y : ℤ). heard_of y i) (to_z-of_z f)

-- what is heard of a count that is within the buffer of the read
heard-count : (n room : ℕ) → n ≤ room → HeardIn (heard_of (pos n) false) room
unfolding heard_of
heard-count n room h = go (eqb n 0)
  where
    go : (t : Bool) → HeardIn (cond t heard.End (heard.Some n)) room
    go true = tt
    go false = h

-- what is heard of an error
heard_error : (n : ℕ) (i : Bool) (room : ℕ) → HeardIn (heard_of (negsuc n) i) room
unfolding heard_of
heard_error n true room = tt
heard_error n false room = tt

pub count-within : (n room : ℕ) (h : Heard) → h ≡ heard_of (pos n) false → n ≤ room → HeardIn h room
count-within n room h e m = subst (λ (x : Heard). HeardIn x room) (sym e) (heard-count n room m)

pub error_within : (n : ℕ) (i : Bool) (room : ℕ) (h : Heard) → h ≡ heard_of (negsuc n) i → HeardIn h room
error_within n i room h e = subst (λ (x : Heard). HeardIn x room) (sym e) (heard_error n i room)

-- after a read: the buffer is full and more came; bytes that fit
pub too_long : (done room n : ℕ) (h : Heard) → h ≡ heard.Some n → room < done + n → Ended (Err Long) ≡ stepped done room h
unfolding stepped
too_long done room n h e f = rw (e, lt-leb (done + n) room f) refl

pub goes_on : (done room n : ℕ) (h : Heard) → h ≡ heard.Some n → done + n ≤ room → On (done + n) ≡ stepped done room h
unfolding stepped
goes_on done room n h e f = rw (e, le-leb (done + n) room f) refl

-- a load as it stands in a buffer
pub beyond : (n room : ℕ) (l : Result ℕ LoadFault) → l ≡ Ok n → room < n → Err Failed ≡ held_in l room
unfolding held_in
beyond n room l e f = rw (e, lt-leb n room f) refl

pub inside : (n room : ℕ) (l : Result ℕ LoadFault) → l ≡ Ok n → n ≤ room → Ok n ≡ held_in l room
unfolding held_in
inside n room l e f = rw (e, le-leb n room f) refl

pub as-it-was : (f : LoadFault) (room : ℕ) (l : Result ℕ LoadFault) → l ≡ Err f → Err f ≡ held_in l room
unfolding held_in
as-it-was f room l e = rw e refl
