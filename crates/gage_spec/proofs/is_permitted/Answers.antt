use Rattle.std.proofs.Common.{◌≡◌, refl, sym, ap, ◌∙◌, ◌<◌, ◌+◌, Bool, true, false, cond, ℕ, drop, get_or, eqb, arith, add-one}
use Rattle.std.proofs.Math.Seq.{drop-cons}
use Rattle.std.proofs.lemmas.Bool.{eq-eqb}
use Rattle.std.proofs.lemmas.Bool.Decides.{nat_tests}
use Rattle.gage_spec.specs.Permutation.{sizes, among, permitted}
use Rattle.gage_spec.proofs.is_permitted.Goals as goal

-- the size at i, and those behind it
step : (n i : ℕ) → i < 10 → among n (drop i sizes) ≡ cond (eqb n (get_or sizes i 0)) true (among n (drop (i + 1) sizes))
unfolding among
step n i h = rw add-one (ap (among n) (drop-cons sizes i 0 h))

other : (a b : ℕ) → (b ≡ a → ⊥) → eqb a b ≡ false
other a b h = grind (arith, nat_tests)

pub loop-size-init : goal.loop-size-init
unfolding permitted
loop-size-init c = refl

pub returns-then-size-n : goal.returns-then-size-n
returns-then-size-n c =
    let n = c.args.n in
    let i = c.loop-size.size-index in
    let here : eqb n (get_or sizes i 0) ≡ true = eq-eqb n (get_or sizes i 0) (sym c.if-size-n.true) in
    sym (ap (λ (b : Bool). cond b true (among n (drop (i + 1) sizes))) here) ∙ sym (step n i c.loop-size-test.true) ∙ c.loop-size.invariant

pub loop-size-preserved : goal.loop-size-preserved
loop-size-preserved c =
    let n = c.args.n in
    let i = c.loop-size.size-index in
    let next : eqb n (get_or sizes i 0) ≡ false = other n (get_or sizes i 0) c.if-size-n.false in
    sym (ap (λ (b : Bool). cond b true (among n (drop (i + 1) sizes))) next) ∙ sym (step n i c.loop-size-test.true) ∙ c.loop-size.invariant

pub returns : goal.returns
unfolding among
returns c =
    let all : c.loop-size.size-index ≡ 10 = omega arith in
    rw all at c.loop-size.invariant
