-- `calls` meets its promise: a quotient is at most what is divided, and that is not too long, so the sums fit. Assumes nothing.
use mathlib.Core.Path.{◌≡◌, sym, ◌∙◌}
use mathlib.Core.Bool.{true, false}
use Prim.Native.Nat.{◌/◌, ◌≤◌}
use native.Mathlib.Nat.{div-le_self, le_trans}
use native.Mathlib.Omega.{arith}
use borrow.Author.Tests.{lt-ltb, le-ltb}
use Rattle.ingage_answers.specs.Answers.{LONGEST-ASSOCIATED, LONGEST-TEXT, too_long, calls_of}
use Rattle.ingage_answers.specs.Exactly.{not-too-long}
use Rattle.ingage_answers.proofs.calls.Goals as goal
use Rattle.ingage_answers.proofs.calls.Goals.{Else-is_too_long}

-- past the refusals: no quotient is more than what may be divided
few : (c : Else-is_too_long) → (c.args.assoc / c.args.z.rate ≤ LONGEST-ASSOCIATED)
    × (c.args.text / c.args.z.rate ≤ LONGEST-TEXT)
few c =
    let s = c.args in
    let n = not-too-long s.assoc s.text (sym c.is_too_long.ensures ∙ c.if-is_too_long.false) in
    (le_trans (div-le_self s.assoc s.z.rate) n.0, le_trans (div-le_self s.text s.z.rate) n.1)

pub returns-then-each-lt1 : goal.returns-then-each-lt1
unfolding calls_of
returns-then-each-lt1 c = rw (lt-ltb _ _ c.if-each-lt1.true)

pub returns-then-is_too_long : goal.returns-then-is_too_long
unfolding calls_of
returns-then-is_too_long c =
    let l : too_long c.args.assoc c.args.text ≡ true = sym c.is_too_long.ensures ∙
    c.if-is_too_long.true in
    rw (le-ltb _ _ c.if-each-lt1.false, l)

pub overflow_add-result : goal.overflow_add-result
overflow_add-result c = let f = few c in omega arith

pub overflow_add-result-2 : goal.overflow_add-result-2
overflow_add-result-2 c = let f = few c in omega arith

pub overflow_add-result-3 : goal.overflow_add-result-3
overflow_add-result-3 c = let f = few c in omega arith

pub overflow_add-result-4 : goal.overflow_add-result-4
overflow_add-result-4 c = let f = few c in omega arith

pub overflow_add-result-5 : goal.overflow_add-result-5
overflow_add-result-5 c = let f = few c in omega arith

pub returns : goal.returns
unfolding calls_of
returns c =
    let l : too_long c.args.assoc c.args.text ≡ false = sym c.is_too_long.ensures ∙
    c.if-is_too_long.false in
    rw (le-ltb _ _ c.if-each-lt1.false, l)
