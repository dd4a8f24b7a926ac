-- `put_frame` meets its promise: the marks and the stuffed body are laid one behind the other from the buffer's start.
-- Assumes nothing.
use Rattle.std.specs.Prelude.{Ok, Result}
use mathlib.Core.Path.{◌≡◌, ◌∙◌}
use Prim.Native.Nat.{ℕ}
use native.Mathlib.Omega.{arith}
use lib.ListN.{length}
use Rattle.frame_write.proofs.Framing.{stuffs, filled, length-filled, closed, never-refused}
use Rattle.frame_spec.specs.Lengths.{length-framed}
use Rattle.frame_stuff_spec.specs.Lengths.{stuffed-at-most}
use Rattle.frame_stuff_spec.specs.Stuffing.{stuffed}
use Rattle.frame_stuff_spec.specs.declared.StuffRefusal.{StuffRefusal}
use Rattle.frame_write.proofs.put_frame.Goals as goal
use Rattle.frame_write.proofs.put_frame.Goals.{After-stuff}

-- what the call of `stuff` answers, and the buffer behind it
answer-is : (c : After-stuff) → c.stuff.result ≡ Ok (length (stuffed c.args.body.now))
answer-is c = c.stuff.ensures.value ∙ stuffs c.args.body.now c.args.out.now c.requires

length-is : (c : After-stuff) → length (filled c.args.body.now c.args.out.now c.requires c.stuff.new.out c.stuff.ensures.out_after) ≡ length c.args.out.now
length-is c = length-filled c.args.body.now c.args.out.now c.requires c.stuff.new.out c.stuff.ensures.out_after

-- the number of stuffed bytes
count-is : {r : Result ℕ StuffRefusal} {n m : ℕ} → r ≡ Ok n → r ≡ Ok m → n ≡ m
count-is p q = cc (p, q)

pub returns-in_default : goal.returns-in_default
returns-in_default c = absurd (never-refused (answer-is (goal.at.returns-in_default c).After-stuff) c.in_default.is)

pub overflow_add-out : goal.overflow_add-out
overflow_add-out c =
    let i = count-is c.in-Ok.is (answer-is (goal.at.overflow_add-out c).After-stuff) in omega (arith, c.requires, i, stuffed-at-most c.args.body.now)

pub bounds-out-n : goal.bounds-out-n
bounds-out-n c =
    let d = (goal.at.bounds-out-n c).After-stuff in
    let i = count-is c.in-Ok.is (answer-is d) in
    omega (arith, c.requires, i, stuffed-at-most c.args.body.now, length-is d)

pub overflow_add-result : goal.overflow_add-result
overflow_add-result c =
    let i = count-is c.in-Ok.is (answer-is (goal.at.overflow_add-result c).After-stuff) in omega (arith, c.requires, i, stuffed-at-most c.args.body.now)

pub returns : goal.returns
returns c =
    let i = count-is c.in-Ok.is (answer-is (goal.at.returns c).After-stuff) in
    record {
      value = omega (arith, i, length-framed c.args.body.now);
      out_after = closed c.args.body.now c.args.out.now c.requires _ c.stuff.ensures.out_after _ i;
    }
