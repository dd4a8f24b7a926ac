-- `put` meets its promise: the part lent to `copy` runs to the array's end. Assumes nothing.
use Rattle.gage_spec.specs.Permutation.{LARGEST}
use Rattle.ingage_steps.proofs.Writing.{put-out, put_in}
use mathlib.Core.Path.{◌≡◌}
use lib.ListN.{length}
use native.Mathlib.Omega.{arith}
use borrow.Author.Rules.{rules}
use Rattle.ingage_steps.proofs.put.Goals as goal

pub returns-then-at-gt-LARGEST : goal.returns-then-at-gt-LARGEST
returns-then-at-gt-LARGEST c =
    let l : length c.args.s ≡ LARGEST = search rules in
    put-out c.args.at c.args.b.now c.args.s (omega arith)

pub returns : goal.returns
returns c =
    put_in c.args.at LARGEST c.args.b.now c.args.s _ (search rules) c.copy.ensures
