-- `turned` meets its promise: woven, permuted in planes, and told (`turned-is`). Assumes nothing.
use Rattle.gage_weave.specs.Arrays.{array-bytes}
use Rattle.gage_permute.proofs.Rounds.{turned-is}
use borrow.Author.Rules.{rules}
use Rattle.gage_permute.proofs.turned.Goals as goal

-- src/lib.rt:19:1
pub returns : goal.returns
returns c =
    let start = c in
    turned-is start.args.n start.args.k start.args.s _ _ _ start.requires.0 start.requires.1 (search rules)
    (array-bytes 72 start.args.s _ start.well_formed.0)
    c.weave-t.ensures c.permuted-q.ensures c.tell.ensures
