-- `substitute` meets its promise: the first n bytes are substituted in a wide state, and put back. Assumes nothing.
use Prim.Native.Nat.{◌%◌}
use lib.ListN.{replicate}
use Rattle.gage_cells.specs.Sizes.{WIDE}
use Rattle.gage_cells.specs.Cells.{table, substitute}
use Rattle.gage_cells.specs.States.{length-substitute}
use Rattle.gage_substitute.proofs.Firsts.{put_first}
use borrow.Author.Rules.{rules}
use Rattle.gage_substitute.proofs.substitute.Goals as goal

pub returns : goal.returns
returns c =
    let start = c in
    let l = start.args.leader % 4 in
    put_first (substitute table l) (length-substitute table l) start.args.n _ start.args.s (replicate WIDE 0) (search rules) (search rules)
    c.min-first.ensures _ _ _
    c.copy.ensures
    c.substitute_wide-out.ensures c.copy-2.ensures
