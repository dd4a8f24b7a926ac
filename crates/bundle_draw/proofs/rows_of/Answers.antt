use mathlib.Core.Path.{◌≡◌, sym, ◌∙◌}
use native.Mathlib.Omega.{arith}
use lib.Seq.{take_all}
use Rattle.base_lists.specs.Upto.{Upto}
use Rattle.bundle_spec.specs.Bundles.{all_rows}
use Rattle.bundle_draw.specs.Making.{row_from}
use Rattle.bundle_draw.specs.Listed.{upto-listed}
use Rattle.bundle_draw.proofs.rows_of.Goals as goal

pub returns : goal.returns
returns c =
    let l = c.loop-k in
    let f = row_from c.args.text.now c.args.from in
    let whole : l.k ≡ all_rows = omega arith in
    let u : Upto f l.row-items all_rows = rw whole at l.invariant in
    sym (take_all all_rows l.row-items (omega arith)) ∙ upto-listed f l.row-items all_rows u.at (omega arith)
