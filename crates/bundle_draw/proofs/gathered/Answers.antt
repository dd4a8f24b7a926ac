use mathlib.Core.Path.{◌≡◌, sym, ◌∙◌}
use Prim.Native.Nat.{ℕ}
use native.Mathlib.Omega.{arith}
use lib.ListN.{get_or}
use lib.Seq.{take_all}
use Rattle.base_lists.specs.Upto.{Upto}
use Rattle.bundle_spec.specs.Bundles.{all_rows}
use Rattle.bundle_draw.specs.Answers.{row_place, gathered_from}
use Rattle.bundle_draw.specs.Listed.{upto-listed}
use Rattle.bundle_draw.proofs.gathered.Goals as goal

pub returns : goal.returns
unfolding gathered_from
returns c =
    let l = c.loop-k in
    let f : ℕ → ℕ = λ m. get_or c.args.bundle.now (row_place c.args.n m) 0 in
    let whole : l.k ≡ all_rows = omega arith in
    let u : Upto f l.row-items all_rows = rw whole at l.invariant in
    sym (take_all all_rows l.row-items (omega arith)) ∙ upto-listed f l.row-items all_rows u.at (omega arith)
