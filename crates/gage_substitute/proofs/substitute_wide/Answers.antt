use mathlib.Core.Path.{refl, sym}
use lib.ListN.{take}
use lib.Seq.{length-take-le, get_or-take}
use Rattle.gage_cells.specs.Wide.{substituting-more, substituted-first}
use borrow.Author.Rules.{rules}
use Rattle.gage_substitute.proofs.substitute_wide.Goals as goal

pub loop-i-preserved : goal.loop-i-preserved
loop-i-preserved c = (search rules, substituting-more _ _ c.loop-i.invariant.1 (search rules) refl c.substituted_byte.ensures)

pub returns : goal.returns
returns c =
    let n = c.args.n in
    let w = c.args.w in
    substituted-first n (take n w) c.loop-i.invariant.1 (search rules) (search rules) (length-take-le n w (search rules))
    (λ k h. sym (get_or-take n w k 0 h))
