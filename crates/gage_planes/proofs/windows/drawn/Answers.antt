use mathlib.Core.Path.{ap, ◌∙◌}
use native.Mathlib.Nat.{mod-eq_of_lt}
use Rattle.gage_planes_spec.specs.Planes.{drawn_out}
use Rattle.gage_planes_spec.specs.Exact.{same-windows}
use borrow.Author.Rules.{rules}
use Rattle.gage_planes.proofs.windows.drawn.Goals as goal

pub returns : goal.returns
returns c =
    let w = c.args.w in
    same-windows (c.drawn_out.ensures ∙ ap (drawn_out w.first w.second c.args.m) (mod-eq_of_lt (search rules)))
    (c.drawn_out-2.ensures ∙ ap (drawn_out w.second w.first c.args.m) (mod-eq_of_lt (search rules)))
