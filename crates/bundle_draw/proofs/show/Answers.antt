-- `show` meets its promise: what the reader refuses, then the drawing. Assumes nothing.
use Rattle.std.specs.Prelude.{Err}
use Rattle.std.proofs.lemmas.Result.{err_from_is_err_and}
use mathlib.Core.Path.{sym, ap, ◌∙◌}
use Rattle.bundle_draw.specs.Showing.{show-no-bundle}
use Rattle.bundle_draw.proofs.show.Goals as goal

pub drawn-requires : goal.drawn-requires
drawn-requires c = sym c.read.ensures ∙ c.in_ok-n.was

pub returns-in_err-n : goal.returns-in_err-n
returns-in_err-n c =
    let (y, is, from) = err_from_is_err_and c.from_residual.result c.from_residual.ensures.1 in
    let told = show-no-bundle c.args.bundle.now c.args.out.now c.in_err-n.field-0.0 (sym c.read.ensures ∙ c.in_err-n.was) in
    record { value = is ∙ ap Err from ∙ told.0; out_after = told.1 }
