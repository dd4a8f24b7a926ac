-- `nonce_of` meets its promise: a stretch that is refused holds no fields, and else its body's are looked at. Assumes nothing.
use mathlib.Core.Path.{sym, ◌∙◌}
use Rattle.read_nonce.proofs.Handed.{none-refused, body-fits, body-holds}
use native.Mathlib.Omega.{arith}
use lib.Seq.{length-take-le}
use Rattle.read_nonce.proofs.nonce_of.Goals as goal

pub returns-in_default : goal.returns-in_default
returns-in_default c =
    c.none.ensures ∙ none-refused c.args.stretch.now _ (omega arith) c.in_default.field-0
    (sym c.unstuff.ensures.value ∙ c.in_default.is)

pub slice_bounds-body-end : goal.slice_bounds-body-end
slice_bounds-body-end c =
    body-fits c.args.stretch.now _ _ _
    (sym c.unstuff.ensures.value ∙ c.in-Ok.is) c.unstuff.ensures.out_after

pub slice_bounds-in_body-end : goal.slice_bounds-in_body-end
slice_bounds-in_body-end c =
    sym (length-take-le _ _ (body-fits c.args.stretch.now _ _ _
    (sym c.unstuff.ensures.value ∙ c.in-Ok.is) c.unstuff.ensures.out_after))

pub returns : goal.returns
returns c =
    c.in_body.ensures
    ∙ body-holds c.args.stretch.now _ _ _
    (sym c.unstuff.ensures.value ∙ c.in-Ok.is) c.unstuff.ensures.out_after
