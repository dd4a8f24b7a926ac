-- `digest_of` meets its promise: too long, then what the reader says. Assumes nothing.
use Rattle.std.specs.Prelude.{Err}
use Rattle.std.proofs.lemmas.Result.{err_from_is_err_and}
use mathlib.Core.Path.{sym, ap, ◌∙◌}
use native.Mathlib.Omega.{arith}
use Rattle.bundle_write.specs.Order.{long-refused, faulty-bundle, of-bundle}
use Rattle.bundle_write.proofs.digest_of.Goals as goal

pub returns-then-bundle-gt-LONGEST_MESSAGE : goal.returns-then-bundle-gt-LONGEST_MESSAGE
returns-then-bundle-gt-LONGEST_MESSAGE c =
    let s = c in record { value = (long-refused s.args.bundle.now s.args.out.now (omega arith)).0; out_after = (long-refused s.args.bundle.now s.args.out.now (omega arith)).1 }

pub returns-in_err-read : goal.returns-in_err-read
returns-in_err-read c =
    let (y, is, from) = err_from_is_err_and c.from_residual.result c.from_residual.ensures.1 in
    let told = faulty-bundle c.args.bundle.now c.args.out.now (omega arith) c.in_err-read.field-0.0 (sym c.read.ensures ∙ c.in_err-read.was) in
    record { value = is ∙ ap Err from ∙ told.0; out_after = told.1 }

pub returns : goal.returns
returns c =
    let told = of-bundle c.args.bundle.now c.args.out.now (omega arith) _ (sym c.read.ensures ∙ c.in_ok-read.was) in
    record { value = c.font_digest.ensures.value ∙ told.0; out_after = c.font_digest.ensures.out_after ∙ told.1 }
