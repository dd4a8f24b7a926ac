-- `line_char` meets its promise: behind the line no dot is printed. Assumes nothing.
use mathlib.Core.Path.{sym}
use borrow.Author.Tests.{ne_eqb}
use native.Mathlib.Omega.{arith}
use Rattle.bundle_dots.specs.Lines.{line_end, line_char}
use Rattle.bundle_dots.proofs.Places.{no-dot}
use Rattle.bundle_dots.proofs.line_char.Goals as goal

pub returns-in_default : goal.returns-in_default
unfolding line_char
returns-in_default c =
    let m = c.args.m in
    rw (ne_eqb m 0 (λ e. omega arith), ne_eqb m 1 (λ e. omega arith), ne_eqb m line_end (λ e. omega arith))
    (sym (no-dot c.args.r m (omega arith)))
