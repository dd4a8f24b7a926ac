use mathlib.Core.Path.{◌≡◌, sym, ◌∙◌}
use Prim.Native.Nat.{◌+◌, ◌-◌, ◌*◌}
use native.Mathlib.Omega.{arith}
use Rattle.bundle_spec.specs.Bundles.{glyph_count}
use Rattle.bundle_spec.specs.Lengths.{glyph_field}
use Rattle.bundle_read.proofs.Walking.{repeated-end, repeated-here, repeated-on}
use Rattle.bundle_read.proofs.alike_from.Goals as goal

pub returns-then-among_behind : goal.returns-then-among_behind
returns-then-among_behind c =
    let l = c.loop-i in
    let fewer : glyph_count - l.i - 1 ≡ glyph_count - 1 - l.i = omega arith in
    sym (repeated-here c.args.b.now (c.args.from + glyph_field * l.i) (glyph_count - l.i) (omega arith)
    (rw fewer (sym c.among_behind.ensures ∙ c.if-among_behind.true)))
    ∙ l.invariant

pub loop-i-preserved : goal.loop-i-preserved
loop-i-preserved c =
    let l = c.loop-i in
    let at = c.args.from + glyph_field * l.i in
    let next : c.args.from + glyph_field * (l.i + 1) ≡ at + glyph_field = omega arith in
    let fewer : glyph_count - l.i - 1 ≡ glyph_count - 1 - l.i = omega arith in
    let left : glyph_count - (l.i + 1) ≡ glyph_count - l.i - 1 = omega arith in
    rw (next, left)
    (sym (repeated-on c.args.b.now at (glyph_count - l.i) (omega arith) (rw fewer (sym c.among_behind.ensures ∙ c.if-among_behind.false)))
    ∙ l.invariant)

pub returns : goal.returns
returns c =
    let l = c.loop-i in
    sym (repeated-end c.args.b.now (c.args.from + glyph_field * l.i) (glyph_count - l.i) (omega arith)) ∙ l.invariant
