use mathlib.Core.Path.{◌≡◌, sym, ◌∙◌}
use Prim.Native.Nat.{◌+◌, ◌*◌}
use native.Mathlib.Omega.{arith}
use Rattle.bundle_spec.specs.Bundles.{characters}
use Rattle.bundle_spec.specs.Lengths.{glyph_field}
use Rattle.bundle_read.proofs.Walking.{rows_end, rows_on, rows-not}
use Rattle.bundle_read.proofs.glyphs_from.Goals as goal

pub returns-then-not-glyph_at : goal.returns-then-not-glyph_at
returns-then-not-glyph_at c =
    let l = c.loop-i in
    sym (rows-not characters c.args.b.now l.i (c.args.from + glyph_field * l.i) (omega arith) (sym c.glyph_at.ensures ∙ c.if-not-glyph_at.true))
    ∙ l.invariant

pub loop-i-preserved : goal.loop-i-preserved
loop-i-preserved c =
    let l = c.loop-i in
    let next : c.args.from + glyph_field * (l.i + 1) ≡ c.args.from + glyph_field * l.i + glyph_field = omega arith in
    rw next
    (sym (rows_on characters c.args.b.now l.i (c.args.from + glyph_field * l.i) (omega arith) (sym c.glyph_at.ensures ∙ c.if-not-glyph_at.false))
    ∙ l.invariant)

pub returns : goal.returns
returns c =
    let l = c.loop-i in
    sym (rows_end characters c.args.b.now l.i (c.args.from + glyph_field * l.i) (omega arith) (omega arith)) ∙ l.invariant
