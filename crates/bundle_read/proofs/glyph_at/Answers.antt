-- `glyph_at` meets its promise: a field of ten bytes, its character, its rows. Assumes nothing.
use mathlib.Core.Path.{◌≡◌, sym, ◌∙◌}
use mathlib.Core.Bool.{false}
use Rattle.base_lists.specs.Never.{never}
use Prim.Native.Nat.{◌+◌, ◌-◌}
use native.Mathlib.Omega.{arith}
use borrow.Author.Tests.{eq-eqb}
use Rattle.bundle_spec.specs.Bundles.{glyph_rows}
use Rattle.bundle_spec.specs.Lengths.{glyph_field}
use Rattle.bundle_spec.specs.Places.{rows_at}
use Rattle.bundle_read.proofs.Reading.{no-glyph, a-glyph}
use Rattle.bundle_read.proofs.glyph_at.Goals as goal
use Rattle.bundle_read.proofs.glyph_at.Goals.{then-value_at-ne0, else-value_at-ne0}

pub returns-then-b-at : goal.returns-then-b-at
returns-then-b-at c = elim c.if-value_at-ne0.branch [
  | then-value_at-ne0 w ↦
      let is = a-glyph c.args.b.now c.args.at c.args.c c.requires (λ e. w.if-value_at-ne0.true (c.value_at.ensures ∙ e)) in
      let nine : c.args.at + glyph_field - (c.args.at + rows_at) ≡ glyph_rows = omega arith in
      c.all_dotted.ensures ∙ rw nine (sym (is ∙ rw (sym w.value-is ∙ c.if-b-at.true)))
  | else-value_at-ne0 w ↦
      let off : c.if-value_at-ne0.value ≡ false = w.value-is ∙ rw (eq-eqb c.value_at.result 0 w.if-value_at-ne0.false) in
      never (sym off ∙ c.if-b-at.true)
]

pub returns-else-b-at : goal.returns-else-b-at
returns-else-b-at c = elim c.if-value_at-ne0.branch [
  | then-value_at-ne0 w ↦
      let is = a-glyph c.args.b.now c.args.at c.args.c c.requires (λ e. w.if-value_at-ne0.true (c.value_at.ensures ∙ e)) in
      c.if-b-at.false ∙ sym (is ∙ rw (sym w.value-is ∙ c.if-b-at.false))
  | else-value_at-ne0 w ↦ c.if-b-at.false ∙ no-glyph c.args.b.now c.args.at c.args.c (sym w.if-value_at-ne0.false ∙ c.value_at.ensures)
]
