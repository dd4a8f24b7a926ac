use mathlib.Core.Path.{◌≡◌, sym, ◌∙◌}
use mathlib.Core.List.{List}
use Prim.Native.Nat.{ℕ, ◌+◌, ◌-◌, ◌*◌}
use native.Mathlib.Omega.{arith}
use lib.ListN.{drop, take}
use Rattle.bundle_spec.specs.Bundles.{glyph_rows}
use Rattle.bundle_spec.specs.Lengths.{glyph_field}
use Rattle.bundle_spec.specs.Places.{rows_at}
use Rattle.bundle_read.proofs.Walking.{cut_out, among-end, among-here, among-on}
use Rattle.bundle_read.proofs.among_behind.Goals as goal

-- the rows of the glyph at a place
abbrev rows_of_glyph : List ℕ → ℕ → List ℕ
rows_of_glyph b g = take glyph_rows (drop rows_at (drop g b))

pub returns-then-compare : goal.returns-then-compare
returns-then-compare c =
    let l = c.loop-i in
    let at = c.args.from + glyph_field * l.i in
    sym (among-here (rows_of_glyph c.args.b.now c.args.g) c.args.b.now at (c.args.count - l.i) (omega arith)
    (sym (cut_out c.args.b.now c.args.g at) ∙ sym c.compare.ensures ∙ c.if-compare.true))
    ∙ l.invariant

pub loop-i-preserved : goal.loop-i-preserved
loop-i-preserved c =
    let l = c.loop-i in
    let at = c.args.from + glyph_field * l.i in
    let next : c.args.from + glyph_field * (l.i + 1) ≡ at + glyph_field = omega arith in
    let fewer : c.args.count - (l.i + 1) ≡ c.args.count - l.i - 1 = omega arith in
    rw (next, fewer)
    (sym (among-on (rows_of_glyph c.args.b.now c.args.g) c.args.b.now at (c.args.count - l.i) (omega arith)
    (sym (cut_out c.args.b.now c.args.g at) ∙ sym c.compare.ensures ∙ c.if-compare.false))
    ∙ l.invariant)

pub returns : goal.returns
returns c =
    let l = c.loop-i in
    sym (among-end (rows_of_glyph c.args.b.now c.args.g) c.args.b.now (c.args.from + glyph_field * l.i) (c.args.count - l.i) (omega arith)) ∙ l.invariant
