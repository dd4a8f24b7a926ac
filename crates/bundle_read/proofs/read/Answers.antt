-- `read` meets its promise: no name, an end elsewhere, else the glyphs and whether two of them are alike. Assumes nothing.
use mathlib.Core.Path.{◌≡◌, sym, ◌∙◌}
use Prim.Native.Nat.{◌+◌, ◌≤◌}
use native.Mathlib.Omega.{arith}
use lib.ListN.{length}
use Rattle.base_fields.specs.Fields.{head_length, front}
use Rattle.bundle_spec.specs.Bundles.{name_tag, takes}
use Rattle.bundle_read.specs.Answers.{length_found}
use Rattle.bundle_read.proofs.Judging.{no_name, name-inside, other-end, as-told}
use Rattle.bundle_read.proofs.read.Goals as goal
use Rattle.bundle_read.proofs.read.Goals.{Else-n-eq0}

-- past the first test a name stands first
some : (c : Else-n-eq0) → length_found (front takes name_tag c.args.bundle.now) ≡ 0 → ⊥
some c e = c.if-n-eq0.false (c.value_at-n.ensures ∙ e)

inside : (c : Else-n-eq0) → head_length + c.value_at-n.result ≤ length c.args.bundle.now
inside c = rw c.value_at-n.ensures (name-inside c.args.bundle.now (some c))

pub returns-then-n-eq0 : goal.returns-then-n-eq0
returns-then-n-eq0 c = no_name c.args.bundle.now (sym c.value_at-n.ensures ∙ c.if-n-eq0.true)

pub overflow_add-from : goal.overflow_add-from
overflow_add-from c = omega (arith, inside c)

pub overflow_sub-bundle : goal.overflow_sub-bundle
overflow_sub-bundle c = omega (arith, inside c)

pub returns-then-bundle-from-ne-GLYPHS_LENGTH : goal.returns-then-bundle-from-ne-GLYPHS_LENGTH
returns-then-bundle-from-ne-GLYPHS_LENGTH c =
    let e = c.value_at-n.ensures in
    let other = c.if-bundle-from-ne-GLYPHS_LENGTH.true in
    other-end c.args.bundle.now (some (goal.at.returns-then-bundle-from-ne-GLYPHS_LENGTH c).Else-n-eq0) (rw e at other)

pub returns : goal.returns
returns c =
    let s = c in
    let e = c.value_at-n.ensures in
    let stand = c.glyphs_from.ensures in
    let alike = c.alike_from.ensures in
    c.answer.ensures ∙ rw (stand, alike, e) (as-told s.args.bundle.now (some (goal.at.returns c).Else-n-eq0))
