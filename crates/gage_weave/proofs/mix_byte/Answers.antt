use mathlib.Core.Path.{refl, ap, ◌∙◌}
use Prim.Native.Nat.{ℕ}
use lib.Bits.{bit_xor}
use Rattle.gage_planes_spec.specs.Exact.{same-planes, same-states}
use Rattle.gage_weave.specs.One.{mixed_one}
use Rattle.gage_weave.proofs.mix_byte.Goals as goal

-- src/lib.rt:181:1
pub returns : goal.returns
returns c =
    let start = c in
    let p = start.args.t.low in
    same-states
    (same-planes
    (ap (λ (d : ℕ). bit_xor d p.a) c.digit.ensures)
    (ap (λ (d : ℕ). bit_xor d p.b) c.digit-2.ensures)
    (ap (λ (d : ℕ). bit_xor d p.c) c.digit-3.ensures)
    (ap (λ (d : ℕ). bit_xor d p.d) c.digit-4.ensures)
    (ap (λ (d : ℕ). bit_xor d p.e) c.digit-5.ensures)
    (ap (λ (d : ℕ). bit_xor d p.f) c.digit-6.ensures)
    (ap (λ (d : ℕ). bit_xor d p.g) c.digit-7.ensures)
    (ap (λ (d : ℕ). bit_xor d p.h) c.digit-8.ensures))
    refl
    ∙ mixed_one start.args.x start.args.t
