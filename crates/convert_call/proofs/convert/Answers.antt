-- `convert` meets its promise: the refusals in their order, then the line found sealed anew. Assumes nothing.
use Prim.Native.Nat.{ℕ}
use native.Mathlib.Omega.{arith}
use lib.ListN.{replicate, length-replicate}
use Rattle.base_lists.specs.Below.{below_all}
use Rattle.line_spec.specs.Lines.{longest}
use Rattle.frame_body.specs.Fields.{Own, own_of}
use Rattle.frame_spec.specs.Told.{Told, told}
use Rattle.convert_spec.proofs.Sorting.{convert-sizes}
use Rattle.convert_call.proofs.Converting.{right-under, met, too_small, not-given, length-fits, written}
use Rattle.convert_call.proofs.convert.Goals as goal

pub returns-then-not-sizes_right : goal.returns-then-not-sizes_right
returns-then-not-sizes_right c =
    let a = c.args in
    let t : Told = told a.key.now a.font.now a.layout in
    let own : Own = own_of a.edition a.nonce.now a.job.now in
    let p = met (convert-sizes t own _ _ (right-under t own _ c.sizes_right.ensures c.if-not-sizes_right.true)) in
    record { value = p.0; frame_after = p.1 }

pub returns-then-frame-frame_room : goal.returns-then-frame-frame_room
returns-then-frame-frame_room c =
    let a = c.args in
    let t : Told = told a.key.now a.font.now a.layout in
    let own : Own = own_of a.edition a.nonce.now a.job.now in
    let p = met (too_small t own a.stretch.now a.frame.now (right-under t own _ c.sizes_right.ensures
    c.if-not-sizes_right.false) (omega (arith, c.if-frame-frame_room.true, c.frame_room.ensures))) in
    record { value = p.0; frame_after = p.1 }

pub returns-then-found-ne-LINE : goal.returns-then-found-ne-LINE
returns-then-found-ne-LINE c =
    let a = c.args in
    let t : Told = told a.key.now a.font.now a.layout in
    let own : Own = own_of a.edition a.nonce.now a.job.now in
    let p = met (not-given t own a.stretch.now a.frame.now (right-under t own _
    c.sizes_right.ensures
    c.if-not-sizes_right.false)
    (omega (
      arith,
      c.if-frame-frame_room.false,
      c.frame_room.ensures,
    ))
    (below_all 256 a.stretch.now
    (λ k h. omega (
      arith,
      c.type_inv.stretch
          k,
    ))) (replicate longest 0) (omega (arith, length-replicate {A = ℕ} longest 0)) _ c.other.ensures _
    c.line_in-found.ensures.value c.if-found-ne-LINE.true) in
    record { value = p.0; frame_after = p.1 }

pub slice_bounds-write_edition-end : goal.slice_bounds-write_edition-end
slice_bounds-write_edition-end c =
    let a = c.args in
    let t : Told = told a.key.now a.font.now a.layout in
    let own : Own = own_of a.edition a.nonce.now a.job.now in
    let h = length-fits t own a.stretch.now a.frame.now
    (right-under t own _ c.sizes_right.ensures
    c.if-not-sizes_right.false)
    (omega (
      arith,
      c.if-frame-frame_room.false,
      c.frame_room.ensures,
    ))
    (below_all 256 a.stretch.now
    (λ k h. omega (
      arith,
      c.type_inv.stretch k,
    ))) (replicate longest 0) (omega (arith, length-replicate {A = ℕ} longest 0)) _ c.other.ensures _
    c.line_in-found.ensures.value
    c.if-found-ne-LINE.false _ c.line_in-found.ensures.line_after in
    omega (arith, h)

pub returns : goal.returns
returns c =
    let a = c.args in
    let t : Told = told a.key.now a.font.now a.layout in
    let own : Own = own_of a.edition a.nonce.now a.job.now in
    let w = c.write_edition-written in
    let p = written t own a.stretch.now a.frame.now (right-under t own _
    c.sizes_right.ensures
    c.if-not-sizes_right.false)
    (omega (
      arith,
      c.if-frame-frame_room.false,
      c.frame_room.ensures,
    ))
    (below_all 256 a.stretch.now
    (λ k h. omega (
      arith,
      c.type_inv.stretch k,
    ))) (replicate longest 0) (omega (arith, length-replicate {A = ℕ} longest 0)) _
    c.other.ensures _
    c.line_in-found.ensures.value
    c.if-found-ne-LINE.false _
    c.line_in-found.ensures.line_after _ _ _ w.ensures.value w.ensures.frame_after
    c.write_length.ensures in
    record { value = p.0; frame_after = p.1 }
