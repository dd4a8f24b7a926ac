-- `lay` meets its promise: two copies are the field's bytes stored one behind the other. Assumes nothing.
use Rattle.std.proofs.Common.{◌≡◌, refl, ap, ◌∙◌, ◌+◌, ◌-◌, length, arith}
use Rattle.base_fields.specs.Fields.{head_length}
use Rattle.base_fields.specs.Laws.{length-field}
use Rattle.base_fields.proofs.Storing.{part-length, put_one}
use Rattle.base_fields.proofs.lay.Goals as goal

pub slice_bounds-copy_from_slice-end : goal.slice_bounds-copy_from_slice-end
slice_bounds-copy_from_slice-end c = omega (arith, length-field c.args.tag c.args.value.now)

pub slice_bounds-copy_from_slice-end-3 : goal.slice_bounds-copy_from_slice-end-3
slice_bounds-copy_from_slice-end-3 c =
    let whole = length-field c.args.tag c.args.value.now in
    let head : length c.copy_from_slice.new.self ≡ head_length = ap length c.copy_from_slice.ensures.after in
    omega (arith, whole, part-length c.args.out.now c.args.at (c.args.at + head_length - c.args.at) c.copy_from_slice.new.self (omega arith) (omega (arith, whole)))

pub returns : goal.returns
returns c = record {
  value = omega (arith, length-field c.args.tag c.args.value.now);
  out_after = put_one _ _ _ _ _ _ c.requires.value_in_bounds c.requires.value_len_bound (c.copy_from_slice.ensures.after ∙ rw c.to_be_bytes.ensures refl) c.copy_from_slice-2.ensures.after;
}
