-- `of` meets its promise: a known instance is a row of the table, and its rate is not 0. Assumes nothing.
use Rattle.std.proofs.Common.{refl, sym, ◌∙◌, arith}
use Rattle.digest_spec.specs.Instances.{bit_size, bit_rate, size_of, rate_of, outputs_of}
use Rattle.digest_spec.specs.Shapes.{known-row, known-whole}
use Rattle.digest_sponge.proofs.Sponge.of.Goals as goal

pub overflow_sub-i : goal.overflow_sub-i
overflow_sub-i c = omega (arith, known-row c.args.instance (sym c.is_unknown.ensures ∙ c.if-is_unknown.false))

pub offset_bounds-rows-i : goal.offset_bounds-rows-i
offset_bounds-rows-i c = omega (arith, known-row c.args.instance (sym c.is_unknown.ensures ∙ c.if-is_unknown.false))

pub bounds-rows-i : goal.bounds-rows-i
bounds-rows-i c = omega (arith, known-row c.args.instance (sym c.is_unknown.ensures ∙ c.if-is_unknown.false))

pub offset_bounds-rows-i-2 : goal.offset_bounds-rows-i-2
offset_bounds-rows-i-2 c = omega (arith, known-row c.args.instance (sym c.is_unknown.ensures ∙ c.if-is_unknown.false))

pub bounds-rows-i-else-is_unknown : goal.bounds-rows-i-else-is_unknown
bounds-rows-i-else-is_unknown c = omega (arith, known-row c.args.instance (sym c.is_unknown.ensures ∙ c.if-is_unknown.false))

pub nonzero_div-result-3 : goal.nonzero_div-result-3
unfolding bit_rate
nonzero_div-result-3 c =
    let w = known-whole c.args.instance (sym c.is_unknown.ensures ∙ c.if-is_unknown.false) in
    omega (arith, w.rate, w.fits.some)

pub invariant_of-result : goal.invariant_of-result
unfolding size_of rate_of outputs_of bit_size bit_rate
invariant_of-result c =
    let w = known-whole c.args.instance (sym c.is_unknown.ensures ∙ c.if-is_unknown.false) in
    record { fits = w.fits; makes = w.makes }

pub returns : goal.returns
unfolding size_of rate_of outputs_of bit_size bit_rate
returns c = (sym c.is_unknown.ensures ∙ c.if-is_unknown.false, refl, refl, refl)
