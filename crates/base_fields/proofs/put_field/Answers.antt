-- `put_field` meets its promise: a value that is too long, a buffer that is too short, else the field laid. Assumes nothing.
use Rattle.std.proofs.Common.{arith}
use Rattle.std.proofs.lemmas.Bool.Decides.{nat_tests}
use Rattle.base_fields.specs.Fields.{field_end, field_out}
use Rattle.base_fields.specs.Laws.{length-field}
use Rattle.base_fields.proofs.put_field.Goals as goal

pub returns-then-value-clause-value : goal.returns-then-value-clause-value
unfolding field_end
returns-then-value-clause-value c = grind (arith, nat_tests)

pub returns-then-value-clause-out_after : goal.returns-then-value-clause-out_after
unfolding field_out
returns-then-value-clause-out_after c = grind (arith, nat_tests)

pub lay-requires-clause-value_in_bounds : goal.lay-requires-clause-value_in_bounds
lay-requires-clause-value_in_bounds c = omega (arith, length-field c.args.tag c.args.value.now)

pub returns-clause-value : goal.returns-clause-value
unfolding field_end
returns-clause-value c = grind (arith, nat_tests)

pub returns-clause-out_after : goal.returns-clause-out_after
unfolding field_out
returns-clause-out_after c = grind (arith, nat_tests)
