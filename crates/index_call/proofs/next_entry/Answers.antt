-- `next_entry` meets its promise: `read` is not refused, since a stretch is ahead. Assumes nothing.
use native.Mathlib.Omega.{arith}
use Rattle.index_call.proofs.Reading.{first_below, number_small, next-is}
use Rattle.index_call.proofs.next_entry.Goals as goal

pub overflow_cast-result : goal.overflow_cast-result
overflow_cast-result c =
    omega (
      arith,
      first_below c.args.key.now c.args.font.now c.args.layout c.args.editions c.args.stream.now c.args.from
          c.requires c.read-reading.result c.read-reading.ensures.value,
    )

pub overflow_mul-result : goal.overflow_mul-result
overflow_mul-result c =
    omega (
      arith,
      first_below c.args.key.now c.args.font.now c.args.layout c.args.editions c.args.stream.now c.args.from
          c.requires c.read-reading.result c.read-reading.ensures.value,
    )

pub overflow_add-result : goal.overflow_add-result
overflow_add-result c =
    omega (
      arith,
      c.read_number.ensures,
      first_below c.args.key.now c.args.font.now c.args.layout c.args.editions c.args.stream.now c.args.from
          c.requires c.read-reading.result
          c.read-reading.ensures.value,
      number_small c.args.key.now c.args.font.now c.args.layout c.args.editions c.args.stream.now c.args.from
          c.requires c.read-reading.result
          c.read-reading.ensures.value,
    )

pub returns : goal.returns
returns c =
    next-is c.args.key.now c.args.font.now c.args.layout c.args.editions c.args.stream.now c.args.from
    c.requires c.read-reading.result
    c.read-reading.ensures.value c.read_number.result c.read_number.ensures
