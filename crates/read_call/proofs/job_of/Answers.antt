-- `job_of` meets its promise: the four bytes, high byte first. Assumes nothing.
use native.Mathlib.Omega.{arith}
use Rattle.frame_body.specs.Job.{job_number}
use Rattle.read_call.proofs.Jobs.{job-sum}
use Rattle.read_call.proofs.job_of.Goals as goal

pub overflow_cast-high : goal.overflow_cast-high
overflow_cast-high c = omega (arith, c.type_inv.body 53, c.type_inv.body 54, c.type_inv.body 55, c.type_inv.body 56)

pub overflow_mul-high : goal.overflow_mul-high
overflow_mul-high c = omega (arith, c.type_inv.body 53, c.type_inv.body 54, c.type_inv.body 55, c.type_inv.body 56)

pub overflow_cast-high-in-Two : goal.overflow_cast-high-in-Two
overflow_cast-high-in-Two c = omega (
  arith,
  c.type_inv.body 53,
  c.type_inv.body 54,
  c.type_inv.body 55,
  c.type_inv.body 56,
)

pub overflow_add-high-in-Two : goal.overflow_add-high-in-Two
overflow_add-high-in-Two c = omega (
  arith,
  c.type_inv.body 53,
  c.type_inv.body 54,
  c.type_inv.body 55,
  c.type_inv.body 56,
)

pub overflow_cast-low : goal.overflow_cast-low
overflow_cast-low c = omega (
  arith,
  c.type_inv.body 53,
  c.type_inv.body 54,
  c.type_inv.body 55,
  c.type_inv.body
      56,
)

pub overflow_mul-low : goal.overflow_mul-low
overflow_mul-low c = omega (
  arith,
  c.type_inv.body 53,
  c.type_inv.body 54,
  c.type_inv.body 55,
  c.type_inv.body
      56,
)

pub overflow_cast-low-in-Two : goal.overflow_cast-low-in-Two
overflow_cast-low-in-Two c = omega (
  arith,
  c.type_inv.body 53,
  c.type_inv.body 54,
  c.type_inv.body 55,
  c.type_inv.body 56,
)

pub overflow_add-low-in-Two-2 : goal.overflow_add-low-in-Two-2
overflow_add-low-in-Two-2 c = omega (
  arith,
  c.type_inv.body 53,
  c.type_inv.body 54,
  c.type_inv.body 55,
  c.type_inv.body
      56,
)

pub overflow_mul-result : goal.overflow_mul-result
overflow_mul-result c = omega (
  arith,
  c.type_inv.body 53,
  c.type_inv.body 54,
  c.type_inv.body 55,
  c.type_inv.body 56,
)

pub overflow_mul-result-in-Two : goal.overflow_mul-result-in-Two
overflow_mul-result-in-Two c = omega (
  arith,
  c.type_inv.body 53,
  c.type_inv.body 54,
  c.type_inv.body 55,
  c.type_inv.body 56,
)

pub overflow_add-result : goal.overflow_add-result
overflow_add-result c = omega (
  arith,
  c.type_inv.body 53,
  c.type_inv.body 54,
  c.type_inv.body 55,
  c.type_inv.body 56,
)

pub returns-in-One : goal.returns-in-One
unfolding job_number
returns-in-One c = rw c.in-One.is

pub returns-in-Two : goal.returns-in-Two
returns-in-Two c =
    rw c.in-Two.is (job-sum c.args.body.now c.requires)
