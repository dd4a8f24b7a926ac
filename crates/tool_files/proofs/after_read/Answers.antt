-- `after_read` meets its promise: the sum is tested as a difference, which does not wrap. Assumes nothing.
use mathlib.Core.Path.{refl}
use native.Mathlib.Omega.{arith}
use Rattle.tool_files.specs.Loading.{stepped}
use Rattle.tool_files.proofs.Answers.{too_long, goes_on}
use Rattle.tool_files.proofs.after_read.Goals as goal

pub returns-then-done-room : goal.returns-then-done-room
returns-then-done-room c = too_long _ _ _ _ c.in-Some.is (omega arith)

pub returns-then-n-room : goal.returns-then-n-room
returns-then-n-room c = too_long _ _ _ _ c.in-Some.is (omega arith)

pub returns-else-n-room : goal.returns-else-n-room
returns-else-n-room c = goes_on _ _ _ _ c.in-Some.is (omega arith)

pub returns-in-Again : goal.returns-in-Again
unfolding stepped
returns-in-Again c = rw c.in-Again.is refl

pub returns-in-End : goal.returns-in-End
unfolding stepped
returns-in-End c = rw c.in-End.is refl

pub returns-in-Failed : goal.returns-in-Failed
unfolding stepped
returns-in-Failed c = rw c.in-Failed.is refl
