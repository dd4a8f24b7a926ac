-- `buffer` meets its promise. Assumes nothing.
use Rattle.std.proofs.Common.{refl}
use Rattle.rows_case.specs.Cases.{no_bytes}
use Rattle.rows_case.proofs.buffer.Goals as goal

pub returns-clause-value : goal.returns-clause-value
unfolding no_bytes
returns-clause-value c = refl
