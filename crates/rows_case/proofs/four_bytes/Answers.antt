-- `four_bytes` meets its promise, and nothing overflows. Assumes nothing.
use Rattle.std.proofs.Common.{refl}
use Rattle.rows_case.specs.Cases.{four_bytes}
use Rattle.rows_case.proofs.four_bytes.Goals as goal

pub returns : goal.returns
unfolding four_bytes
returns c = refl
