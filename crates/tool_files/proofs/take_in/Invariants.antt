-- The buffer has taken in as many bytes as were heard, and is as it was behind them. Assumes nothing.
use mathlib.Core.Path.{◌≡◌}
use lib.ListN.{length}
use Rattle.tool_files.proofs.Moving.{Taken}
use Rattle.tool_files.proofs.take_in.Given as goal

abbrev pub invariant-loop : goal.invariant-loop
invariant-loop g l = Taken l.fn.buf l.buf l.done × (length l.chunk ≡ 4096)
