-- `nonce` meets its promise: byte by byte by the rule. Assumes nothing.
use mathlib.Core.Path.{◌≡◌}
use lib.ListN.{length}
use Rattle.base_lists.specs.Upto.{Upto}
use Rattle.base_hex.specs.Hex.{byte_at}
use Rattle.tool_orders.proofs.nonce.Given as goal

abbrev pub invariant-loop-i : goal.invariant-loop-i
invariant-loop-i l = (length l.byte-items ≡ 12) × Upto (byte_at l.row) l.byte-items l.i
