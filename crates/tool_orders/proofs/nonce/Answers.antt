use Rattle.base_lists.specs.Upto.{upto_by}
use Rattle.base_hex.specs.Reading.{bytes-by}
use native.Mathlib.Omega.{arith}
use mathlib.Core.Path.{refl}
use Rattle.tool_orders.proofs.nonce.Goals as goal

pub returns : goal.returns
returns c = bytes-by c.args.row.now _ 12 c.loop-i.invariant.0
    (upto_by _ _ _ _ _ c.loop-i.invariant.1 (omega arith) (λ k h. refl))
