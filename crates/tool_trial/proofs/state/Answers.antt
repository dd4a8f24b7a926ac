use Rattle.base_lists.specs.Upto.{upto_by}
use Rattle.base_hex.specs.Reading.{bytes-by}
use Rattle.gage_spec.specs.Permutation.{LARGEST}
use native.Mathlib.Omega.{arith}
use mathlib.Core.Path.{refl}
use Rattle.tool_trial.proofs.state.Goals as goal

pub returns : goal.returns
returns c = bytes-by c.args.text.now _ LARGEST c.loop-i.invariant.0
    (upto_by _ _ _ _ _ c.loop-i.invariant.1 (omega arith) (λ k h. refl))
