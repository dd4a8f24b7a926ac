-- `lubdhvani_permute` meets its promise: a state larger than any permitted one is refused, and the others are permuted in a whole state of
-- their own (`in_place`). Assumes nothing.
use Rattle.lubdhvani.specs.InPlace.{in_place, too-large-refused}
use Rattle.gage_spec.specs.States.{length-permute}
use Rattle.gage_spec.specs.Permutation.{permute}
use mathlib.Core.Path.{◌∙◌}
use borrow.Author.Rules.{rules}
use Rattle.lubdhvani.proofs.gage.lubdhvani_permute.Goals as goal

pub returns-then-n-gt-LARGEST : goal.returns-then-n-gt-LARGEST
returns-then-n-gt-LARGEST c =
    let refused = too-large-refused permute c.args.state.now c.args.rounds c.if-n-gt-LARGEST.true in
    record { value = c.number.ensures ∙ refused.0; state_after = refused.1 }

pub returns : goal.returns
returns c =
    let done =
    in_place permute c.args.rounds (length-permute c.args.rounds) c.args.state.now (search rules) c.permute-r.result (c.permute-r.ensures ∙ rw c.widened.ensures) in
    record { value = c.number-2.ensures ∙ done.0; state_after = c.copy.ensures ∙ done.1 }
