-- `forth` meets its promise: the two numbers, then what the call's answer says. Assumes nothing.
use mathlib.Core.Path.{sym, ◌∙◌}
use Rattle.gage_spec.specs.Permutation.{permute}
use Rattle.tool_trial.proofs.Telling.{no_size, no-rounds, two-numbers}
use Rattle.tool_trial.proofs.forth.Goals as goal

pub returns-in_default : goal.returns-in_default
returns-in_default c =
    c.refuse.ensures ∙ no_size permute c.args.size.now c.args.rounds.now c.args.text.now (sym c.in_default.ensures)

pub returns-in_default-read_number : goal.returns-in_default-read_number
returns-in_default-read_number c =
    c.refuse-in_default-read_number.ensures
    ∙ no-rounds permute c.args.size.now c.args.rounds.now c.args.text.now _ (sym c.in-Some.ensures) (sym c.in_default-read_number.ensures)

pub returns : goal.returns
returns c =
    c.tell.ensures
    ∙ two-numbers permute c.args.size.now c.args.rounds.now c.args.text.now _ _
    (sym c.in-Some.ensures) (sym c.in-Some-read_number.ensures)
    c.state.result c.state.ensures c.permute.result c.permute.ensures
