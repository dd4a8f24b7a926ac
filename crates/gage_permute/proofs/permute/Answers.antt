-- `permute` meets its promise: what is judged done `turned` takes (`allowed`), and a refusal gives the state back (`refused`).
-- Assumes nothing.
use Rattle.gage_permute.proofs.Judging.{refused, done}
use Rattle.gage_planes_spec.specs.Sizes.{allowed}
use Rattle.gage_spec.specs.Permutation.{permute}
use mathlib.Core.Path.{sym, ◌∙◌}
use Rattle.gage_permute.proofs.permute.Goals as goal

pub returns-in_default : goal.returns-in_default
returns-in_default c =
    let start = c in
    refused permute start.args.s start.args.n start.args.k c.judge-answer.result c.judge-answer.ensures (c.in_default.not-Ok tt)

pub turned-state-requires : goal.turned-state-requires
turned-state-requires c =
    let start = c in
    let done = sym c.judge-answer.ensures ∙ c.in-Ok.is in
    (done, (allowed start.args.n start.args.k done).2)

pub returns : goal.returns
returns c =
    let start = c in
    let judged = c.judge-answer in
    done permute start.args.s start.args.n start.args.k judged.result judged.ensures c.in-Ok.is c.turned-state.ensures
