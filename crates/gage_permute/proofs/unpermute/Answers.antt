-- `unpermute` meets its promise: what is judged done `unturned` takes (`allowed`), and a refusal gives the state back (`refused`).
-- Assumes nothing.
use Rattle.gage_permute.proofs.Judging.{refused, done}
use Rattle.gage_planes_spec.specs.Sizes.{allowed}
use Rattle.gage_spec.specs.Permutation.{unpermute}
use mathlib.Core.Path.{sym, ◌∙◌}
use native.Mathlib.Omega.{arith}
use Rattle.gage_permute.proofs.unpermute.Goals as goal

pub returns-in_default : goal.returns-in_default
returns-in_default c =
    let start = c in
    refused unpermute start.args.s start.args.n start.args.k c.judge-answer.result c.judge-answer.ensures (c.in_default.not-Ok tt)

pub unturned-state-requires : goal.unturned-state-requires
unturned-state-requires c =
    let start = c in
    let size = allowed start.args.n start.args.k (sym c.judge-answer.ensures ∙ c.in-Ok.is) in
    (omega (arith, size.1), size.2, size.3, size.4)

pub returns : goal.returns
returns c =
    let start = c in
    let judged = c.judge-answer in
    done unpermute start.args.s start.args.n start.args.k judged.result judged.ensures c.in-Ok.is c.unturned-state.ensures
