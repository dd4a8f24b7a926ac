use Rattle.std.proofs.Common.{◌≡◌, ap, ◌∙◌, ℕ, ◌+◌, ◌*◌, ◌/◌, ◌≤◌, length, arith}
use Rattle.base_lists.specs.Buffers.{over}
use Rattle.gage_planes_spec.specs.Told.{told}
use Rattle.gage_weave.specs.Weaving.{woven}
use Rattle.gage_weave.specs.Telling.{told_more, told_none}
use Rattle.gage_weave.proofs.tell_blocks.Goals as goal

pub loop-i-init : goal.loop-i-init
loop-i-init c = told_none _ _

pub loop-i-preserved : goal.loop-i-preserved
loop-i-preserved c =
    let t = c.args.t in
    let out = c.args.out.now in
    let i = c.loop-i.i in
    let fits : i * 8 + 8 ≤ length out = omega arith in
    let next : (i + 1) * 8 ≡ i * 8 + 8 = omega arith in
    let more = told_more t out c.loop-i.out _ (i * 8) (i * 8 + 8) _ (omega arith) (omega arith) (omega arith) (omega arith) fits
    (c.woven.ensures ∙ ap woven c.eight.ensures) c.put.ensures c.loop-i.invariant in
    rw next more

pub returns : goal.returns
returns c =
    let t = c.args.t in
    let out = c.args.out.now in
    let n = c.min-n.result in
    let whole : c.loop-i.i ≡ n / 8 = omega arith in
    let fits : n ≤ length out = omega arith in
    told_more t out c.loop-i.out _ (n / 8 * 8) n _ (omega arith) (omega arith) (omega arith) (omega arith) fits
    (c.woven-2.ensures ∙ ap woven c.eight-2.ensures) c.put-2.ensures (rw whole at c.loop-i.invariant)
    ∙ ap (λ (k : ℕ). over (told k t) out) c.min-n.ensures
