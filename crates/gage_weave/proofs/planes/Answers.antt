use Rattle.std.proofs.Common.{◌≡◌, refl, ◌∙◌, ◌+◌, ◌-◌, ◌*◌, ◌≤◌, length, take, length-take, arith}
use Rattle.gage_planes_spec.specs.Told.{LOW}
use Rattle.gage_weave.specs.Drawing.{planes-step, planes-last}
use Rattle.gage_weave.proofs.planes.Goals as goal

pub loop-i-init : goal.loop-i-init
loop-i-init c = planes-last c.args.s.now _ _ _ _ c.min-n.ensures refl c.word_of.ensures c.woven.ensures c.drawn-q.ensures

pub loop-i-preserved : goal.loop-i-preserved
loop-i-preserved c =
    let s = c.args.s.now in
    let i = c.loop-i.i in
    let e : (i - 1) * 8 + 8 ≡ i * 8 = omega arith in
    let room : (i - 1) * 8 + 8 ≤ length (take LOW s) = rw (length-take LOW s) (omega arith) in
    c.drawn-q-in-loop-i.ensures ∙ planes-step s ((i - 1) * 8) _ _ room c.word.ensures c.woven-in-loop-i.ensures (rw e c.loop-i.invariant)
