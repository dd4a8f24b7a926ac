use Rattle.std.specs.Prelude.{Ok}
use mathlib.Core.Path.{sym, ◌∙◌, ap}
use Rattle.frame_stuff_spec.proofs.Outcomes.{stuff-no-room, stuff-done}
use Rattle.frame_stuff.proofs.Places.{doubled, halved}
use Rattle.frame_stuff.proofs.Written.{has_room, written_none, written-more, written_all}
use Rattle.frame_stuff.proofs.stuff.Goals as goal

pub returns-then-out-body : goal.returns-then-out-body
returns-then-out-body c =
    let answer = stuff-no-room c.args.body.now c.args.out.now (halved c.if-out-body.true) in record { value = sym answer.0; out_after = sym answer.1 }

pub loop-b-init : goal.loop-b-init
loop-b-init c = written_none _ _ (doubled c.if-out-body.false)

pub write_byte-k-requires : goal.write_byte-k-requires
write_byte-k-requires c = has_room _ _ (doubled c.if-out-body.false) _ _ _ c.loop-b.invariant
    c.loop-b-test.true

pub loop-b-preserved : goal.loop-b-preserved
loop-b-preserved c =
    written-more _ _ (doubled c.if-out-body.false) _ _ _ _ _
    c.loop-b.invariant c.loop-b-test.true
    c.write_byte-k.ensures.value c.write_byte-k.ensures.out_after

pub returns : goal.returns
returns c =
    let done = written_all _ _ (doubled c.if-out-body.false) _ _ _ c.loop-b.invariant c.loop-b-test.false in
    let answer = stuff-done c.args.body.now c.args.out.now
    (doubled c.if-out-body.false) in record { value = ap Ok done.0 ∙ sym answer.0; out_after = done.1 ∙ sym answer.1 }
