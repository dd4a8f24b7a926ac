use Rattle.frame_stuff.proofs.Unstuffing.{unwound-more, fits}
use Rattle.frame_stuff.proofs.Unstuffing.{unwound-open, unwound-all, inside, opening, plainly}
use Rattle.frame_stuff.proofs.write_body.Goals as goal
use Rattle.frame_stuff.proofs.write_body.Goals.{then-escaped, else-escaped+then-b-eq-ESCAPE, else-escaped+else-b-eq-ESCAPE}

pub bounds-out-k : goal.bounds-out-k
bounds-out-k c =
    fits _ _ c.requires _ _ _ _ _ c.loop-b.invariant
    (inside _ _ c.loop-b-test.true _ c.if-escaped.true)

pub bounds-out-k-else-b-eq-ESCAPE : goal.bounds-out-k-else-b-eq-ESCAPE
bounds-out-k-else-b-eq-ESCAPE c =
    fits _ _ c.requires _ _ _ _ _ c.loop-b.invariant
    (plainly _ _ c.loop-b-test.true _ c.if-escaped.false c.if-b-eq-ESCAPE.false)

pub loop-b-preserved : goal.loop-b-preserved
loop-b-preserved c =
    elim c.if-escaped.branch [
      | then-escaped w ↦
          rw (w.out-is, w.k-is, w.escaped-is, w.meaning.ensures)
          (unwound-more _ _ c.requires _ _ _ _ _ c.loop-b.invariant c.loop-b-test.true (inside _ _ c.loop-b-test.true _ w.if-escaped.true))
      | else-escaped+then-b-eq-ESCAPE w ↦
          rw (w.out-is, w.k-is, w.escaped-is)
          (unwound-open _ _ c.requires _ _ _ _ c.loop-b.invariant c.loop-b-test.true
          (opening _ _ c.loop-b-test.true _ w.if-escaped.false w.if-b-eq-ESCAPE.true))
      | else-escaped+else-b-eq-ESCAPE w ↦
          rw (w.out-is, w.k-is, w.escaped-is, w.if-escaped.false)
          (unwound-more _ _ c.requires _ _ _ _ _ c.loop-b.invariant c.loop-b-test.true
          (plainly _ _ c.loop-b-test.true _ w.if-escaped.false w.if-b-eq-ESCAPE.false))
    ]

pub returns : goal.returns
returns c = unwound-all _ _ c.requires _ _ _ _ c.loop-b.invariant c.loop-b-test.false
