use mathlib.Core.Path.{sym, ◌∙◌}
use Rattle.live_call.proofs.Going.{going-none, going-few, going-closed, going-mark, going-byte, going-all}
use Rattle.live_call.proofs.take_in.Goals as goal
use Rattle.live_call.proofs.take_in.Goals.{then-byte-eq-MARK+else-closes_here, else-byte-eq-MARK}

pub loop-i-init : goal.loop-i-init
loop-i-init c =
    let s = c in
    going-none s.args.n s.args.window.now s.args.piece.now s.requires.window_len s.requires.n_value s.requires.piece_bound

pub behind_mark-requires : goal.behind_mark-requires
behind_mark-requires c = going-few c.loop-i.invariant c.loop-i-test.true

pub returns-then-closes_here : goal.returns-then-closes_here
returns-then-closes_here c =
    let its = going-closed c.loop-i.invariant c.loop-i-test.true
    c.if-byte-eq-MARK.true (sym c.closes_here.ensures ∙ c.if-closes_here.true) _ c.behind_mark.ensures in
    record { value = its.0; first_le_closing = its.1.0; window_after = its.1.1 }

pub behind_mark-seen-requires : goal.behind_mark-seen-requires
behind_mark-seen-requires c = going-few c.loop-i.invariant c.loop-i-test.true

pub keep-requires : goal.keep-requires
keep-requires c = record { window_len = c.loop-i.invariant.room; first_le_received = c.loop-i.invariant.order_is }

pub behind_byte-seen-requires : goal.behind_byte-seen-requires
behind_byte-seen-requires c = going-few c.loop-i.invariant
    c.loop-i-test.true

pub loop-i-preserved : goal.loop-i-preserved
loop-i-preserved c = elim c.if-byte-eq-MARK.branch [
  | then-byte-eq-MARK+else-closes_here w ↦
      rw (w.window-is, w.seen-is) (going-mark c.loop-i.invariant c.loop-i-test.true
      w.if-byte-eq-MARK.true (sym w.closes_here.ensures ∙ w.if-closes_here.false) _ w.behind_mark-seen.ensures)
  | else-byte-eq-MARK w ↦
      rw w.seen-is (going-byte c.loop-i.invariant c.loop-i-test.true w.if-byte-eq-MARK.false _
      w.behind_byte-seen.ensures _ (w.window-is ∙ w.keep.ensures))
]

pub returns : goal.returns
returns c =
    let its = going-all c.loop-i.invariant c.loop-i-test.false in
    record { value = its.0; first_le_closing = its.1.0; window_after = its.1.1 }
