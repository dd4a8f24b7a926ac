-- `received-kept` (order W11), from the promise of `replay` alone: the buffer holds what the events before the fault received, and is else as it was. Assumes
-- nothing.
use Rattle.std.specs.Prelude.{◌≡◌, Bool, not, cond, List, ◌∷◌, ℕ, ◌-◌, ◌≤◌, ltb, length, take, drop, Err}
use Rattle.std.proofs.Math.Path.{refl}
use Rattle.std.proofs.Common.{sym, ap, ◌∙◌, arith, take_at, drop_at, ltb-false}
use Rattle.std.proofs.Math.Bool.{true, false}
use Rattle.base_lists.specs.Buffers.{over}
use Rattle.base_lists.specs.Over.{over-length, take-over}
use Rattle.line_layout.specs.declared.Layout.{Layout}
use Rattle.frame_spec.specs.Told.{Told, told}
use Rattle.read_spec.specs.Judged.{Judged}
use Rattle.read_call.specs.Answers.{longest_stream, sized_told}
use Rattle.replay_spec.specs.declared.Event.{Event}
use Rattle.replay_spec.specs.declared.ReplayFault.TheVariants.{Sizes, NoRoom}
use Rattle.replay_spec.specs.declared.Replayed.{Replayed}
use Rattle.replay_spec.specs.Events.{events}
use Rattle.replay_spec.specs.Press.{Press, start, is_done, run}
use Rattle.replay_spec.specs.Answers.{judging, replayed, replayed_as, answer_of, replay_answer, replay_out}
use Rattle.replay_reading.specs.Streams.{stream-few}
use Rattle.replay_kept.specs.Promises.{Replays}
use Rattle.replay_kept.specs.Stepping.{received_in, Ended, all_done, at-fault, run-ended}
use Rattle.replay_kept.specs.Received.{before, before_fault, Keeps}

-- w over a buffer with room for it
keeps-over : (trace o : List ℕ) (r : Replayed) (w : List ℕ) → length w ≤ length o → r.received ≡ length w → w ≡ received_in trace (before_fault trace r)
    → Keeps trace o r (over w o)
keeps-over trace o r w h n e = record {
  received = n ∙ ap length e;
  holds = take-over w o r.received (sym n) ∙ e;
  behind = drop_at w (drop (length w) o) r.received (sym n) ∙ ap (λ (k : ℕ). drop k o) (sym n);
  long = over-length w o h;
}

module _ (judge : List ℕ → Judged) (trace o : List ℕ) (room : longest_stream ≤ length o) where
  abbrev p : Press
  p = run judge trace start (events trace)

  ran : Ended judge trace start (events trace) p → Keeps trace o (answer_of p) (over p.stream o)
  ran (all_done d q) =
      keeps-over trace o (answer_of p) p.stream (omega (arith, room, stream-few judge trace (events trace))) refl (rw d q)
  ran (at-fault b e a parts d f u n q) =
      let so-many : length b ≡ before p.event = omega (arith, n) in
      let is : before_fault trace (answer_of p) ≡ b =
      rw d (ap (take (before p.event)) parts ∙ take_at b (e ∷ a) (before p.event) so-many) in
      keeps-over trace o (answer_of p) p.stream (omega (arith, room, stream-few judge trace (events trace))) refl (q ∙ ap (received_in trace) (sym is))

module _ (key font : List ℕ) (ed : ℕ) (lay : Layout) (trace o : List ℕ) (r : Replayed) (o' : List ℕ) where
  abbrev t : Told
  t = told key font lay

  by_tests : (x : Bool) → sized_told t ≡ x → (y : Bool) → ltb (length o) longest_stream ≡ y
      → Keeps trace o (cond (not x) (replayed_as (Err Sizes) 0 0) (cond y (replayed_as (Err NoRoom) 0 0) (answer_of (replayed t ed trace))))
      (cond (not x) o (cond y o (over (replayed t ed trace).stream o)))
  unfolding replayed
  by_tests false e y f = record { received = refl; holds = refl; behind = refl; long = refl }
  by_tests true e true f = record { received = refl; holds = refl; behind = refl; long = refl }
  by_tests true e false f =
      ran (judging t ed) trace o (ltb-false (length o) longest_stream f) (run-ended (judging t ed) trace (events trace) start refl)

  pub received-kept : Replays key font ed lay trace o r o' → Keeps trace o r o'
  unfolding replay_answer replay_out
  received-kept (a, b) = rw (a, b) (by_tests (sized_told t) refl (ltb (length o) longest_stream) refl)
