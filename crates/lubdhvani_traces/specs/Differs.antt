-- `c-differs-exactly` (order W11): `differs-exactly` over the exported call: where its number is 0, the event named is the first print whose bytes are not the
-- line given, and event 0 means that there is none. Such a number says too that no event is at fault (`c-no-fault`). Assumes nothing.
use Rattle.std.specs.Prelude.{◌≡◌, refl, true, ℕ}
use Rattle.std.proofs.Common.{sym, ap, subst, ◌∙◌}
use mathlib.Core.List.{List, ◌++◌}
use Rattle.line_layout.specs.Layouts.{layout_of}
use Rattle.frame_spec.specs.Told.{Told, told}
use Rattle.replay_spec.specs.declared.Event.{Event}
use Rattle.replay_spec.specs.Events.{events}
use Rattle.replay_spec.specs.Press.{start, is_done, run}
use Rattle.replay_spec.specs.Answers.{judging, replayed, replay_answer, replay_number}
use Rattle.replay_kept.specs.Stepping.{done-before}
use Rattle.replay_kept.proofs.Differs.{First}
use Rattle.replay_kept.proofs.Differs.{differs-exactly, zero-sound}
use Rattle.lubdhvani.specs.declared.replay.Replayed.{Replayed}
use Rattle.lubdhvani_traces.specs.Promises.{Replays}

module _ (key font : List ℕ) (ed lay : ℕ) (trace o : List ℕ) (r : Replayed) (o' : List ℕ) (p : Replays key font ed lay trace o r o')
    (zero_number : r.number ≡ 0) where
  abbrev t : Told
  t = told key font (layout_of lay)

  -- the number of the call below
  pub below-zero : replay_number (replay_answer t ed trace o).answer ≡ 0
  below-zero = sym (ap (λ (x : Replayed). x.number) p.0) ∙ zero_number

  pub c-differs-exactly : First (judging t ed) trace start (events trace) r.event
      × ((n : ℕ) → First (judging t ed) trace start (events trace) n → r.event ≡ n)
  c-differs-exactly = rw p.0 (differs-exactly key font ed (layout_of lay) trace o (replay_answer t ed trace o) o' (refl, p.1) below-zero)

  -- after each event of the trace the press is without fault
  pub c-no-fault : (before after : List Event) → events trace ≡ before ++ after → is_done (run (judging t ed) trace start before).answer ≡ true
  unfolding replayed
  c-no-fault before after parts =
      let z = zero-sound key font ed (layout_of lay) trace o (replay_answer t ed trace o) o' (refl, p.1) below-zero in
      done-before (judging t ed) trace start before after
      (subst (λ (l : List Event). is_done (run (judging t ed) trace start l).answer ≡ true) parts z.done)
