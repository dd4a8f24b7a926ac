-- The first difference as `lubdhvani_stood` shows it (order W11): `shown-before` and `shown-named` over the exported calls. Where the number of a replay is 0,
-- every event before the one named, and where none is named every event, is shown with the line given as its printed bytes; the one named is not. Assumes
-- nothing.
use Rattle.std.specs.Prelude.{◌≡◌, refl, List, ℕ, ◌≤◌, ◌<◌, length, take, drop}
use Rattle.std.proofs.Common.{ap, subst, ◌∙◌, arith}
use Rattle.line_layout.specs.Layouts.{layout_of}
use Rattle.frame_spec.specs.Told.{Told, told}
use Rattle.read_call.specs.Answers.{longest_stream}
use Rattle.replay_spec.specs.Answers.{replay_answer, replay_number, stood_answer}
use Rattle.replay_kept.proofs.Shown as kept
use Rattle.lubdhvani.specs.declared.replay.Replayed.{Replayed}
use Rattle.lubdhvani.specs.declared.replay.Stood.{Stood}
use Rattle.lubdhvani_traces.specs.Promises.{Replays, Shows}
use Rattle.lubdhvani_traces.specs.Differs.{below-zero}

-- the line that the call shows, empty where nothing stood there
abbrev pub line_shown : Stood → List ℕ
line_shown q = take q.length q.line

-- the event was printed as the line given: the bytes of the trace that the call points to are the line that it shows
abbrev pub Alike : List ℕ → Stood → Type 0
Alike trace q = take q.printed (drop q.place trace) ≡ line_shown q

module _ (key font : List ℕ) (ed lay : ℕ) (trace o : List ℕ) (r : Replayed) (o' : List ℕ) (p : Replays key font ed lay trace o r o')
    (zero_number : r.number ≡ 0)
    (n : ℕ) (b : List ℕ) (q : Stood) (b' : List ℕ) (c : Shows key font ed lay trace n b q b') where
  abbrev t : Told
  t = told key font (layout_of lay)

  abbrev below : replay_number (replay_answer t ed trace o).answer ≡ 0
  below = below-zero key font ed lay trace o r o' p zero_number

  event-is : r.event ≡ (replay_answer t ed trace o).event
  event-is = ap (λ (x : Replayed). x.event) p.0

  -- every event before the one named, and every event where none is named
  pub c-shown-before : (0 < r.event → n < r.event) → Alike trace q
  c-shown-before h =
      rw c.0 (kept.shown-before key font ed (layout_of lay) trace o (replay_answer t ed trace o) o' (refl, p.1) below n b (stood_answer t ed trace n b) b'
      (refl, c.1) (λ some. omega (arith, event-is, h (omega (arith, event-is, some)))))

  -- and the one named, given a buffer with room
  pub c-shown-named : 0 < n → n ≡ r.event → longest_stream ≤ length b → Alike trace q → ⊥
  c-shown-named some e room alike =
      kept.shown-named key font ed (layout_of lay) trace o (replay_answer t ed trace o) o' (refl, p.1) below n b (stood_answer t ed trace n b) b'
      (refl, c.1) some (e ∙ event-is) room (subst (Alike trace) c.0 alike)
