-- `c-shown-in-order` and `c-shown-written` (order W11): `shown-in-order` and `shown-written` over the exported calls. Asked for a request, `lubdhvani_stood`
-- leaves in the buffer the stream that was received before it; asked for the print behind that request, it shows the next line of a whole run of
-- `lubdhvani_read` over that stream, behind the lines given before, and no line exactly where the run has no more; and the line shown is one written in that
-- stream. That the trace is bytes is a premise, which what the calls are passed meets by its type (Bytes.antt). Assumes nothing.
use Rattle.std.specs.Prelude.{◌≡◌, refl, true, List, ◌∷◌, ◌++◌, ℕ, ◌+◌, ◌-◌, ◌≤◌, ◌<◌, length, take, replicate}
use Rattle.std.proofs.Common.{sym, ap, subst, ◌∙◌, arith}
use Rattle.base_lists.specs.Below.{Below}
use Rattle.base_lists.specs.Buffers.{over}
use Rattle.line_layout.specs.Layouts.{layout_of}
use Rattle.frame_spec.specs.Told.{Told, told}
use Rattle.read_spec.specs.Sizes.{Sizes}
use Rattle.read_spec.specs.Ceiling.{all_work}
use Rattle.read_call.specs.Answers.{longest_stream}
use Rattle.demand_reading.specs.Promises as reading
use Rattle.demand_reading.specs.Promises.{Seen}
use Rattle.demand_reading.specs.Reaching.{Ended}
use Rattle.demand_reading.specs.Whole.{WholeRun}
use Rattle.replay_spec.specs.declared.Kind.TheVariants as kinds
use Rattle.replay_spec.specs.declared.Event.{Event}
use Rattle.replay_spec.specs.declared.Stood as inner
use Rattle.replay_spec.specs.Events.{events}
use Rattle.replay_spec.specs.Press.{Given, nothing, gives, start, is_done, run}
use Rattle.replay_spec.specs.Answers.{judging, zeros, stood_for, stood_answer}
use Rattle.replay_reading.specs.Order.{line_at, gave}
use Rattle.replay_reading.proofs.Given.{lines_seen}
use Rattle.replay_reading.proofs.Written.{WrittenIn}
use Rattle.replay_kept.proofs.InOrder as kept
use Rattle.replay_kept.proofs.InOrder.{Receipts}
use Rattle.lubdhvani.specs.Readings.{asked_of}
use Rattle.lubdhvani.specs.Replaying.{behind_line, stood_as}
use Rattle.lubdhvani.specs.declared.read.Asked.{Asked}
use Rattle.lubdhvani.specs.declared.replay.Stood.{Stood}
use Rattle.lubdhvani_demands.specs.Promises.{Run}
use Rattle.lubdhvani_demands.proofs.Reading.{c-run}
use Rattle.lubdhvani_traces.specs.Promises.{Shows}
use Rattle.lubdhvani_traces.specs.Shown.{line_shown}

-- what is shown of a print, with so many bytes received before it: the line that was given, and where the printed bytes stand in the trace; nothing but
-- zeros where none was
abbrev pub shown_of : Event → ℕ → Given → Stood
shown_of p n nothing = record { number = 0; length = 0; place = 0; printed = 0; received = n; line = zeros; zeros = replicate behind_line 0 }
shown_of p n (gives l) = record {
  number = 0;
  length = length l;
  place = p.start;
  printed = p.end - p.start;
  received = n;
  line = over l zeros;
  zeros = replicate behind_line 0;
}

shown_of_lem : (p : Event) (n : ℕ) (g : Given) → stood_as (stood_for kinds.Printed p g n) ≡ shown_of p n g
shown_of_lem p n nothing = refl
shown_of_lem p n (gives l) = refl

-- a request, receipts behind it, and a print, in a trace without fault up to the print
module _ (key font : List ℕ) (asked : Asked) (z : Sizes (told key font (layout_of asked.layout))) (enough : all_work ≤ asked.allowed) (trace : List ℕ)
    (bytes : Below 256 trace) (before : List Event) (e : Event) (between : List Event) (p : Event) (after : List Event)
    (parts : events trace ≡ before ++ (e ∷ (between ++ (p ∷ after)))) (request-is : e.kind ≡ kinds.Asked) (receipts : Receipts between)
    (print-is : p.kind ≡ kinds.Printed)
    (sound : is_done (run (judging (told key font (layout_of asked.layout)) asked.editions) trace start (before ++ (e ∷ between))).answer ≡ true) where
  abbrev t : Told
  t = told key font (layout_of asked.layout)

  -- the lines given before the request
  abbrev so_far : List (List ℕ)
  so_far = gave (judging t asked.editions) trace start before

  -- the call asked for the request, and the call asked for the print
  module _ (b : List ℕ) (q : Stood) (b' : List ℕ) (room : longest_stream ≤ length b)
      (c : Shows key font asked.editions asked.layout trace (length before + 1) b q b')
      (d : List ℕ) (x : Stood) (d' : List ℕ) (more_Room : longest_stream ≤ length d)
      (shown : Shows key font asked.editions asked.layout trace (length (before ++ (e ∷ between)) + 1) d x d') where
    -- what the calls below answer
    abbrev q₀ : inner.Stood
    q₀ = stood_answer t asked.editions trace (length before + 1) b

    abbrev x₀ : inner.Stood
    x₀ = stood_answer t asked.editions trace (length (before ++ (e ∷ between)) + 1) d

    pub c-shown-in-order : {seen : List Seen} → Run key font asked (take q.received b') 0 0 seen → Ended seen
        → (take (length so_far) (lines_seen seen) ≡ so_far) × (x ≡ shown_of p x.received (line_at (length so_far) (lines_seen seen)))
    c-shown-in-order {seen} run-to ended =
        let so-many : q.received ≡ q₀.received = ap (λ (y : Stood). y.received) c.0 in
        let w : WholeRun key font (asked_of asked) (take q₀.received b') = record {
          seen = seen;
          run = subst (λ (n : ℕ). reading.Run key font (asked_of asked) (take n b') 0 0 seen) so-many (c-run run-to);
          ended = ended;
        } in
        let y = kept.shown-in-order key font (asked_of asked) z enough trace bytes before e between p after parts request-is receipts print-is sound
        b q₀ b' room (refl, c.1) d x₀ d' more_Room (refl, shown.1) w in
        let g = line_at (length so_far) (lines_seen seen) in
        (y.0, shown.0 ∙ ap stood_as y.1 ∙ shown_of_lem p x₀.received g ∙ ap (λ (n : ℕ). shown_of p n g) (sym (ap (λ (u : Stood). u.received) shown.0)))

    pub c-shown-written : 0 < x.length → WrittenIn key font (layout_of asked.layout) asked.editions (take q.received b') (line_shown x)
    c-shown-written some =
        rw (c.0, shown.0)
        (kept.shown-written key font (asked_of asked) z enough trace bytes before e between p after parts request-is receipts print-is sound
        b q₀ b' room (refl, c.1) d x₀ d' more_Room (refl, shown.1) (omega (arith, some, ap (λ (u : Stood). u.length) shown.0)))
