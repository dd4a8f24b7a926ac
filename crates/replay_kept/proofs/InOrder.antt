-- `given-in-order` as the calls show it (order W11), from the promises of `stood` and `read` alone: asked for a request, `stood` leaves in the buffer the
-- stream that was received before it; asked for the print behind that request, it shows the next line of a whole run of `read` over that stream, behind the
-- lines given before, and no line exactly where the run has no more (`shown-in-order`); and the line shown is one written in that stream (`shown-written`).
-- Assumes nothing.
use Rattle.std.specs.Prelude.{◌≡◌, Bool, true, false, cond, ltb, take, drop}
use Rattle.std.proofs.Math.Path.{refl, ap, ap₂}
use Rattle.std.proofs.Common.{sym, subst, ◌∙◌}
use mathlib.Core.List.{List, [], ◌∷◌, ◌++◌, append_assoc}
use Prim.Native.Nat.{ℕ, suc, ◌+◌, ◌-◌, ◌≤◌, ◌<◌}
use native.Mathlib.Omega.{arith}
use Rattle.std.proofs.Math.ListN.{length}
use Rattle.std.proofs.Math.Seq.{take-append_seam, drop-append_seam}
use borrow.Author.Tests.{le-ltb}
use Rattle.base_lists.specs.Below.{Below}
use Rattle.base_lists.specs.Buffers.{over}
use Rattle.base_lists.specs.Over.{take-over}
use Rattle.frame_spec.specs.Told.{Told, told}
use Rattle.read_spec.specs.Judged.{Judged}
use Rattle.read_spec.specs.Sizes.{Sizes}
use Rattle.read_spec.specs.Ceiling.{all_work}
use Rattle.read_call.specs.declared.Asked as what
use Rattle.read_call.specs.Answers.{longest_stream, sized_told}
use Rattle.demand_reading.proofs.GivenWritten.{told-sized}
use Rattle.demand_reading.specs.Whole.{WholeRun}
use Rattle.demand_reading.proofs.Whole.{whole_run}
use Rattle.replay_spec.specs.declared.Kind.{Kind}
use Rattle.replay_spec.specs.declared.Kind.TheVariants.{Received, Asked, Printed, Bad}
use Rattle.replay_spec.specs.declared.Event.{Event}
use Rattle.replay_spec.specs.declared.Stood.{Stood}
use Rattle.replay_spec.specs.Events.{events, bytes_of}
use Rattle.replay_spec.specs.Press.{Given, nothing, gives, Press, counted, receive, does, start, is_done, step, turn, run}
use Rattle.replay_spec.specs.Runs.{run-append}
use Rattle.replay_spec.specs.Answers.{replayed_to, zeros, stood_for, stood_of, stood_at, stood_answer, stood_out}
use Rattle.replay_reading.specs.Order.{line_at, gave}
use Rattle.replay_reading.proofs.Given.{lines_seen, J, given-in-order}
use Rattle.replay_reading.specs.Streams.{stream-few}
use Rattle.replay_reading.proofs.Written.{WrittenIn, replay-given-written}
use Rattle.replay_kept.specs.Promises.{Shows}
use Rattle.replay_kept.specs.Stepping.{done-before}
use Rattle.replay_kept.proofs.Shown.{line_shown}

-- stream bytes received, each of them
abbrev pub Receipts : List Event → Type 0
Receipts [] = Unit {0}
Receipts (e ∷ l) = (e.kind ≡ Received) × Receipts l

module _ (judge : List ℕ → Judged) (trace : List ℕ) where
  -- a line that is given stays while bytes are received
  turn-receipt : (s : Press) (e : Event) → e.kind ≡ Received → (turn judge trace s e).given ≡ s.given
  unfolding turn step receive
  turn-receipt s e k = by-done (is_done s.answer)
    where
      v : List ℕ
      v = bytes_of trace e

      by-limit : (b : Bool) (x y : Press) → x.given ≡ s.given → y.given ≡ s.given → (cond b x y).given ≡ s.given
      by-limit true x y p q = p
      by-limit false x y p q = q

      received : (does judge Received v (counted s)).given ≡ s.given
      received = by-limit (ltb longest_stream (length s.stream + length v)) _ _ refl refl

      by-done : (b : Bool) → (cond b (does judge e.kind v (counted s)) s).given ≡ s.given
      by-done true = ap (λ (x : Kind). (does judge x v (counted s)).given) k ∙ received
      by-done false = refl

  run-receipts : (l : List Event) (s : Press) → Receipts l → (run judge trace s l).given ≡ s.given
  unfolding run
  run-receipts [] s r = refl
  run-receipts (e ∷ l) s r = run-receipts l (turn judge trace s e) r.1 ∙ turn-receipt s e r.0

-- how many bytes are told is the same whatever is shown
received_is : (k : Kind) (e : Event) (g : Given) (n : ℕ) → (stood_for k e g n).received ≡ n
received_is Received e g n = refl
received_is Asked e g n = refl
received_is Printed e nothing n = refl
received_is Printed e (gives l) n = refl
received_is Bad e g n = refl

module _ (key font : List ℕ) (asked : what.Asked) (z : Sizes (told key font asked.layout)) (enough : all_work ≤ asked.allowed) (trace : List ℕ) where
  abbrev t : Told
  t = told key font asked.layout

  abbrev judge : List ℕ → Judged
  judge = J key font asked z enough

  -- the call with room, for an event with no fault before it
  module _ (before : List Event) (e : Event) (after : List Event) (parts : events trace ≡ before ++ (e ∷ after))
      (sound : is_done (run judge trace start before).answer ≡ true) (b : List ℕ) (q : Stood) (b' : List ℕ) (room : longest_stream ≤ length b)
      (c : Shows key font asked.editions asked.layout trace (length before + 1) b q b') where
    abbrev s : Press
    s = run judge trace start before

    tests : sized_told t ≡ true
    tests = told-sized t z.key-is z.font-is

    front : take (length before) (events trace) ≡ before
    front = ap (take (length before)) parts ∙ take-append_seam before (e ∷ after)

    rest : drop (length before) (events trace) ≡ e ∷ after
    rest = ap (drop (length before)) parts ∙ drop-append_seam before (e ∷ after)

    -- it shows the line given, where the event is a print
    pub shows : q ≡ stood_for e.kind e s.given (length s.stream)
    unfolding stood_answer replayed_to
    shows =
        let n : length before + 1 ≡ suc (length before) = omega arith in
        c.0 ∙ rw (tests, le-ltb (length b) longest_stream room)
        (ap (λ (k : ℕ). stood_at k t asked.editions trace) n
        ∙ ap₂ (λ (x y : List Event). stood_of (run judge trace start x) y) front rest ∙ rw sound)

    -- and leaves the stream that was received before it
    pub leaves : take q.received b' ≡ s.stream
    unfolding stood_out replayed_to
    leaves =
        let n : length before + 1 - 1 ≡ length before = omega arith in
        let out : b' ≡ over s.stream b =
        c.1 ∙ rw (tests, le-ltb (length b) longest_stream room)
        (ap (λ (k : ℕ). over (run judge trace start (take k (events trace))).stream b) n ∙ ap (λ (x : List Event). over (run judge trace start x).stream b)
        front) in
        let many : q.received ≡ length s.stream =
        ap (λ (x : Stood). x.received) shows ∙ received_is e.kind e s.given (length s.stream) in
        ap (take q.received) out ∙ take-over s.stream b q.received (sym many)

  -- a request, receipts behind it, and a print
  module _ (bytes : Below 256 trace) (before : List Event) (e : Event) (between : List Event) (p : Event) (after : List Event)
      (parts : events trace ≡ before ++ (e ∷ (between ++ (p ∷ after)))) (request-is : e.kind ≡ Asked) (receipts : Receipts between)
      (print-is : p.kind ≡ Printed)
      (sound : is_done (run judge trace start (before ++ (e ∷ between))).answer ≡ true) where
    -- the lines given before the request
    abbrev so_far : List (List ℕ)
    so_far = gave judge trace start before

    parts-print : events trace ≡ (before ++ (e ∷ between)) ++ (p ∷ after)
    parts-print = parts ∙ sym (append_assoc before (e ∷ between) (p ∷ after))

    -- what the request gave is given still
    still : (run judge trace start (before ++ (e ∷ between))).given ≡ (run judge trace start (before ++ (e ∷ []))).given
    still =
        ap (λ (x : List Event). (run judge trace start x).given) (sym (append_assoc before (e ∷ []) between))
        ∙ ap (λ (x : Press). x.given) (run-append judge trace start (before ++ (e ∷ [])) between)
        ∙ run-receipts judge trace between (run judge trace start (before ++ (e ∷ []))) receipts

    -- `stood` of the request leaves the stream in its buffer; `stood` of the print then shows the next line of a whole run over that stream
    module _ (b : List ℕ) (q : Stood) (b' : List ℕ) (room : longest_stream ≤ length b)
        (c : Shows key font asked.editions asked.layout trace (length before + 1) b q b')
        (d : List ℕ) (x : Stood) (d' : List ℕ) (more_Room : longest_stream ≤ length d)
        (shown : Shows key font asked.editions asked.layout trace (length (before ++ (e ∷ between)) + 1) d x d') where
      pub shown-in-order : (w : WholeRun key font asked (take q.received b'))
          → (take (length so_far) (lines_seen w.seen) ≡ so_far) × (x ≡ stood_for Printed p (line_at (length so_far) (lines_seen w.seen)) x.received)
      shown-in-order w =
          let fine = done-before judge trace start before (e ∷ between) sound in
          let stream = leaves before e (between ++ (p ∷ after)) parts fine b q b' room c in
          let o = subst (λ (u : List ℕ). (v : WholeRun key font asked u) → (take (length so_far) (lines_seen v.seen) ≡ so_far)
          × ((run judge trace start (before ++ (e ∷ []))).given ≡ line_at (length so_far) (lines_seen v.seen))) (sym stream)
          (given-in-order key font asked z enough trace bytes before (between ++ (p ∷ after)) e parts request-is fine) w in
          let n = length (run judge trace start (before ++ (e ∷ between))).stream in
          let is : x ≡ stood_for Printed p (line_at (length so_far) (lines_seen w.seen)) n =
          shows (before ++ (e ∷ between)) p after parts-print sound d x d' more_Room shown
          ∙ ap₂ (λ (k : Kind) (g : Given). stood_for k p g n) print-is (still ∙ o.1) in
          let many : x.received ≡ n =
          ap (λ (y : Stood). y.received) is ∙ received_is Printed p (line_at (length so_far) (lines_seen w.seen)) n in
          (o.0, is ∙ ap (stood_for Printed p (line_at (length so_far) (lines_seen w.seen))) (sym many))

      pub shown-written : 0 < x.length → WrittenIn key font asked.layout asked.editions (take q.received b') (line_shown x)
      shown-written some = by-given (run judge trace start (before ++ (e ∷ []))).given refl
        where
          fine : is_done (run judge trace start before).answer ≡ true
          fine = done-before judge trace start before (e ∷ between) sound

          received : List ℕ
          received = (run judge trace start before).stream

          by-shown : (g : Given) → (run judge trace start (before ++ (e ∷ []))).given ≡ g → (n : ℕ) → x ≡ stood_for Printed p g n
              → WrittenIn key font asked.layout asked.editions (take q.received b') (line_shown x)
          by-shown nothing i n is = absurd (omega (arith, some, ap (λ (y : Stood). y.length) is))
          by-shown (gives l) i n is =
              let w = whole_run key font asked received z (stream-few judge trace before) in
              let line : line_shown x ≡ l = ap line_shown is ∙ take-over l zeros (length l) refl in
              rw (leaves before e (between ++ (p ∷ after)) parts fine b q b' room c, line)
              ((replay-given-written key font asked z enough trace bytes before (between ++ (p ∷ after)) e parts request-is fine w).given-is-written l i)

          by-given : (g : Given) → (run judge trace start (before ++ (e ∷ []))).given ≡ g
              → WrittenIn key font asked.layout asked.editions (take q.received b') (line_shown x)
          by-given g i =
              let n = length (run judge trace start (before ++ (e ∷ between))).stream in
              let is : x ≡ stood_for Printed p g n =
              shows (before ++ (e ∷ between)) p after parts-print sound d x d' more_Room shown
              ∙ ap₂ (λ (k : Kind) (y : Given). stood_for k p y n) print-is (still ∙ i) in
              by-shown g i n is
