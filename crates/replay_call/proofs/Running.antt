-- The loop over a trace: what it keeps, and where it stops. Assumes nothing.
use mathlib.Core.Path.{◌≡◌, refl, sym, ap, ◌∙◌}
use mathlib.Core.Bool.{true, false}
use mathlib.Core.List.{List, [], ◌∷◌, ◌++◌, append_assoc, append-nil}
use Prim.Native.Nat.{ℕ, suc, ◌+◌, ◌-◌, ◌≤◌, ◌<◌}
use native.Mathlib.Omega.{arith}
use lib.ListN.{length, take, drop, length-append, take-append-drop, drop_of_length-le}
use lib.Seq.{take_all, take-append_seam, drop-append_seam, take-append-add, drop-drop, length-take-le}
use Rattle.base_lists.specs.Never.{never}
use Rattle.base_lists.specs.Buffers.{over}
use Rattle.read_spec.specs.Judged.{Judged}
use Rattle.read_call.specs.Answers.{longest_stream}
use Rattle.replay_spec.specs.declared.Event.{Event}
use Rattle.replay_spec.specs.Events.{event_at, events_in, events}
use Rattle.replay_spec.specs.Press.{Press, start, is_done, step, turn, run}
use Rattle.replay_spec.specs.Runs.{step_counts, run-append, run-stays, turn-done, event-placed, events-none, events-one}
use Rattle.replay_call.specs.declared.State.{State}
use Rattle.replay_call.specs.Holding.{held, begun, Sound, Kept, Left, Ran}

module _ (judge : List ℕ → Judged) (trace o : List ℕ) (n : ℕ) where
  -- some first events are done, no more than n, and none of them was at fault
  pub record Running (c : State) (b : List ℕ) : Type 0 where
    pub before : List Event
    pub fuel : ℕ
    pub enough : length trace ≤ c.at + fuel
    pub parts : events trace ≡ before ++ events_in fuel trace c.at
    pub count : length before ≡ c.event
    pub is : held c b ≡ run judge trace start before
    pub long : length b ≡ length o
    pub behind : drop c.received b ≡ drop c.received o
    pub sound : Sound c b
    pub events-few : c.event ≤ c.at
    pub most : c.event ≤ n
    pub fine : is_done c.answer ≡ true

  pub running_none : longest_stream ≤ length o → (c : State) → c ≡ begun → Running c o
  unfolding events run
  running_none h c e =
      rw e
      (record {
        before = [];
        fuel = length trace;
        enough = omega arith;
        parts = refl;
        count = refl;
        is = refl;
        long = refl;
        behind = refl;
        sound = record { room = h; few = omega arith; short = omega arith; padded = refl };
        events-few = omega arith;
        most = omega arith;
        fine = refl;
      })

  -- the buffer holds the stream, and behind it what it held
  buffered : (c : State) (b : List ℕ) → Sound c b → drop c.received b ≡ drop c.received o → b ≡ over (take c.received b) o
  buffered c b s d =
      let n : length (take c.received b) ≡ c.received = length-take-le c.received b (omega (arith, s.few, s.room)) in
      sym (take-append-drop c.received b) ∙ ap (λ (l : List ℕ). take c.received b ++ l) (d ∙ ap (λ (k : ℕ). drop k o) (sym n))

  ran : (c : State) (b : List ℕ) → held c b ≡ run judge trace start (take n (events trace)) → drop c.received b ≡ drop c.received o → Sound c b
      → (is_done c.answer ≡ true → Left trace n c.at) → Ran judge trace n o c b
  ran c b e d s l = record {
    is = e;
    out = buffered c b s d ∙ ap (λ (x : Press). over x.stream o) e;
    sound = s;
    left = l;
  }

  module _ {c : State} {b : List ℕ} (r : Running c b) where
    -- as many events as were asked for
    pub running-all : n ≤ c.event → Ran judge trace n o c b
    running-all h =
        let m : c.event ≤ n = r.most in
        let k : length r.before ≡ n = omega (arith, r.count) in
        let t : take n (events trace) ≡ r.before = rw (r.parts, ← k) (take-append_seam r.before (events_in r.fuel trace c.at)) in
        let d : drop n (events trace) ≡ events_in r.fuel trace c.at =
        rw (r.parts, ← k) (drop-append_seam r.before (events_in r.fuel trace c.at)) in
        ran c b (rw t r.is) r.behind r.sound (λ f. record { fuel = r.fuel; enough = r.enough; rest = d })

    -- the trace is at its end
    pub running-out : length trace ≤ c.at → Ran judge trace n o c b
    running-out g =
        let none : events_in r.fuel trace c.at ≡ [] = events-none trace c.at r.fuel g in
        let whole : events trace ≡ r.before = r.parts ∙ rw none (append-nil r.before) in
        let m : length (events trace) ≤ n = omega (arith, ap length whole, r.count, r.most) in
        let t : take n (events trace) ≡ r.before = take_all n (events trace) m ∙ whole in
        ran c b (rw t r.is) r.behind r.sound
        (λ f. record { fuel = r.fuel; enough = r.enough; rest = drop_of_length-le (events trace) {i = n} m ∙ sym none })

    module _ (h : c.event < n) (g : c.at < length trace) (c' : State) (b' : List ℕ)
        (k : Kept (step judge trace (held c b) (event_at trace c.at)) c (event_at trace c.at).end b c' b') where
      abbrev e : Event
      e = event_at trace c.at

      abbrev rest : List Event
      rest = events_in (r.fuel - 1) trace e.end

      -- one event more
      split : events trace ≡ (r.before ++ (e ∷ [])) ++ rest
      split =
          let en : length trace ≤ c.at + r.fuel = r.enough in
          let f : r.fuel ≡ suc (r.fuel - 1) = omega arith in
          r.parts
          ∙ ap (λ (l : List Event). r.before ++ l) (ap (λ (m : ℕ). events_in m trace c.at) f ∙ events-one trace c.at (r.fuel - 1) g)
          ∙ sym (append_assoc r.before (e ∷ []) rest)

      many : length (r.before ++ (e ∷ [])) ≡ c.event + 1
      many = length-append r.before (e ∷ []) ∙ omega (arith, r.count)

      stepped : held c' b' ≡ run judge trace start (r.before ++ (e ∷ []))
      unfolding run
      stepped =
          let d : is_done (held c b).answer ≡ true = r.fine in
          k.is ∙ sym (turn-done judge trace (held c b) e d)
          ∙ ap (λ (x : Press). turn judge trace x e) r.is ∙ sym (run-append judge trace start r.before (e ∷ []))

      stays : drop c'.received b' ≡ drop c'.received o
      stays =
          let m : c.received ≤ c'.received = k.more in
          let q : c.received + (c'.received - c.received) ≡ c'.received = omega arith in
          let w : drop c'.received b ≡ drop c'.received o =
          rw (← q, ← drop-drop (c'.received - c.received) c.received b, ← drop-drop (c'.received - c.received) c.received o)
          (ap (drop (c'.received - c.received)) r.behind) in
          k.behind ∙ w

      pub counts : c'.event ≡ c.event + 1
      counts = ap (λ (x : Press). x.event) k.is ∙ step_counts judge trace (held c b) e

      pub running_more : is_done c'.answer ≡ true → Running c' b'
      running_more f =
          let en : length trace ≤ c.at + r.fuel = r.enough in
          let mv : c.at < e.end = (event-placed trace c.at).moves g in
          let there : c'.at ≡ e.end = k.there in
          record {
            before = r.before ++ (e ∷ []);
            fuel = r.fuel - 1;
            enough = omega arith;
            parts = split ∙ ap (λ (m : ℕ). (r.before ++ (e ∷ [])) ++ events_in (r.fuel - 1) trace m) (sym there);
            count = many ∙ sym counts;
            is = stepped;
            long = k.long ∙ r.long;
            behind = stays;
            sound = k.sound;
            events-few = omega (arith, counts, r.events-few);
            most = omega (arith, counts, h);
            fine = f;
          }

      -- the event is at fault
      pub running-stops : is_done c'.answer ≡ false → Ran judge trace n o c' b'
      running-stops f =
          let done = r.before ++ (e ∷ []) in
          let q : length done + (n - length done) ≡ n = omega (arith, many) in
          let t : take n (events trace) ≡ done ++ take (n - length done) rest = rw split (ap (λ (m : ℕ). take m (done ++ rest)) (sym q) ∙ take-append-add done
          rest (n - length done)) in
          let u : is_done (run judge trace start done).answer ≡ false = ap (λ (x : Press). is_done x.answer) (sym stepped) ∙ f in
          ran c' b'
          (stepped ∙ sym (ap (run judge trace start) t ∙ run-append judge trace start done (take (n - length done) rest) ∙ run-stays judge trace
          (run judge trace start done) (take (n - length done) rest) u))
          stays k.sound (λ y. never (sym f ∙ y))
