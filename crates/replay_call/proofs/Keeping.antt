-- What each event does to a state, as the press's steps say: bytes taken in, a line given, a line printed. Assumes nothing.
use Rattle.std.specs.Prelude.{Err, Result, ⊤}
use mathlib.Core.Path.{◌≡◌, refl, sym, ap, ◌∙◌}
use mathlib.Core.Bool.{Bool, true, false, not, cond}
use mathlib.Core.List.{List, ◌++◌}
use Prim.Native.Nat.{ℕ, ◌+◌, ◌-◌, ◌≤◌, ◌<◌}
use native.Mathlib.Omega.{arith}
use lib.ListN.{length, take, drop, length-append, length-take, length-drop}
use lib.Seq.{sets, sets-eq, length-sets, take_at, drop_at, length-take-le}
use lib.Dec.{eqb}
use borrow.Author.Tests.{lt-ltb, le-ltb, eq-eqb, ne_eqb, eqb-true}
use Rattle.base_lists.specs.Buffers.{over, copied, same}
use Rattle.base_lists.specs.Over.{over-part, copied_all, take-over}
use Rattle.frame_spec.specs.Told.{Told}
use Rattle.read_spec.specs.Judged.{Judged}
use Rattle.read_call.specs.Answers.{longest_stream, sized_told}
use Rattle.replay_spec.specs.declared.ReplayFault.{ReplayFault}
use Rattle.replay_spec.specs.declared.ReplayFault.TheVariants.{TooLong, NoLine}
use Rattle.replay_spec.specs.declared.Kind.{Kind}
use Rattle.replay_spec.specs.declared.Kind.TheVariants.{Received, Printed, Bad}
use Rattle.replay_spec.specs.declared.Event.{Event}
use Rattle.replay_spec.specs.Events.{event_at, bytes_of}
use Rattle.replay_spec.specs.Press.{Given, nothing, gives, met, counted, faulty, receive, after, ask, print_on, print, first_differing, request, does, step}
use Rattle.replay_spec.specs.Runs.{event-placed}
use Rattle.replay_spec.specs.Answers.{judging, zeros}
use Rattle.replay_request.specs.declared.Reached.{Reached}
use Rattle.replay_request.specs.Requests.{reached, reached_of, requested}
use Rattle.replay_call.specs.declared.State.{State}
use Rattle.replay_call.specs.Holding.{held_given, held, state_of, failed, printed_by, Sound, Kept}

-- a fault changes the answer alone
pub kept-failed : (a : Result ⊤ ReplayFault) (c : State) (b : List ℕ) → Sound c b → Kept (faulty a (held c b)) c c.at b (failed a c) b
kept-failed a c b s = record {
  is = refl;
  there = refl;
  more = omega arith;
  long = refl;
  behind = refl;
  sound = record { room = s.room; few = s.few; short = s.short; padded = s.padded };
}

module _ (c : State) (v b : List ℕ) (s : Sound c b) where
  streamed : length (take c.received b) ≡ c.received
  streamed = length-take-le c.received b (omega (arith, s.few, s.room))

  pub kept-past : longest_stream - c.received < length v → Kept (receive v (held c b)) c c.at b (failed (Err TooLong) c) b
  unfolding receive
  kept-past h =
      rw (lt-ltb longest_stream (length (take c.received b) + length v) (omega (arith, streamed, s.few))) (kept-failed (Err TooLong) c b s)

  -- the bytes stand behind the stream
  pub kept_in : (out : List ℕ) → length v ≤ longest_stream - c.received → out ≡ copied v (take (length b - c.received) (drop c.received b))
      → Kept (receive v (held c b)) c c.at b
      (state_of c.at c.event (c.received + length v) c.place c.unprinted c.length c.line c.differs c.answer)
      (take c.received b ++ (out ++ drop (length b - c.received) (drop c.received b)))
  unfolding receive
  kept_in out h e =
      let fits : c.received + length v ≤ length b = omega (arith, s.few, s.room) in
      let w : take c.received b ++ (out ++ drop (length b - c.received) (drop c.received b)) ≡ sets b c.received v =
      rw (e, copied_all v (take (length b - c.received) (drop c.received b)) (simp (length-take, length-drop) (omega arith)))
      (over-part c.received v b fits) in
      let d : sets b c.received v ≡ take c.received b ++ v ++ drop (c.received + length v) b = sets-eq v b c.received fits in
      let n : length (take c.received b ++ v) ≡ c.received + length v = length-append (take c.received b) v ∙ omega (arith, streamed) in
      let front : take (c.received + length v) (sets b c.received v) ≡ take c.received b ++ v =
      ap (take (c.received + length v)) d ∙ take_at (take c.received b ++ v) (drop (c.received + length v) b) (c.received + length v) n in
      let rest : drop (c.received + length v) (sets b c.received v) ≡ drop (c.received + length v) b =
      ap (drop (c.received + length v)) d ∙ drop_at (take c.received b ++ v) (drop (c.received + length v) b) (c.received + length v) n in
      let long : length (sets b c.received v) ≡ length b = length-sets b c.received v in
      rw w
      (record {
        is = rw (le-ltb longest_stream (length (take c.received b) + length v) (omega (arith, streamed, s.few)), front);
        there = refl;
        more = omega arith;
        long = long;
        behind = rest;
        sound = record { room = omega (arith, long, s.room); few = omega (arith, s.few); short = s.short; padded = s.padded };
      })

-- a print by its state
module _ (c : State) (v b : List ℕ) (s : Sound c b) where
  after-print : State
  after-print =
      state_of c.at c.event c.received c.place false c.length c.line (first_differing c.differs c.event (same v (take c.length c.line)))
      c.answer

  by-unprinted : (u : Bool) → c.unprinted ≡ u → Kept (print_on (held_given u (take c.length c.line)) v (held c b)) c c.at b
      (cond (not u) (failed (Err NoLine) c) after-print) b
  unfolding after-print
  by-unprinted false e = kept-failed (Err NoLine) c b s
  by-unprinted true e = record {
    is = refl;
    there = refl;
    more = omega arith;
    long = refl;
    behind = refl;
    sound = record { room = s.room; few = s.few; short = s.short; padded = s.padded };
  }

  pub kept-printed : Kept (print v (held c b)) c c.at b (printed_by v c) b
  unfolding printed_by after-print
  kept-printed = by-unprinted c.unprinted refl

-- a print, test by test
module _ (c : State) (v : List ℕ) where
  first_differing-same : (d e : ℕ) → first_differing d e true ≡ d
  unfolding first_differing
  first_differing-same d e = go (eqb d 0) refl
    where
      go : (b : Bool) → eqb d 0 ≡ b → cond b 0 d ≡ d
      go true q = sym (eqb-true d 0 q)
      go false q = refl

  pub print-none : not c.unprinted ≡ true → failed (Err NoLine) c ≡ printed_by v c
  unfolding printed_by
  print-none u = rw u

  -- the line is printed, and this is the first event that differs
  abbrev pub printed_at : ℕ → State
  printed_at d = state_of c.at c.event c.received c.place false c.length c.line d c.answer

  pub print-same : not c.unprinted ≡ false → same v (take c.length c.line) ≡ true → printed_at c.differs ≡ printed_by v c
  unfolding printed_by
  print-same u e = rw (u, e) (sym (ap printed_at (first_differing-same c.differs c.event)))

  pub print-first : not c.unprinted ≡ false → same v (take c.length c.line) ≡ false → c.differs ≡ 0 → printed_at c.event ≡ printed_by v c
  unfolding printed_by first_differing
  print-first u e d = rw (u, e, eq-eqb c.differs 0 d)

  pub print-later : not c.unprinted ≡ false → same v (take c.length c.line) ≡ false → (c.differs ≡ 0 → ⊥) → printed_at c.differs ≡ printed_by v c
  unfolding printed_by first_differing
  print-later u e d = rw (u, e, ne_eqb c.differs 0 d)

-- what a request comes to is taken over
abbrev pub taken : State → Reached → State
taken c r = state_of c.at c.event c.received r.place r.found r.length r.line c.differs c.answer

module _ (c : State) (b : List ℕ) (s : Sound c b) where
  kept-met : (place : ℕ) (g : Given) → Kept (after (held c b) (met g place)) c c.at b (taken c (reached place g)) b
  kept-met place nothing = record {
    is = refl;
    there = refl;
    more = omega arith;
    long = refl;
    behind = refl;
    sound = record { room = s.room; few = s.few; short = omega arith; padded = refl };
  }
  kept-met place (gives l) =
      let e : take (length l) (over l zeros) ≡ l = take-over l zeros (length l) refl in
      record {
        is = rw e refl;
        there = refl;
        more = omega arith;
        long = refl;
        behind = refl;
        sound = record { room = s.room; few = s.few; short = omega (arith, length-append l (drop (length l) zeros)); padded = rw e refl };
      }

  -- a request of what was received so far
  pub kept-given : (t : Told) (ed : ℕ) → sized_told t ≡ true → (r : Reached) → r ≡ reached_of (requested t ed (take (c.received - 0) (drop 0 b)) c.place)
      → Kept (ask (judging t ed) (held c b)) c c.at b (taken c r) b
  unfolding ask requested
  kept-given t ed z r e =
      let n : c.received - 0 ≡ c.received = omega arith in
      let m = request (judging t ed) (take c.received b) c.place in
      let few : length (take c.received b) ≤ longest_stream = omega (arith, length-take c.received b, s.few) in
      let f : r ≡ reached_of m = e ∙ rw (n, z, le-ltb longest_stream (length (take c.received b)) few) in
      rw f (kept-met m.place m.given)

-- an event counted, and the place behind it reached
abbrev pub moved : State → Event → State
moved c e = state_of e.end (c.event + 1) c.received c.place c.unprinted c.length c.line c.differs c.answer

pub moved-sound : (c : State) (e : Event) (b : List ℕ) → Sound c b → Sound (moved c e) b
moved-sound c e b s = record { room = s.room; few = s.few; short = s.short; padded = s.padded }

-- what an event of its kind does is the step
pub step_kept : (judge : List ℕ → Judged) (trace : List ℕ) (c : State) (b : List ℕ) (c' : State) (b' : List ℕ) (e : Event) → e ≡ event_at trace c.at
    → (k : Kind) → e.kind ≡ k → Kept (does judge k (bytes_of trace e) (counted (held c b))) (moved c e) e.end b c' b'
    → Kept (step judge trace (held c b) (event_at trace c.at)) c (event_at trace c.at).end b c' b'
unfolding step
step_kept judge trace c b c' b' e p k q s =
    let X = counted (held c b) in
    record {
      is = s.is ∙ ap (λ (x : Kind). does judge x (bytes_of trace e) X) (sym q) ∙ ap (λ (x : Event). does judge x.kind (bytes_of trace x) X) p;
      there = s.there ∙ ap (λ (x : Event). x.end) p;
      more = s.more;
      long = s.long;
      behind = s.behind;
      sound = s.sound;
    }

-- the bytes of an event that is not bad stand within the trace
module _ (trace : List ℕ) (at : ℕ) (e : Event) (p : e ≡ event_at trace at) where
  pub record Inside : Type 0 where
    pub order : e.start ≤ e.end
    pub within : e.end ≤ length trace

  inside : (e.kind ≡ Bad → ⊥) → Inside
  inside n =
      let g = event-placed trace at in
      let m : (event_at trace at).kind ≡ Bad → ⊥ = λ q. n (ap (λ (x : Event). x.kind) p ∙ q) in
      record { order = rw p (g.order m); within = rw p (g.within m) }

  pub received-inside : e.kind ≡ Received → Inside
  received-inside q = inside (λ z. absurd (let u : ◌≡◌ {A = ℕ} 0 1 = cc (sym q ∙ z) in omega arith))

  pub printed-inside : e.kind ≡ Printed → Inside
  printed-inside q = inside (λ z. absurd (let u : ◌≡◌ {A = ℕ} 0 1 = cc (sym q ∙ z) in omega arith))
