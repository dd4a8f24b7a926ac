-- What stands at the next event, test by test, and that it is what stood at the event asked for. Assumes nothing.
use Rattle.std.specs.Prelude.{Ok}
use mathlib.Core.Path.{◌≡◌, refl, sym, ap, ap₂, ◌∙◌}
use mathlib.Core.Bool.{Bool, true, false, not, cond}
use mathlib.Core.List.{List, [], ◌∷◌}
use Prim.Native.Nat.{ℕ, suc, ◌+◌, ◌-◌, ◌≤◌, ◌<◌}
use native.Mathlib.Decide.{dec_lt}
use native.Mathlib.Omega.{arith}
use lib.ListN.{length, take, drop}
use lib.Seq.{length-take-le}
use borrow.Author.Tests.{lt-ltb, le-ltb}
use Rattle.read_spec.specs.Judged.{Judged}
use Rattle.replay_spec.specs.declared.Kind.{Kind}
use Rattle.replay_spec.specs.declared.Kind.TheVariants.{Received, Asked, Printed, Bad}
use Rattle.replay_spec.specs.declared.Event.{Event}
use Rattle.replay_spec.specs.Events.{event_at, events_in, events}
use Rattle.replay_spec.specs.Press.{Press, start, is_done, run}
use Rattle.replay_spec.specs.Runs.{events-none, events-one}
use Rattle.replay_spec.specs.Answers.{none_stood, stood_for, stood_of}
use Rattle.replay_call.specs.declared.State.{State}
use Rattle.replay_call.specs.Holding.{held_given, held, Left, Ran, stood_by, stood_next}

module _ (trace : List ℕ) (c : State) where
  pub next-fault : is_done c.answer ≡ false → none_stood (Ok tt) c.received ≡ stood_next trace c
  unfolding stood_next
  next-fault d = rw d

  module _ (d : is_done c.answer ≡ true) where
    pub next-end : length trace ≤ c.at → none_stood (Ok tt) c.received ≡ stood_next trace c
    unfolding stood_next
    next-end h = rw (d, le-ltb c.at (length trace) h)

    module _ (h : c.at < length trace) where
      pub next-printed : not c.unprinted ≡ true → none_stood (Ok tt) c.received ≡ stood_next trace c
      unfolding stood_next
      next-printed u = rw (d, lt-ltb c.at (length trace) h, u)

      pub next-kind : not c.unprinted ≡ false → (e : Event) → e ≡ event_at trace c.at → (k : Kind) → e.kind ≡ k → stood_by k e c ≡ stood_next trace c
      unfolding stood_next
      next-kind u e p k q =
          ap (λ (x : Kind). stood_by x e c) (sym q) ∙ ap (λ (x : Event). stood_by x.kind x c) p ∙ rw (d, lt-ltb c.at (length trace) h, u)

module _ (judge : List ℕ → Judged) (trace : List ℕ) (n : ℕ) (o : List ℕ) (c : State) (b : List ℕ) (r : Ran judge trace n o c b) where
  abbrev after : Press
  after = run judge trace start (take n (events trace))

  -- an event by its kind
  by_kind : (k : Kind) (e : Event) → (u : Bool) → c.unprinted ≡ u
      → cond (not u) (none_stood (Ok tt) c.received) (stood_by k e c) ≡ stood_for k e (held_given u (take c.length c.line)) c.received
  by_kind Received e true q = refl
  by_kind Received e false q = refl
  by_kind Asked e true q = refl
  by_kind Asked e false q = refl
  by_kind Printed e true q =
      let l = take c.length c.line in
      let n : length l ≡ c.length = length-take-le c.length c.line r.sound.short in
      sym (ap₂ (λ (k : ℕ) (x : List ℕ). record { answer = Ok tt; length = k; line = x; place = e.start; printed = e.end - e.start; received = c.received })
      n (sym r.sound.padded))
  by_kind Printed e false q = refl
  by_kind Bad e true q = refl
  by_kind Bad e false q = refl

  streamed : c.received ≡ length (take c.received b)
  streamed = sym (length-take-le c.received b (omega (arith, r.sound.few, r.sound.room)))

  module _ (d : is_done c.answer ≡ true) (h : c.at < length trace) where
    abbrev e : Event
    e = event_at trace c.at

    by-unprinted : (u : Bool) → c.unprinted ≡ u → cond (not u) (none_stood (Ok tt) c.received) (stood_by e.kind e c) ≡ stood_next trace c
    by-unprinted true q = next-kind trace c d h (rw q refl) e refl e.kind refl
    by-unprinted false q = next-printed trace c d h (rw q refl)

    here : stood_next trace c ≡ stood_for e.kind e (held_given c.unprinted (take c.length c.line)) c.received
    here = sym (by-unprinted c.unprinted refl) ∙ by_kind e.kind e c.unprinted refl

  -- an event is left, or none
  by_left : Left trace n c.at → is_done c.answer ≡ true → stood_next trace c ≡ stood_of (held c b) (drop n (events trace))
  by_left l d = elim (dec_lt c.at (length trace)) [
    | yes h ↦
        let en : length trace ≤ c.at + l.fuel = l.enough in
        let f : l.fuel ≡ suc (l.fuel - 1) = omega arith in
        let x = event_at trace c.at in
        let rest : drop n (events trace) ≡ x ∷ events_in (l.fuel - 1) trace x.end =
        l.rest ∙ ap (λ (m : ℕ). events_in m trace c.at) f ∙ events-one trace c.at (l.fuel - 1) h in
        here d h ∙ ap (stood_for x.kind x (held_given c.unprinted (take c.length c.line))) streamed ∙ sym (ap (stood_of (held c b)) rest ∙ rw d)
    | no h ↦
        let g : length trace ≤ c.at = omega (arith, h) in
        let rest : drop n (events trace) ≡ [] = l.rest ∙ events-none trace c.at l.fuel g in
        sym (next-end trace c d g) ∙ ap (none_stood (Ok tt)) streamed ∙ sym (ap (stood_of (held c b)) rest)
  ]

  -- what stands at the next event is what stood at the event asked for
  pub next-stood : stood_next trace c ≡ stood_of after (drop n (events trace))
  next-stood = go (is_done c.answer) refl ∙ ap (λ (x : Press). stood_of x (drop n (events trace))) r.is
    where
      none : (l : List Event) → is_done c.answer ≡ false → none_stood (Ok tt) (length (take c.received b)) ≡ stood_of (held c b) l
      none [] d = refl
      none (e ∷ l) d = rw d

      go : (x : Bool) → is_done c.answer ≡ x → stood_next trace c ≡ stood_of (held c b) (drop n (events trace))
      go true d = by_left (r.left d) d
      go false d =
          sym (next-fault trace c d)
          ∙ ap (none_stood (Ok tt)) streamed ∙ none (drop n (events trace)) d

  pub received_is : c.received ≡ length after.stream
  received_is = streamed ∙ ap (λ (x : Press). length x.stream) r.is
