-- What the two calls answer and leave: refused, or by the run of the events. Assumes nothing.
use Rattle.std.specs.Prelude.{Ok, Err, Result, ⊤}
use mathlib.Core.Path.{◌≡◌, refl, sym, ap, ◌∙◌}
use mathlib.Core.Bool.{Bool, true, false, not, cond}
use mathlib.Core.List.{List}
use Prim.Native.Nat.{ℕ, suc, ◌-◌, ◌≤◌}
use native.Mathlib.Omega.{arith}
use lib.Dec.{ltb}
use lib.ListN.{length, take}
use lib.Seq.{take_all, length-take-le}
use borrow.Author.Tests.{le-ltb, ltb-false}
use Rattle.base_lists.specs.Never.{never}
use Rattle.base_lists.specs.Buffers.{over}
use Rattle.frame_spec.specs.Told.{Told}
use Rattle.read_call.specs.Answers.{longest_stream, sized_told}
use Rattle.replay_spec.specs.declared.ReplayFault.{ReplayFault}
use Rattle.replay_spec.specs.declared.ReplayFault.TheVariants.{Sizes, NoRoom}
use Rattle.replay_spec.specs.Events.{events}
use Rattle.replay_spec.specs.Press.{start, is_done, run}
use Rattle.replay_spec.specs.Runs.{events-few}
use Rattle.replay_spec.specs.Answers.{judging, replayed, replayed_to, replayed_as, answer_of, replay_answer, replay_out, none_stood, stood_at, stood_answer, stood_out}
use Rattle.replay_call.specs.declared.State.{State}
use Rattle.replay_call.specs.Holding.{refusal_of, held, Ran, stood_next}
use Rattle.replay_call.proofs.Standing.{next-stood}

module _ (t : Told) (ed : ℕ) (trace o : List ℕ) where
  -- what refuses the call before any event
  abbrev first : Result ⊤ ReplayFault
  first = refusal_of (length t.key) (length t.font) (length o)

  first-is : first ≡ cond (not (sized_told t)) (Err Sizes) (cond (ltb (length o) longest_stream) (Err NoRoom) (Ok tt))
  unfolding refusal_of sized_told
  first-is = refl

  -- nothing does: the sizes are right, and there is room
  pub not-refused : is_done first ≡ true → (longest_stream ≤ length o) × (sized_told t ≡ true)
  not-refused d = go (sized_told t) refl (ltb (length o) longest_stream) refl (ap is_done (sym first-is) ∙ d)
    where
      go : (x : Bool) → sized_told t ≡ x → (y : Bool) → ltb (length o) longest_stream ≡ y → is_done (cond (not x) (Err Sizes) (cond y (Err NoRoom) (Ok tt))) ≡ true
          → (longest_stream ≤ length o) × (sized_told t ≡ true)
      go false e y f n = never n
      go true e true f n = never n
      go true e false f n = (ltb-false (length o) longest_stream f, e)

  pub replay-refused : is_done first ≡ false → (replayed_as first 0 0 ≡ replay_answer t ed trace o) × (o ≡ replay_out t ed trace o)
  unfolding replay_answer replay_out
  replay-refused d = rw first-is (go (sized_told t) (ltb (length o) longest_stream) (ap is_done (sym first-is) ∙ d))
    where
      go : (x y : Bool) → is_done (cond (not x) (Err Sizes) (cond y (Err NoRoom) (Ok tt))) ≡ false
          → (replayed_as (cond (not x) (Err Sizes) (cond y (Err NoRoom) (Ok tt))) 0 0 ≡ cond (not x) (replayed_as (Err Sizes) 0 0)
          (cond y (replayed_as (Err NoRoom) 0 0) (answer_of (replayed t ed trace))))
          × (o ≡ cond (not x) o (cond y o (over (replayed t ed trace).stream o)))
      go false y n = (refl, refl)
      go true true n = (refl, refl)
      go true false n = never (sym n)

  all : take (length trace) (events trace) ≡ events trace
  unfolding events
  all = take_all (length trace) (events trace) (events-few (length trace) trace 0)

  module _ (z : sized_told t ≡ true) (h : longest_stream ≤ length o) where
    module _ (c : State) (b : List ℕ) (r : Ran (judging t ed) trace (length trace) o c b) where
      is : held c b ≡ replayed t ed trace
      unfolding replayed
      is = r.is ∙ ap (run (judging t ed) trace start) all

      out : b ≡ replay_out t ed trace o
      unfolding replay_out replayed
      out = r.out ∙ rw (all, z, le-ltb (length o) longest_stream h)

      streamed : c.received ≡ length (take c.received b)
      streamed = sym (length-take-le c.received b (omega (arith, r.sound.few, r.sound.room)))

      said : answer_of (held c b) ≡ replay_answer t ed trace o
      unfolding replay_answer
      said = ap answer_of is ∙ rw (z, le-ltb (length o) longest_stream h)

      pub replay-done : is_done c.answer ≡ true → (replayed_as c.answer c.differs c.received ≡ replay_answer t ed trace o)
          × (b ≡ replay_out t ed trace o)
      replay-done d = (
        ap (replayed_as c.answer c.differs) streamed ∙ (let e : replayed_as c.answer c.differs (length (take c.received b))
            ≡ answer_of (held c b) = rw d in e) ∙ said,
        out,
      )

      pub replay-faulty : is_done c.answer ≡ false → (replayed_as c.answer c.event c.received ≡ replay_answer t ed trace o)
          × (b ≡ replay_out t ed trace o)
      replay-faulty d = (
        ap (replayed_as c.answer c.event) streamed ∙ (let e : replayed_as c.answer c.event (length (take c.received b))
            ≡ answer_of (held c b) = rw d in e) ∙ said,
        out,
      )

  module _ (n : ℕ) where
    pub stood-refused : is_done first ≡ false → (none_stood first 0 ≡ stood_answer t ed trace n o) × (o ≡ stood_out t ed trace n o)
    unfolding stood_answer stood_out
    stood-refused d = rw first-is (go (sized_told t) (ltb (length o) longest_stream) (ap is_done (sym first-is) ∙ d))
      where
        go : (x y : Bool) → is_done (cond (not x) (Err Sizes) (cond y (Err NoRoom) (Ok tt))) ≡ false
            → (none_stood (cond (not x) (Err Sizes) (cond y (Err NoRoom) (Ok tt))) 0 ≡ cond (not x) (none_stood (Err Sizes) 0) (cond y (none_stood (Err NoRoom) 0) (stood_at n t ed trace)))
            × (o ≡ cond (not x) o (cond y o (over (replayed_to (n - 1) t ed trace).stream o)))
        go false y q = (refl, refl)
        go true true q = (refl, refl)
        go true false q = never (sym q)

    module _ (z : sized_told t ≡ true) (h : longest_stream ≤ length o) where
      pub stood-zero : n ≡ 0 → (none_stood (Ok tt) 0 ≡ stood_answer t ed trace n o) × (o ≡ stood_out t ed trace n o)
      unfolding stood_answer stood_out replayed_to run
      stood-zero e = (rw (z, le-ltb (length o) longest_stream h, e), rw (z, le-ltb (length o) longest_stream h, e))

      pub stood-ran : (n ≡ 0 → ⊥) → (c : State) (b : List ℕ) → Ran (judging t ed) trace (n - 1) o c b
          → (stood_next trace c ≡ stood_answer t ed trace n o) × (b ≡ stood_out t ed trace n o)
      unfolding stood_answer stood_out replayed_to
      stood-ran e c b r =
          let s : suc (n - 1) ≡ n = omega (arith, e) in (
            next-stood (judging t ed) trace (n - 1) o c b r ∙ ap (λ (k : ℕ). stood_at k t ed trace) s ∙ rw (z, le-ltb (length o) longest_stream h),
            r.out ∙ rw (z, le-ltb (length o) longest_stream h),
          )
