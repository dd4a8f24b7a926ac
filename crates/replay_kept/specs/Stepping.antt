-- What the events of a trace do to a press with no fault so far: each takes in the bytes it received, or is at fault and takes in none; a print compares.
-- Over any way to judge a stretch's bytes. Assumes nothing.
use Rattle.std.specs.Prelude.{◌≡◌, Bool, true, false, cond, ltb, length, Err, Result, ⊤}
use Rattle.std.proofs.Math.Path.{refl, ap}
use Rattle.std.proofs.Common.{sym, subst, ◌∙◌, arith, ltb-true}
use mathlib.Core.List.{List, [], ◌∷◌, ◌++◌, append_assoc, append-nil}
use Prim.Native.Nat.{ℕ, ◌+◌, ◌<◌}
use Rattle.base_lists.specs.Never.{never}
use Rattle.read_spec.specs.Judged.{Judged}
use Rattle.read_call.specs.Answers.{longest_stream}
use Rattle.replay_spec.specs.declared.Kind.{Kind}
use Rattle.replay_spec.specs.declared.Kind.TheVariants.{Received, Asked, Printed, Bad}
use Rattle.replay_spec.specs.declared.Event.{Event}
use Rattle.replay_spec.specs.declared.ReplayFault.{ReplayFault}
use Rattle.replay_spec.specs.declared.ReplayFault.TheVariants.{Field, NoLine, TooLong}
use Rattle.replay_spec.specs.Events.{bytes_of}
use Rattle.replay_spec.specs.Press.{Given, nothing, gives, Press, press, counted, faulty, receive, ask, print_on, does, is_done, step, turn, run}
use Rattle.replay_spec.specs.Runs.{step_counts, turn-done, run-append, run-stays}

-- the stream bytes that an event receives, by its kind
abbrev pub took_for : Kind → List ℕ → List ℕ
took_for Received v = v
took_for Asked v = []
took_for Printed v = []
took_for Bad v = []

abbrev pub took : List ℕ → Event → List ℕ
took trace e = took_for e.kind (bytes_of trace e)

-- and that events receive, one after the other
abbrev pub received_in : List ℕ → List Event → List ℕ
received_in trace [] = []
received_in trace (e ∷ l) = took trace e ++ received_in trace l

-- what an event is at fault for: a bad field, a print with no line given and unprinted, or bytes that take the stream past its limit
pub data Fault (trace : List ℕ) (s : Press) (e : Event) : Result ⊤ ReplayFault → Type 0 where
  bad-field : e.kind ≡ Bad → Fault trace s e (Err Field)
  no_line : e.kind ≡ Printed → s.given ≡ nothing → Fault trace s e (Err NoLine)
  too_long : e.kind ≡ Received → longest_stream < length s.stream + length (bytes_of trace e) → Fault trace s e (Err TooLong)

-- an event that received w: it took w in, or it is at fault and the stream is as it was
data Stepped (trace : List ℕ) (s : Press) (e : Event) (w : List ℕ) (p : Press) : Type 0 where
  fine : is_done p.answer ≡ true → p.stream ≡ s.stream ++ w → Stepped trace s e w p
  fault : is_done p.answer ≡ false → p.stream ≡ s.stream → Fault trace s e p.answer → Stepped trace s e w p

module _ (judge : List ℕ → Judged) (trace : List ℕ) where
  stepped : (s : Press) (e : Event) → is_done s.answer ≡ true → Stepped trace s e (took trace e) (step judge trace s e)
  unfolding step receive ask
  stepped s e d = by_kind e.kind refl
    where
      v : List ℕ
      v = bytes_of trace e

      by-limit : (b : Bool) → ltb longest_stream (length s.stream + length v) ≡ b → e.kind ≡ Received
          → Stepped trace s e v (cond b (faulty (Err TooLong) (counted s)) (press (s.event + 1) (s.stream ++ v) s.place s.given s.differs s.answer))
      by-limit true h k = fault refl refl (too_long k (ltb-true longest_stream (length s.stream + length v) h))
      by-limit false h k = fine d refl

      by-given : (g : Given) → s.given ≡ g → e.kind ≡ Printed → Stepped trace s e [] (print_on g v (counted s))
      by-given nothing h k = fault refl refl (no_line k h)
      by-given (gives l) h k = fine d (sym (append-nil s.stream))

      by_kind : (k : Kind) → e.kind ≡ k → Stepped trace s e (took_for k v) (does judge k v (counted s))
      by_kind Received k = by-limit (ltb longest_stream (length s.stream + length v)) refl k
      by_kind Asked k = fine d (sym (append-nil s.stream))
      by_kind Printed k = by-given s.given refl k
      by_kind Bad k = fault refl refl (bad-field k)

  -- events one after the other: all are done, or one is the first at fault, and nothing is done behind it
  pub data Ended (s : Press) (l : List Event) (p : Press) : Type 0 where
    all_done : is_done p.answer ≡ true → p.stream ≡ s.stream ++ received_in trace l → Ended s l p
    at-fault : (before : List Event) (e : Event) (after : List Event) → l ≡ before ++ (e ∷ after) → is_done p.answer ≡ false
        → is_done (run judge trace s before).answer ≡ true → Fault trace (run judge trace s before) e p.answer
        → p.event ≡ s.event + length before + 1 → p.stream ≡ s.stream ++ received_in trace before → Ended s l p

  -- one event more before them
  ended-more : (s : Press) (e : Event) (l : List Event) (p : Press) → (turn judge trace s e).event ≡ s.event + 1
      → (turn judge trace s e).stream ≡ s.stream ++ took trace e → Ended (turn judge trace s e) l p → Ended s (e ∷ l) p
  unfolding run
  ended-more s e l p n q (all_done d r) =
      all_done d (r ∙ ap (λ (x : List ℕ). x ++ received_in trace l) q ∙ append_assoc s.stream (took trace e) (received_in trace l))
  ended-more s e l p n q (at-fault b x a parts d f u c r) =
      at-fault (e ∷ b) x a (ap (λ (y : List Event). e ∷ y) parts) d f u (omega (arith, n, c))
      (r ∙ ap (λ (y : List ℕ). y ++ received_in trace b) q ∙ append_assoc s.stream (took trace e) (received_in trace b))

  pub run-ended : (l : List Event) (s : Press) → is_done s.answer ≡ true → Ended s l (run judge trace s l)
  unfolding run
  run-ended [] s d = all_done d (sym (append-nil s.stream))
  run-ended (e ∷ l) s d = go (subst (Stepped trace s e (took trace e)) (sym is) (stepped s e d)) (λ f. run-ended l t f)
    where
      t : Press
      t = turn judge trace s e

      is : turn judge trace s e ≡ step judge trace s e
      is = turn-done judge trace s e d

      counts : (turn judge trace s e).event ≡ s.event + 1
      counts = ap (λ (p : Press). p.event) is ∙ step_counts judge trace s e

      go : Stepped trace s e (took trace e) t → (is_done t.answer ≡ true → Ended t l (run judge trace t l)) → Ended s (e ∷ l) (run judge trace t l)
      go (fine f q) more = ended-more s e l (run judge trace t l) counts q (more f)
      go (fault f q u) more =
          rw (run-stays judge trace t l f) (at-fault [] e l refl f d u (omega (arith, counts)) (q ∙ sym (append-nil s.stream)))

  -- where the last of some events is done, so are those before it
  pub done-before : (s : Press) (l m : List Event) → is_done (run judge trace s (l ++ m)).answer ≡ true → is_done (run judge trace s l).answer ≡ true
  done-before s l m d = go (is_done (run judge trace s l).answer) refl
    where
      go : (b : Bool) → is_done (run judge trace s l).answer ≡ b → is_done (run judge trace s l).answer ≡ true
      go true e = e
      go false e =
          let stays : run judge trace s (l ++ m) ≡ run judge trace s l = run-append judge trace s l m ∙ run-stays judge trace (run judge trace s l) m e in
          never (sym e ∙ sym (ap (λ (p : Press). is_done p.answer) stays) ∙ d)
