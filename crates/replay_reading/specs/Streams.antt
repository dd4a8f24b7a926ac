-- The stream that a press has received: it grows by parts of the trace, stays within its limit, and is bytes where the trace is. Assumes nothing.
use Rattle.std.specs.Prelude.{◌≡◌, refl, Bool, true, false, cond, ltb, length, drop}
use mathlib.Core.List.{List, [], ◌∷◌, ◌++◌}
use Prim.Native.Nat.{ℕ, ◌+◌, ◌-◌, ◌≤◌}
use Rattle.std.proofs.Common.{arith, length-append, ltb-false}
use Rattle.base_lists.specs.Below.{Below, below-append, below-take, below-drop}
use Rattle.read_spec.specs.Judged.{Judged}
use Rattle.read_call.specs.Answers.{longest_stream}
use Rattle.replay_spec.specs.declared.Kind.{Kind}
use Rattle.replay_spec.specs.declared.Kind.TheVariants.{Received, Asked, Printed, Bad}
use Rattle.replay_spec.specs.declared.Event.{Event}
use Rattle.replay_spec.specs.Events.{bytes_of}
use Rattle.replay_spec.specs.Press.{Given, nothing, gives, Press, start, counted, receive, ask, print_on, does, is_done, step, turn, run}

module _ (judge : List ℕ → Judged) (trace : List ℕ) (P : List ℕ → Type 0)
    (grows : (s : List ℕ) (e : Event) → length s + length (bytes_of trace e) ≤ longest_stream → P s → P (s ++ bytes_of trace e)) where
  turn-keeps : (s : Press) (e : Event) → P s.stream → P (turn judge trace s e).stream
  unfolding turn step receive ask
  turn-keeps s e p = by-done (is_done s.answer)
    where
      v : List ℕ
      v = bytes_of trace e

      by-limit : (b : Bool) → ltb longest_stream (length s.stream + length v) ≡ b → (x y : Press) → x.stream ≡ s.stream → y.stream ≡ s.stream ++ v
          → P (cond b x y).stream
      by-limit true h x y q q' = rw q p
      by-limit false h x y q q' = rw q' (grows s.stream e (ltb-false longest_stream (length s.stream + length v) h) p)

      by-given : (x : Given) → P (print_on x v (counted s)).stream
      by-given nothing = p
      by-given (gives l) = p

      by_kind : (k : Kind) → P (does judge k v (counted s)).stream
      by_kind Received = by-limit (ltb longest_stream (length s.stream + length v)) refl _ _ refl refl
      by_kind Asked = p
      by_kind Printed = by-given s.given
      by_kind Bad = p

      by-done : (b : Bool) → P (cond b (does judge e.kind v (counted s)) s).stream
      by-done true = by_kind e.kind
      by-done false = p

  pub run-keeps : (l : List Event) (s : Press) → P s.stream → P (run judge trace s l).stream
  unfolding run
  run-keeps [] s p = p
  run-keeps (e ∷ l) s p = run-keeps l (turn judge trace s e) (turn-keeps s e p)

module _ (judge : List ℕ → Judged) (trace : List ℕ) (l : List Event) where
  -- within the limit, after any events
  pub stream-few : length (run judge trace start l).stream ≤ longest_stream
  stream-few =
      run-keeps judge trace (λ (s : List ℕ). length s ≤ longest_stream) (λ s e h p. omega (arith, h, length-append s (bytes_of trace e))) l start (omega arith)

  pub stream-below : Below 256 trace → Below 256 (run judge trace start l).stream
  stream-below b =
      run-keeps judge trace (Below 256)
      (λ s e h p. below-append 256 s (bytes_of trace e) p (below-take 256 (e.end - e.start) (drop e.start trace) (below-drop 256 e.start trace b))) l
      start tt
