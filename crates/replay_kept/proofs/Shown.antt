-- The first difference as `stood` shows it (order W11), from the promises of `replay` and `stood` alone: where the number of a replay is 0, every event before
-- the one named, and where none is named every event, is shown with the line given as its printed bytes (`shown-before`); the one named is not
-- (`shown-named`). Assumes nothing.
use Rattle.std.specs.Prelude.{◌≡◌, Bool, not, cond, ltb, length, take, drop, Ok, Err}
use Rattle.std.proofs.Math.Path.{refl, subst}
use Rattle.std.proofs.Common.{sym, ap, ap₂, ◌∙◌, arith, length-drop, take_at, drop_at}
use Rattle.std.proofs.Math.Bool.{true, false}
use mathlib.Core.List.{List, [], ◌∷◌, ◌++◌, append-nil, head-eq_of_cons-eq}
use Prim.Native.Nat.{ℕ, zero, suc, ◌+◌, ◌-◌, ◌≤◌, ◌<◌}
use borrow.Author.Tests.{le-ltb}
use Rattle.base_lists.specs.Over.{take-over}
use Rattle.line_layout.specs.declared.Layout.{Layout}
use Rattle.frame_spec.specs.Told.{Told, told}
use Rattle.read_spec.specs.Judged.{Judged}
use Rattle.read_call.specs.Answers.{longest_stream, sized_told}
use Rattle.replay_spec.specs.declared.Kind.{Kind}
use Rattle.replay_spec.specs.declared.Kind.TheVariants.{Received, Asked, Printed, Bad}
use Rattle.replay_spec.specs.declared.Event.{Event}
use Rattle.replay_spec.specs.declared.ReplayFault.TheVariants as answer-is
use Rattle.replay_spec.specs.declared.Replayed.{Replayed}
use Rattle.replay_spec.specs.declared.Stood.{Stood}
use Rattle.replay_spec.specs.Events.{events, bytes_of}
use Rattle.replay_spec.specs.Press.{Given, nothing, gives, Press, start, is_done, turn, run}
use Rattle.replay_spec.specs.Answers.{judging, replayed, replayed_to, zeros, none_stood, stood_for, stood_of, stood_at, stood_answer, replay_number}
use Rattle.replay_kept.specs.Promises.{Replays, Shows}
use Rattle.replay_kept.specs.Stepping.{done-before}
use Rattle.replay_kept.proofs.Differs.{Differs, First}
use Rattle.replay_kept.proofs.Differs.{AgreesAt, Agree, none-differs, first-differs, zero-sound, differs-exactly}

-- the printed bytes and the line that the call shows, both empty where nothing stood there
abbrev pub printed_shown : List ℕ → Stood → List ℕ
printed_shown trace q = take q.printed (drop q.place trace)

abbrev pub line_shown : Stood → List ℕ
line_shown q = take q.length q.line

-- the event was printed as the line given
abbrev pub Alike : List ℕ → Stood → Type 0
Alike trace q = printed_shown trace q ≡ line_shown q

module _ (judge : List ℕ → Judged) (trace : List ℕ) where
  -- an event that agrees is shown alike, one that differs is not
  shown-alike : (s : Press) (e : Event) (a : List Event) → AgreesAt judge trace s e → Alike trace (stood_of s (e ∷ a))
  shown-alike s e a h = by-done (is_done s.answer)
    where
      by-given : (g : Given) → e.kind ≡ Printed → s.given ≡ g → Alike trace (stood_for Printed e g (length s.stream))
      by-given nothing k q = refl
      by-given (gives l) k q =
          let same : gives l ≡ gives (bytes_of trace e) = sym q ∙ h k in
          let is : bytes_of trace e ≡ l = cc same in
          is ∙ sym (take-over l zeros (length l) refl)

      by_kind : (k : Kind) → e.kind ≡ k → Alike trace (stood_for k e s.given (length s.stream))
      by_kind Received k = refl
      by_kind Asked k = refl
      by_kind Printed k = by-given s.given k refl
      by_kind Bad k = refl

      by-done : (b : Bool) → Alike trace (cond b (stood_for e.kind e s.given (length s.stream)) (none_stood (Ok tt) (length s.stream)))
      by-done true = by_kind e.kind refl
      by-done false = refl

  shown-other : (s : Press) (e : Event) (a : List Event) → is_done s.answer ≡ true → Differs judge trace s e → Alike trace (stood_of s (e ∷ a)) → ⊥
  shown-other s e a f d q =
      let is : stood_of s (e ∷ a) ≡ stood_for Printed e (gives d.line) (length s.stream) = rw (f, d.prints, d.is-given) in
      d.other (subst (Alike trace) is q ∙ take-over d.line zeros (length d.line) refl)

  -- the event at a place of a trace whose first events agree
  agree-drop : (b c : List Event) (m : ℕ) (s : Press) → m < length b → Agree judge trace s b → (e : Event) (a : List Event) → drop m (b ++ c) ≡ e ∷ a
      → AgreesAt judge trace (run judge trace s (take m (b ++ c))) e
  unfolding run
  agree-drop [] c m s h g e a q = absurd (omega (arith, h))
  agree-drop (x ∷ b) c zero s h g e a q = subst (AgreesAt judge trace s) (head-eq_of_cons-eq q) g.0
  agree-drop (x ∷ b) c (suc m) s h g e a q = agree-drop b c m (turn judge trace s x) (omega (arith, h)) g.1 e a q

  -- an event before the one named, or any where none is
  pub first_alike : (l : List Event) (n m : ℕ) → First judge trace start l n → (0 < n → m + 1 < n)
      → Alike trace (stood_of (run judge trace start (take m l)) (drop m l))
  first_alike l n m f h = go (drop m l) refl f h
    where
      by_first : (e : Event) (a : List Event) → drop m l ≡ e ∷ a → (k : ℕ) → First judge trace start l k → (0 < k → m + 1 < k)
          → AgreesAt judge trace (run judge trace start (take m l)) e
      by_first e a q _ (none-differs g) h =
          let long : length (drop m l) ≡ length (e ∷ a) = ap length q in
          let z : l ++ [] ≡ l = append-nil l in
          subst (λ (x : List Event). AgreesAt judge trace (run judge trace start (take m x)) e) z
          (agree-drop l [] m start (omega (arith, length-drop m l, long)) g e a (ap (drop m) z ∙ q))
      by_first e a q _ (first-differs b x c parts g d) h =
          let few : m < length b = omega (arith, h (omega arith)) in
          subst (λ (y : List Event). AgreesAt judge trace (run judge trace start (take m y)) e) (sym parts)
          (agree-drop b (x ∷ c) m start few g e a (ap (drop m) (sym parts) ∙ q))

      go : (x : List Event) → drop m l ≡ x → First judge trace start l n → (0 < n → m + 1 < n) → Alike trace (stood_of (run judge trace start (take m l)) x)
      go [] q f h = refl
      go (e ∷ a) q f h = shown-alike (run judge trace start (take m l)) e a (by_first e a q n f h)

  -- the one named
  pub first-other : (l : List Event) (n m : ℕ) → First judge trace start l n → n ≡ m + 1 → is_done (run judge trace start l).answer ≡ true
      → Alike trace (stood_of (run judge trace start (take m l)) (drop m l)) → ⊥
  first-other l _ m (none-differs g) e f q = omega (arith, e)
  first-other l _ m (first-differs b x c parts g d) e f q =
      let so-many : length b ≡ m = omega (arith, e) in
      let front : take m l ≡ b = ap (take m) parts ∙ take_at b (x ∷ c) m so-many in
      let rest : drop m l ≡ x ∷ c = ap (drop m) parts ∙ drop_at b (x ∷ c) m so-many in
      let fine : is_done (run judge trace start b).answer ≡ true =
      done-before judge trace start b (x ∷ c) (subst (λ (y : List Event). is_done (run judge trace start y).answer ≡ true) parts f) in
      shown-other (run judge trace start b) x c fine d (subst (Alike trace) (ap₂ (λ (y z : List Event). stood_of (run judge trace start y) z) front rest) q)

module _ (key font : List ℕ) (ed : ℕ) (lay : Layout) (trace o : List ℕ) (r : Replayed) (o' : List ℕ) (p : Replays key font ed lay trace o r o')
    (zero_number : replay_number r.answer ≡ 0) where
  abbrev t : Told
  t = told key font lay

  abbrev first-is : First (judging t ed) trace start (events trace) r.event
  first-is = (differs-exactly key font ed lay trace o r o' p zero_number).0

  module _ (n : ℕ) (b : List ℕ) (q : Stood) (b' : List ℕ) (c : Shows key font ed lay trace n b q b') where
    at-event : (k : ℕ) → (0 < r.event → k < r.event) → Alike trace (stood_at k t ed trace)
    unfolding replayed_to
    at-event zero h = refl
    at-event (suc m) h = first_alike (judging t ed) trace (events trace) r.event m first-is (λ l. omega (arith, h l))

    -- every event before the one named, and every event where none is named, is shown as it was printed
    pub shown-before : (0 < r.event → n < r.event) → Alike trace q
    unfolding stood_answer
    shown-before h = rw c.0 (by_tests (sized_told t) (ltb (length b) longest_stream))
      where
        by_tests : (x y : Bool) → Alike trace (cond (not x) (none_stood (Err answer-is.Sizes) 0) (cond y (none_stood (Err answer-is.NoRoom) 0) (stood_at n t ed trace)))
        by_tests false y = refl
        by_tests true true = refl
        by_tests true false = at-event n h

    -- and the one named, given a buffer with room, is not
    pub shown-named : 0 < n → n ≡ r.event → longest_stream ≤ length b → Alike trace q → ⊥
    unfolding stood_answer replayed_to replayed
    shown-named some e room alike =
        let z = zero-sound key font ed lay trace o r o' p zero_number in
        let is : q ≡ stood_at n t ed trace = c.0 ∙ rw (z.sized, le-ltb (length b) longest_stream room) in
        let m : n ≡ suc (n - 1) = omega (arith, some) in
        first-other (judging t ed) trace (events trace) r.event (n - 1) first-is (omega (arith, e, some)) z.done
        (subst (λ (k : ℕ). Alike trace (stood_at k t ed trace)) m (subst (Alike trace) is alike))
