-- `differs-exactly` (order W11), from the promise of `replay` alone: where the number is 0, the event named is the first print whose bytes are not the line
-- given, and event 0 means that there is none. Assumes nothing.
use Rattle.std.specs.Prelude.{◌≡◌, Bool, true, false, not, cond, ltb, length, Ok, Err, Result, ⊤}
use Rattle.std.proofs.Math.Path.{refl, sym, subst}
use Rattle.std.proofs.Common.{ap, ◌∙◌, arith, ne_eqb}
use mathlib.Core.List.{List, [], ◌∷◌, ◌++◌, head-eq_of_cons-eq, tail-eq_of_cons-eq}
use Prim.Native.Nat.{ℕ, ◌+◌}
use Rattle.base_lists.specs.Never.{never}
use Rattle.base_lists.specs.Buffers.{same}
use Rattle.base_lists.specs.Sameness.{same_refl, same-eq}
use Rattle.line_layout.specs.declared.Layout.{Layout}
use Rattle.frame_spec.specs.Told.{Told, told}
use Rattle.read_spec.specs.Judged.{Judged}
use Rattle.read_call.specs.Answers.{longest_stream, sized_told}
use Rattle.replay_spec.specs.declared.Kind.{Kind}
use Rattle.replay_spec.specs.declared.Kind.TheVariants.{Received, Asked, Printed, Bad}
use Rattle.replay_spec.specs.declared.Event.{Event}
use Rattle.replay_spec.specs.declared.ReplayFault.{ReplayFault}
use Rattle.replay_spec.specs.declared.ReplayFault.TheVariants as answer-is
use Rattle.replay_spec.specs.declared.Replayed.{Replayed}
use Rattle.replay_spec.specs.Events.{events, bytes_of}
use Rattle.replay_spec.specs.Press.{Given, nothing, gives, Press, press, start, counted, faulty, receive, ask, first_differing, print_on, does, is_done, step, turn, run}
use Rattle.replay_spec.specs.Runs.{step_counts, turn-done}
use Rattle.replay_spec.specs.Answers.{judging, replayed, replayed_as, answer_of, replay_answer, replay_number}
use Rattle.replay_kept.specs.Promises.{Replays}
use Rattle.replay_kept.specs.Stepping.{done-before}
use Rattle.replay_kept.specs.Differs.{number_behind}

module _ (judge : List ℕ → Judged) (trace : List ℕ) where
  -- where the event is a print, its bytes are the line given
  abbrev pub AgreesAt : Press → Event → Type 0
  AgreesAt s e = e.kind ≡ Printed → s.given ≡ gives (bytes_of trace e)

  -- the event is a print, a line is given, and its bytes are others
  pub record Differs (s : Press) (e : Event) : Type 0 where
    pub prints : e.kind ≡ Printed
    pub line : List ℕ
    pub is-given : s.given ≡ gives line
    pub other : bytes_of trace e ≡ line → ⊥

  -- every print among events that follow one another
  abbrev pub Agree : Press → List Event → Type 0
  Agree s [] = Unit {0}
  Agree s (e ∷ l) = AgreesAt s e × Agree (turn judge trace s e) l

  -- the first event that differs, by its number; 0 where none does
  pub data First (s : Press) (l : List Event) : ℕ → Type 0 where
    none-differs : Agree s l → First s l 0
    first-differs : (b : List Event) (e : Event) (a : List Event) → l ≡ b ++ (e ∷ a) → Agree s b → Differs (run judge trace s b) e
        → First s l (number_behind s b)

  -- an event where nothing differed before it
  data Compared (s : Press) (e : Event) (p : Press) : Type 0 where
    agrees : AgreesAt s e → p.differs ≡ 0 → Compared s e p
    differs : Differs s e → p.differs ≡ s.event + 1 → Compared s e p
    fails : is_done p.answer ≡ false → Compared s e p

  compared : (s : Press) (e : Event) → s.differs ≡ 0 → Compared s e (step judge trace s e)
  unfolding step receive ask first_differing
  compared s e z = by_kind e.kind refl
    where
      v : List ℕ
      v = bytes_of trace e

      by-limit : (b : Bool) → e.kind ≡ Received
          → Compared s e (cond b (faulty (Err answer-is.TooLong) (counted s)) (press (s.event + 1) (s.stream ++ v) s.place s.given s.differs s.answer))
      by-limit true k = fails refl
      by-limit false k = agrees (λ q. absurd (let y : ◌≡◌ {A = ℕ} 0 1 = cc (sym k ∙ q) in omega arith)) z

      by-same : (l : List ℕ) → s.given ≡ gives l → e.kind ≡ Printed → (b : Bool) → same v l ≡ b → Compared s e (print_on (gives l) v (counted s))
      by-same l g k true q = agrees (λ _. g ∙ ap gives (sym (same-eq v l q))) (rw (z, q))
      by-same l g k false q =
          differs (record { prints = k; line = l; is-given = g; other = λ i. never (sym q ∙ sym (ap (same v) i) ∙ same_refl v) }) (rw (z, q))

      by-given : (g : Given) → s.given ≡ g → e.kind ≡ Printed → Compared s e (print_on g v (counted s))
      by-given nothing g k = fails refl
      by-given (gives l) g k = by-same l g k (same v l) refl

      by_kind : (k : Kind) → e.kind ≡ k → Compared s e (does judge k v (counted s))
      by_kind Received k = by-limit (ltb longest_stream (length s.stream + length v)) k
      by_kind Asked k = agrees (λ q. absurd (let y : ◌≡◌ {A = ℕ} 0 1 = cc (sym k ∙ q) in omega arith)) z
      by_kind Printed k = by-given s.given refl k
      by_kind Bad k = fails refl

  -- what differs first stays
  turn-stays : (s : Press) (e : Event) → (s.differs ≡ 0 → ⊥) → (turn judge trace s e).differs ≡ s.differs
  unfolding turn step receive ask first_differing
  turn-stays s e n = by-done (is_done s.answer)
    where
      v : List ℕ
      v = bytes_of trace e

      by-limit : (b : Bool) (x y : Press) → x.differs ≡ s.differs → y.differs ≡ s.differs → (cond b x y).differs ≡ s.differs
      by-limit true x y p q = p
      by-limit false x y p q = q

      by-given : (g : Given) → (print_on g v (counted s)).differs ≡ s.differs
      by-given nothing = refl
      by-given (gives l) = rw (ne_eqb s.differs 0 n)

      by_kind : (k : Kind) → (does judge k v (counted s)).differs ≡ s.differs
      by_kind Received = by-limit (ltb longest_stream (length s.stream + length v)) _ _ refl refl
      by_kind Asked = refl
      by_kind Printed = by-given s.given
      by_kind Bad = refl

      by-done : (b : Bool) → (cond b (does judge e.kind v (counted s)) s).differs ≡ s.differs
      by-done true = by_kind e.kind
      by-done false = refl

  run-differs : (l : List Event) (s : Press) → (s.differs ≡ 0 → ⊥) → (run judge trace s l).differs ≡ s.differs
  unfolding run
  run-differs [] s n = refl
  run-differs (e ∷ l) s n =
      let t = turn-stays s e n in run-differs l (turn judge trace s e) (λ q. n (sym t ∙ q)) ∙ t

  -- one event more before them, which agrees
  first_more : (s : Press) (e : Event) (l : List Event) (n : ℕ) → AgreesAt s e → (turn judge trace s e).event ≡ s.event + 1
      → First (turn judge trace s e) l n → First s (e ∷ l) n
  unfolding run
  first_more s e l _ h c (none-differs g) = none-differs (h, g)
  first_more s e l _ h c (first-differs b x a parts g y) =
      let n : number_behind s (e ∷ b) ≡ number_behind (turn judge trace s e) b = omega (arith, c) in
      subst (First s (e ∷ l)) n (first-differs (e ∷ b) x a (ap (λ (m : List Event). e ∷ m) parts) (h, g) y)

  pub run-first : (l : List Event) (s : Press) → is_done s.answer ≡ true → s.differs ≡ 0 → is_done (run judge trace s l).answer ≡ true
      → First s l (run judge trace s l).differs
  unfolding run
  run-first [] s d z f = rw z (none-differs tt)
  run-first (e ∷ l) s d z f = go (subst (Compared s e) (sym is) (compared s e z)) (λ q. run-first l t fine q f)
    where
      t : Press
      t = turn judge trace s e

      is : turn judge trace s e ≡ step judge trace s e
      is = turn-done judge trace s e d

      counts : (turn judge trace s e).event ≡ s.event + 1
      counts = ap (λ (p : Press). p.event) is ∙ step_counts judge trace s e

      fine : is_done t.answer ≡ true
      fine = done-before judge trace t [] l f

      go : Compared s e t → (t.differs ≡ 0 → First t l (run judge trace t l).differs) → First s (e ∷ l) (run judge trace t l).differs
      go (agrees h q) more = first_more s e l (run judge trace t l).differs h counts (more q)
      go (differs x q) more =
          let n : number_behind s [] ≡ (run judge trace t l).differs =
          omega (arith, run-differs l t (λ y. omega (arith, y, q)), q) in
          subst (First s (e ∷ l)) n (first-differs [] e l refl tt x)
      go (fails q) more = never (sym q ∙ fine)

  -- no print both agrees and differs
  not-both : (s : Press) (e : Event) → AgreesAt s e → Differs s e → ⊥
  not-both s e h d =
      let q : gives d.line ≡ gives (bytes_of trace e) = sym d.is-given ∙ h d.prints in
      let l : bytes_of trace e ≡ d.line = cc q in
      d.other l

  -- events that agree agree at each of them
  pub agree_at : (b : List Event) (e : Event) (a : List Event) (s : Press) → Agree s (b ++ (e ∷ a)) → AgreesAt (run judge trace s b) e
  unfolding run
  agree_at [] e a s g = g.0
  agree_at (x ∷ b) e a s g = agree_at b e a (turn judge trace s x) g.1

  one_place : (b : List Event) (e : Event) (a b' : List Event) (e' : Event) (a' : List Event) (s : Press) → b ++ (e ∷ a) ≡ b' ++ (e' ∷ a')
      → Agree s b → Differs (run judge trace s b) e → Agree s b' → Differs (run judge trace s b') e' → length b ≡ length b'
  unfolding run
  one_place [] e a [] e' a' s q g d g' d' = refl
  one_place [] e a (x ∷ b') e' a' s q g d g' d' =
      absurd (not-both s x g'.0 (subst (Differs s) (head-eq_of_cons-eq q) d))
  one_place (x ∷ b) e a [] e' a' s q g d g' d' =
      absurd (not-both s x g.0 (subst (Differs s) (sym (head-eq_of_cons-eq q)) d'))
  one_place (x ∷ b) e a (x' ∷ b') e' a' s q g d g' d' =
      let h : x' ≡ x = sym (head-eq_of_cons-eq q) in
      let n = one_place b e a b' e' a' (turn judge trace s x) (tail-eq_of_cons-eq q) g.1 d
      (subst (λ (y : Event). Agree (turn judge trace s y) b') h g'.1) (subst (λ (y : Event). Differs (run judge trace (turn judge trace s y) b') e') h d') in
      omega (arith, n)

  -- there is one first event that differs, or none
  pub first-single : (s : Press) (l : List Event) (m n : ℕ) → First s l m → First s l n → m ≡ n
  first-single s l _ _ (none-differs g) (none-differs g') = refl
  first-single s l _ _ (none-differs g) (first-differs b e a parts g' d) =
      absurd (not-both (run judge trace s b) e (agree_at b e a s (subst (Agree s) parts g)) d)
  first-single s l _ _ (first-differs b e a parts g d) (none-differs g') =
      absurd (not-both (run judge trace s b) e (agree_at b e a s (subst (Agree s) parts g')) d)
  first-single s l _ _ (first-differs b e a parts g d) (first-differs b' e' a' parts' g' d') =
      let n = one_place b e a b' e' a' s (sym parts ∙ parts') g d g' d' in
      omega (arith, n)

-- number 0 is no fault
done-zero : (a : Result ⊤ ReplayFault) → replay_number a ≡ 0 → is_done a ≡ true
done-zero (Ok tt) e = refl
done-zero (Err answer-is.Sizes) e = absurd (omega (arith, e))
done-zero (Err answer-is.NoRoom) e = absurd (omega (arith, e))
done-zero (Err answer-is.Field) e = absurd (omega (arith, e))
done-zero (Err answer-is.NoLine) e = absurd (omega (arith, e))
done-zero (Err answer-is.TooLong) e = absurd (omega (arith, e))

module _ (key font : List ℕ) (ed : ℕ) (lay : Layout) (trace o : List ℕ) (r : Replayed) (o' : List ℕ) where
  abbrev t : Told
  t = told key font lay

  -- what number 0 says of a replay: the sizes are right, no event is at fault, and the event is the first that differs
  pub record Sound : Type 0 where
    pub sized : sized_told t ≡ true
    pub done : is_done (replayed t ed trace).answer ≡ true
    pub event-is : r.event ≡ (replayed t ed trace).differs

  by_tests : (x y : Bool) → sized_told t ≡ x → r ≡ cond (not x) (replayed_as (Err answer-is.Sizes) 0 0)
      (cond y (replayed_as (Err answer-is.NoRoom) 0 0) (answer_of (replayed t ed trace)))
      → replay_number r.answer ≡ 0 → Sound
  by_tests false y e a n = absurd (omega (arith, sym (ap (λ (q : Replayed). replay_number q.answer) a) ∙ n))
  by_tests true true e a n = absurd (omega (arith, sym (ap (λ (q : Replayed). replay_number q.answer) a) ∙ n))
  by_tests true false e a n =
      let d : is_done (replayed t ed trace).answer ≡ true =
      done-zero (replayed t ed trace).answer (sym (ap (λ (q : Replayed). replay_number q.answer) a) ∙ n) in
      record { sized = e; done = d; event-is = ap (λ (q : Replayed). q.event) a ∙ rw d }

  module _ (p : Replays key font ed lay trace o r o') (zero_number : replay_number r.answer ≡ 0) where
    pub zero-sound : Sound
    unfolding replay_answer
    zero-sound = by_tests (sized_told t) (ltb (length o) longest_stream) refl p.0 zero_number

    pub differs-exactly : First (judging t ed) trace start (events trace) r.event
        × ((n : ℕ) → First (judging t ed) trace start (events trace) n → r.event ≡ n)
    unfolding replayed
    differs-exactly =
        let z = zero-sound in
        let f : First (judging t ed) trace start (events trace) r.event =
        subst (First (judging t ed) trace start (events trace)) (sym z.event-is) (run-first (judging t ed) trace (events trace) start refl refl z.done) in
        (f, λ n g. first-single (judging t ed) trace start (events trace) r.event n f g)
