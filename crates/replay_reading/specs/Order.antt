-- The requests of a run give the lines of the stream in order: those given so far are the first lines of all that was received so far, and the next
-- request gives the next one. Over any way to judge a stretch's bytes. Assumes nothing.
use Rattle.std.specs.Prelude.{◌≡◌, Bool, true, false, cond, ltb, length, take}
use Rattle.std.proofs.Math.Path.{refl, sym, ap, ap₂}
use Rattle.std.proofs.Common.{subst, ◌∙◌, arith}
use mathlib.Core.List.{List, [], ◌∷◌, ◌++◌, append_assoc, append-nil, head-eq_of_cons-eq, tail-eq_of_cons-eq}
use Prim.Native.Nat.{ℕ, zero, suc, ◌+◌}
use Rattle.std.proofs.Math.Seq.{take-append_seam}
use Rattle.read_stretch.specs.Stretches.{next_span, next_stretch}
use Rattle.read_spec.specs.Judged.{Judged}
use Rattle.read_readings.specs.Readings.{Reading, reading, ends, readings, readings-step}
use Rattle.read_readings.specs.Growing.{last_closing}
use Rattle.read_readings.proofs.Growing.{grown}
use Rattle.read_call.specs.Answers.{longest_stream}
use Rattle.replay_spec.specs.declared.Kind.{Kind}
use Rattle.replay_spec.specs.declared.Kind.TheVariants.{Received, Asked, Printed, Bad}
use Rattle.replay_spec.specs.declared.Event.{Event}
use Rattle.replay_spec.specs.Events.{bytes_of}
use Rattle.replay_spec.specs.Press.{Given, nothing, gives, given_by, Met, or_else, first_line, request, Press, start}
use Rattle.replay_spec.specs.Press.{counted, receive, ask, print_on, does, is_done, step, turn, run}

-- a line more, or none
abbrev pub ahead : Given → List (List ℕ) → List (List ℕ)
ahead nothing l = l
ahead (gives x) l = x ∷ l

-- the lines among readings, in order
abbrev pub lines_in : List Reading → List (List ℕ)
lines_in [] = []
lines_in (r ∷ rs) = ahead (given_by r.judged) (lines_in rs)

-- line number n of some, counted from 0; nothing where there are no more than n
abbrev pub line_at : ℕ → List (List ℕ) → Given
line_at zero [] = nothing
line_at zero (x ∷ l) = gives x
line_at (suc n) [] = nothing
line_at (suc n) (x ∷ l) = line_at n l

ahead-append : (g : Given) (a b : List (List ℕ)) → ahead g (a ++ b) ≡ ahead g a ++ b
ahead-append nothing a b = refl
ahead-append (gives x) a b = refl

pub lines-append : (a b : List Reading) → lines_in (a ++ b) ≡ lines_in a ++ lines_in b
lines-append [] b = refl
lines-append (r ∷ a) b = ap (ahead (given_by r.judged)) (lines-append a b) ∙ ahead-append (given_by r.judged) (lines_in a) (lines_in b)

pub line-behind : (g l : List (List ℕ)) → line_at (length g) (g ++ l) ≡ line_at 0 l
line-behind [] l = refl
line-behind (x ∷ g) l = line-behind g l

last-append : (d : ℕ) (a b : List Reading) → last_closing d (a ++ b) ≡ last_closing (last_closing d a) b
last-append d [] b = refl
last-append d (r ∷ a) b = last-append r.place.closing a b

-- the first line among readings is their line number 0
first-given : (rs : List Reading) (at : ℕ) → (first_line at rs).given ≡ line_at 0 (lines_in rs)
first-given [] at = refl
first-given (r ∷ rs) at = go (given_by r.judged) (first-given rs r.place.closing)
  where
    go : (g : Given) → (first_line r.place.closing rs).given ≡ line_at 0 (lines_in rs)
        → (or_else g r.place.closing (first_line r.place.closing rs)).given ≡ line_at 0 (ahead g (lines_in rs))
    go nothing e = e
    go (gives x) e = refl

-- readings up to the first line among them, or all
record Split (at : ℕ) (rs : List Reading) (m : Met) : Type 0 where
  passed : List Reading
  left : List Reading
  parts : rs ≡ passed ++ left
  lines : lines_in passed ≡ ahead m.given []
  closing : last_closing at passed ≡ m.place

first-split : (rs : List Reading) (at : ℕ) → Split at rs (first_line at rs)
first-split [] at = record { passed = []; left = []; parts = refl; lines = refl; closing = refl }
first-split (r ∷ rs) at = go (given_by r.judged) refl (first-split rs r.place.closing)
  where
    go : (g : Given) → given_by r.judged ≡ g → Split r.place.closing rs (first_line r.place.closing rs)
        → Split at (r ∷ rs) (or_else g r.place.closing (first_line r.place.closing rs))
    go nothing e s = record {
      passed = r ∷ s.passed;
      left = s.left;
      parts = ap (λ (l : List Reading). r ∷ l) s.parts;
      lines = ap (λ (g : Given). ahead g (lines_in s.passed)) e ∙ s.lines;
      closing = s.closing;
    }
    go (gives x) e s = record {
      passed = r ∷ [];
      left = rs;
      parts = refl;
      lines = ap (λ (g : Given). ahead g []) e;
      closing = refl;
    }

module _ (judge : List ℕ → Judged) (s : List ℕ) where
  -- behind a reading are those from its closing mark
  tail-read : (at : ℕ) (r : Reading) (l : List Reading) → readings judge s at ≡ r ∷ l → l ≡ readings judge s r.place.closing
  tail-read at r l e = go (ends (next_span s at)) (sym (readings-step judge s at) ∙ e)
    where
      go : (b : Bool) → cond b [] (reading (next_span s at) (judge (next_stretch s at)) ∷ readings judge s (next_span s at).closing) ≡ r ∷ l
          → l ≡ readings judge s r.place.closing
      go true q = absurd (let z : ◌≡◌ {A = ℕ} 0 (suc (length l)) = ap length q in omega arith)
      go false q =
          sym (tail-eq_of_cons-eq q) ∙ ap (λ (x : Reading). readings judge s x.place.closing) (head-eq_of_cons-eq q)

  suffix : (p left : List Reading) (at : ℕ) → readings judge s at ≡ p ++ left → left ≡ readings judge s (last_closing at p)
  suffix [] left at e = sym e
  suffix (r ∷ p) left at e = suffix p left r.place.closing (sym (tail-read at r (p ++ left) e))

module _ (judge : List ℕ → Judged) (trace : List ℕ) where
  -- what an event gives: only a request gives a line
  abbrev pub gave_for : Kind → Press → Given
  gave_for Received s = nothing
  gave_for Asked s = (request judge s.stream s.place).given
  gave_for Printed s = nothing
  gave_for Bad s = nothing

  unfoldable pub gave_by : Press → Event → Given
  gave_by s e = cond (is_done s.answer) (gave_for e.kind s) nothing

  -- the lines that the requests among some events give, one after the other
  unfoldable pub gave : Press → List Event → List (List ℕ)
  gave s [] = []
  gave s (e ∷ l) = ahead (gave_by s e) [] ++ gave (turn judge trace s e) l

  -- the lines g were given: they are those of the readings before the place reached
  record Follows (stream : List ℕ) (place : ℕ) (g : List (List ℕ)) : Type 0 where
    before : List Reading
    parts : readings judge stream 0 ≡ before ++ readings judge stream place
    closing : last_closing 0 before ≡ place
    lines : lines_in before ≡ g

  follows-more : {s : List ℕ} {at : ℕ} {g : List (List ℕ)} (v : List ℕ) → Follows s at g → Follows (s ++ v) at g
  follows-more {s} {at} {g} v f =
      let R = readings judge s at in
      let u = s ++ v in
      let last : last_closing 0 (readings judge s 0) ≡ last_closing at R =
      ap (last_closing 0) f.parts ∙ last-append 0 f.before R ∙ ap (λ (d : ℕ). last_closing d R) f.closing in
      record {
        before = f.before;
        parts = (grown judge s v 0).from-closing
            ∙ ap₂ (λ (l : List Reading) (d : ℕ). l ++ readings judge u d) f.parts last
            ∙ append_assoc f.before R (readings judge u (last_closing at R))
            ∙ ap (λ (l : List Reading). f.before ++ l) (sym (grown judge s v at).from-closing);
        closing = f.closing;
        lines = f.lines;
      }

  follows-ask : {s : List ℕ} {at : ℕ} {g : List (List ℕ)} → Follows s at g
      → Follows s (request judge s at).place (g ++ ahead (request judge s at).given [])
  unfolding request
  follows-ask {s} {at} {g} f =
      let R = readings judge s at in
      let p = first-split R at in
      let tail : p.left ≡ readings judge s (first_line at R).place =
      suffix judge s p.passed p.left at p.parts ∙ ap (readings judge s) p.closing in
      record {
        before = f.before ++ p.passed;
        parts = f.parts ∙ ap (λ (l : List Reading). f.before ++ l) (p.parts ∙ ap (λ (l : List Reading). p.passed ++ l) tail)
            ∙ sym (append_assoc f.before p.passed (readings judge s (first_line at R).place));
        closing = last-append 0 f.before p.passed ∙ ap (λ (d : ℕ). last_closing d p.passed) f.closing ∙ p.closing;
        lines = lines-append f.before p.passed ∙ ap₂ ◌++◌ f.lines p.lines;
      }

  same_lines : {s : List ℕ} {at : ℕ} {g : List (List ℕ)} → Follows s at g → Follows s at (g ++ [])
  same_lines {s} {at} {g} f = subst (Follows s at) (sym (append-nil g)) f

  follows-turn : (s : Press) (e : Event) (g : List (List ℕ)) → Follows s.stream s.place g
      → Follows (turn judge trace s e).stream (turn judge trace s e).place (g ++ ahead (gave_by s e) [])
  unfolding turn step receive ask gave_by
  follows-turn s e g f = by-done (is_done s.answer)
    where
      v : List ℕ
      v = bytes_of trace e

      by-limit : (b : Bool) (x y : Press) → x.stream ≡ s.stream → x.place ≡ s.place → y.stream ≡ s.stream ++ v → y.place ≡ s.place
          → Follows (cond b x y).stream (cond b x y).place (g ++ [])
      by-limit true x y p q p' q' = rw (p, q) (same_lines f)
      by-limit false x y p q p' q' = rw (p', q') (same_lines (follows-more v f))

      by-given : (x : Given) → Follows (print_on x v (counted s)).stream (print_on x v (counted s)).place (g ++ [])
      by-given nothing = same_lines f
      by-given (gives l) = same_lines f

      by_kind : (k : Kind) → Follows (does judge k v (counted s)).stream (does judge k v (counted s)).place (g ++ ahead (gave_for k s) [])
      by_kind Received = by-limit (ltb longest_stream (length s.stream + length v)) _ _ refl refl refl refl
      by_kind Asked = follows-ask f
      by_kind Printed = by-given s.given
      by_kind Bad = same_lines f

      by-done : (b : Bool) → Follows (cond b (does judge e.kind v (counted s)) s).stream (cond b (does judge e.kind v (counted s)) s).place
          (g ++ ahead (cond b (gave_for e.kind s) nothing) [])
      by-done true = by_kind e.kind
      by-done false = same_lines f

  follows-run : (l : List Event) (s : Press) (g : List (List ℕ)) → Follows s.stream s.place g
      → Follows (run judge trace s l).stream (run judge trace s l).place (g ++ gave s l)
  unfolding run gave
  follows-run [] s g f = same_lines f
  follows-run (e ∷ l) s g f =
      rw (← append_assoc g (ahead (gave_by s e) []) (gave (turn judge trace s e) l))
      (follows-run l (turn judge trace s e) (g ++ ahead (gave_by s e) []) (follows-turn s e g f))

  -- after any events: the lines given so far, and what a request then gives
  pub record InOrder (l : List Event) : Type 0 where
    pub so_far : take (length (gave start l)) (lines_in (readings judge (run judge trace start l).stream 0)) ≡ gave start l
    pub next : (request judge (run judge trace start l).stream (run judge trace start l).place).given
        ≡ line_at (length (gave start l)) (lines_in (readings judge (run judge trace start l).stream 0))

  pub in_order : (l : List Event) → InOrder l
  unfolding request
  in_order l =
      let s = run judge trace start l in
      let f : Follows s.stream s.place (gave start l) =
      follows-run l start [] (record { before = []; parts = refl; closing = refl; lines = refl }) in
      let g = gave start l in
      let R = readings judge s.stream s.place in
      let whole : lines_in (readings judge s.stream 0) ≡ g ++ lines_in R =
      ap lines_in f.parts ∙ lines-append f.before R ∙ ap (λ (x : List (List ℕ)). x ++ lines_in R) f.lines in
      record {
        so_far = ap (take (length g)) whole ∙ take-append_seam g (lines_in R);
        next = first-given R s.place ∙ sym (ap (line_at (length g)) whole ∙ line-behind g (lines_in R));
      }
