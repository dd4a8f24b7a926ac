-- What the reading anew at a place comes to: it closes somewhere exactly if a stretch starts at the place that reads as a line. From what `read`
-- promises and the laws of stretches alone. Assumes nothing.
use Rattle.std.specs.Prelude.{◌≡◌, Bool, not, cond, List, ℕ, ◌-◌, ◌≤◌, ◌<◌}
use Rattle.std.proofs.Math.Path.{refl, ap}
use Rattle.std.proofs.Common.{sym, ◌∙◌, arith}
use Rattle.std.proofs.Math.Bool.{true, false}
use Rattle.std.proofs.Math.Dec.{eqb, ltb}
use Rattle.std.proofs.Math.ListN.{length}
use borrow.Author.Tests.{eqb-true, eqb-false, eq-eqb, ne_eqb, ltb-false, le-ltb}
use Rattle.line_spec.specs.Lines.{longest}
use Rattle.read_stretch.specs.declared.Span.{Span}
use Rattle.read_stretch.specs.Stretches.{span, bytes_at, next_span}
use Rattle.read_stretch.specs.Meaning.{Stretch}
use Rattle.read_stretch.specs.Places.{Next, nothing, something}
use Rattle.read_stretch.proofs.Places.{next-cases, stretch-next}
use Rattle.frame_body.specs.Fields.{Own}
use Rattle.frame_spec.specs.Told.{Told}
use Rattle.read_spec.specs.Judged.{Judged, shape, stuffing, font, work, seal, unlisted, trade, layout, line}
use Rattle.read_spec.specs.Sizes.{Sizes}
use Rattle.read_call.specs.declared.Reading.{Reading}
use Rattle.read_call.specs.declared.Answer.TheVariants as answer-is
use Rattle.read_call.specs.Answers.{longest_stream, Found, call, stretch, found, reading_of, answer_of, LINE, outcome_of}
use Rattle.demand_reading.proofs.Resync.{sized}
use Rattle.demand_reading.proofs.GivenWritten.{told-sized, found-next}
use Rattle.demand_joined.specs.Bytes.{next-bytes}
use Rattle.index_spec.specs.Updating.{all_asked, judged_all}
use Rattle.desk_spec.specs.Desk.{anew, closing_of}

-- a stretch that starts at this place, closes at that one and reads as a line
pub record LineAt (t : Told) (editions : ℕ) (s : List ℕ) (place closing : ℕ) : Type 0 where
  pub stretch-is : Stretch s place closing
  pub own : Own
  pub text : List ℕ
  pub calls : ℕ
  pub judged : judged_all t editions (bytes_at s (span place closing)) ≡ line own text calls

-- only a line has a line's outcome
line-only : (j : Judged) → outcome_of (answer_of j) ≡ LINE → (own : Own) × (l : List ℕ) × (n : ℕ) × (j ≡ line own l n)
line-only shape e = absurd (omega (arith, e))
line-only stuffing e = absurd (omega (arith, e))
line-only font e = absurd (omega (arith, e))
line-only work e = absurd (omega (arith, e))
line-only (seal n) e = absurd (omega (arith, e))
line-only (unlisted n) e = absurd (omega (arith, e))
line-only (trade n) e = absurd (omega (arith, e))
line-only (layout n) e = absurd (omega (arith, e))
line-only (line own l n) e = (own, l, n, refl)

module _ (t : Told) (editions : ℕ) (z : Sizes t) (s : List ℕ) (h : length s ≤ longest_stream) where
  -- the reading from a place before one of the stream
  module _ (place : ℕ) (from : 0 < place) (to : place ≤ length s) where
    inside : place - 1 ≤ length s
    inside = omega arith

    -- at the end it is no line
    at-end : next_span s (place - 1) ≡ span (length s) (length s) → outcome_of (anew t editions s place).answer ≡ LINE → ⊥
    at-end e l =
        let q : found t (all_asked editions t.layout) s (place - 1) longest ≡ call (length s) answer-is.End =
        sized t (all_asked editions t.layout) s (place - 1) longest h (omega arith) inside (told-sized t z.key-is z.font-is)
        ∙ rw (e, eq-eqb (length s) (length s) refl) in
        omega (arith, l, ap (λ (x : Found). outcome_of (reading_of x).answer) q)

    -- a stretch is what it is judged to be
    at-stretch : (p : Span) → next_span s (place - 1) ≡ p → (p.first ≡ p.closing → ⊥)
        → anew t editions s place ≡ reading_of (stretch p (judged_all t editions (bytes_at s p)))
    at-stretch p e d =
        ap reading_of (found-next t (all_asked editions t.layout) z s (place - 1) longest h (omega arith) inside p e d
        ∙ ap (λ (b : List ℕ). stretch p (judged_all t editions b)) (next-bytes s (place - 1) p e))

    read-there : (p : Span) → next_span s (place - 1) ≡ p → Next s (place - 1) p → (anew t editions s place).first ≡ place
        → outcome_of (anew t editions s place).answer ≡ LINE → LineAt t editions s place (anew t editions s place).closing
    read-there p e (nothing q n) f l = absurd (at-end (e ∙ q) l)
    read-there p e (something x) f l =
        let a = at-stretch p e (λ u. omega (arith, u, x.stretch.some)) in
        let first : p.first ≡ place = sym (ap (λ (r : Reading). r.first) a) ∙ f in
        let closing : (anew t editions s place).closing ≡ p.closing = ap (λ (r : Reading). r.closing) a in
        let y = line-only (judged_all t editions (bytes_at s p)) (sym (ap (λ (r : Reading). outcome_of r.answer) a) ∙ l) in
        rw (closing, ← first)
        (record { stretch-is = x.stretch; own = y.0; text = y.1; calls = y.2; judged = y.3 })

  -- where it closes, a line stands
  pub closing-line : (place : ℕ) → (closing_of t editions s place ≡ 0 → ⊥) → LineAt t editions s place (closing_of t editions s place)
  unfolding closing_of
  closing-line place = go (eqb place 0) refl (ltb (length s) place) refl (eqb (anew t editions s place).first place) refl
      (eqb (outcome_of (anew t editions s place).answer) LINE) refl
    where
      go : (a : Bool) → eqb place 0 ≡ a → (b : Bool) → ltb (length s) place ≡ b → (c : Bool) → eqb (anew t editions s place).first place ≡ c
          → (d : Bool) → eqb (outcome_of (anew t editions s place).answer) LINE ≡ d
          → (cond a 0 (cond b 0 (cond (not c) 0 (cond (not d) 0 (anew t editions s place).closing))) ≡ 0 → ⊥)
          → LineAt t editions s place (cond a 0 (cond b 0 (cond (not c) 0 (cond (not d) 0 (anew t editions s place).closing))))
      go true p b q c r d u n = absurd (n refl)
      go false p true q c r d u n = absurd (n refl)
      go false p false q false r d u n = absurd (n refl)
      go false p false q true r false u n = absurd (n refl)
      go false p false q true r true u n =
          let some = eqb-false place 0 p in
          read-there place (omega (arith, some)) (ltb-false (length s) place q) (next_span s (place - 1)) refl (next-cases s (place - 1))
          (eqb-true (anew t editions s place).first place r) (eqb-true (outcome_of (anew t editions s place).answer) LINE u)

  -- and where a line stands, it closes there
  pub line-closing : (place closing : ℕ) → LineAt t editions s place closing → closing_of t editions s place ≡ closing
  unfolding closing_of
  line-closing place closing x =
      let y = x.stretch-is in
      let to : place ≤ length s = omega (arith, y.some, y.ends) in
      let a = at-stretch place y.behind to (span place closing) (stretch-next s place closing y) (λ u. omega (arith, u, y.some)) in
      let first : (anew t editions s place).first ≡ place = ap (λ (r : Reading). r.first) a in
      let given : outcome_of (anew t editions s place).answer ≡ LINE =
      ap (λ (r : Reading). outcome_of r.answer) a ∙ ap (λ (j : Judged). outcome_of (answer_of j)) x.judged in
      rw (
        ne_eqb place 0 (λ e. omega (arith, e, y.behind)),
        le-ltb (length s) place to,
        eq-eqb (anew t editions s place).first place first,
        eq-eqb (outcome_of (anew t editions s place).answer) LINE given,
      )
      (ap (λ (r : Reading). r.closing) a)
