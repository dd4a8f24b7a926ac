-- The buyer's demand 3, first half, from the promises alone: however many read calls are made from a mark on, each sees the same in two
-- streams that are equal from there on, with places counted from the mark. Assumes nothing.
use Rattle.std.specs.Prelude.{◌≡◌, refl, Bool, true, false, cond, List, [], ◌∷◌, ℕ, ◌-◌, ◌≤◌, length, drop}
use Rattle.std.proofs.Common.{sym, ap, ap₂, ◌∙◌, arith, length-drop}
use Rattle.std.proofs.Math.Seq.{drop-length}
use borrow.Author.Tests.{le-ltb}
use Rattle.base_lists.specs.Over.{take-over}
use Rattle.line_spec.specs.Lines.{longest}
use Rattle.read_stretch.specs.declared.Span.{Span}
use Rattle.read_stretch.specs.Stretches.{next_span, next_stretch}
use Rattle.read_stretch.proofs.Places.{next-within, next-after}
use Rattle.read_stretch.specs.Shift.{moved}
use Rattle.read_stretch.proofs.Shift.{next-moved, next-shift}
use Rattle.frame_spec.specs.Told.{Told, told}
use Rattle.read_call.specs.declared.Asked.{Asked}
use Rattle.read_call.specs.declared.Answer.TheVariants as answer-is
use Rattle.read_spec.specs.Judged.{label_of, Judged, shape, stuffing, font, work, seal, unlisted, trade, layout, line, number_in, line_in, label_in, calls_in}
use Rattle.read_readings.specs.Readings.{ends, eqb-moved}
use Rattle.read_readings.specs.Resync.{Mark}
use Rattle.read_call.specs.Answers.{longest_stream, sized_told, Found, call, stretch, found, reading_at, reading_of, buffer, judged_within, verdict_of, line_over}
use Rattle.demand_reading.specs.Promises.{Seen, seen_from, Run, none, next}
use Rattle.demand_reading.specs.Resync.{Abreast}

-- what is seen of a stretch does not depend on what the buffer held
pub seen_at : (i : ℕ) (p : Span) (j : Judged) (l : List ℕ) → seen_from i (reading_at p (verdict_of j)) (line_over j l) ≡ record {
  number = number_in j;
  ended = false;
  first = p.first - i;
  closing = p.closing - i;
  calls = calls_in j;
  edition = (label_in j).edition;
  job = (label_in j).job;
  line = line_in j;
}
seen_at i p shape l = refl
seen_at i p stuffing l = refl
seen_at i p font l = refl
seen_at i p work l = refl
seen_at i p (seal n) l = refl
seen_at i p (unlisted n) l = refl
seen_at i p (trade n) l = refl
seen_at i p (layout n) l = refl
seen_at i p (line own w n) l =
    let b = label_of own in
    ap (λ (x : List ℕ). record {
      number = 0;
      ended = false;
      first = p.first - i;
      closing = p.closing - i;
      calls = n;
      edition = b.edition;
      job = b.job;
      line = x;
    })
    (take-over w l (length w) refl)

-- places in order
on : (a f c : ℕ) → a ≤ f → f ≤ c → a ≤ c
on a f c h g = omega arith

-- as far behind a as behind b, and these as far behind i as behind j
farther : (i a p j b q : ℕ) → i ≤ a → a ≤ p → j ≤ b → b ≤ q → a - i ≡ b - j → p - a ≡ q - b → p - i ≡ q - j
farther i a p j b q h g h' g' e f = omega arith

-- what a call finds within the limits and with room
module _ (t : Told) (asked : Asked) (s : List ℕ) (from room : ℕ) (h : length s ≤ longest_stream) (g : longest ≤ room) (f : from ≤ length s) where
  unsized : sized_told t ≡ false → found t asked s from room ≡ call from answer-is.Sizes
  unfolding found
  unsized e = rw e

  pub sized : sized_told t ≡ true → found t asked s from room
      ≡ cond (ends (next_span s from)) (call (length s) answer-is.End) (stretch (next_span s from) (judged_within t asked (next_stretch s from)))
  unfolding found
  sized e = rw (e, le-ltb longest_stream (length s) h, le-ltb room longest g, le-ltb (length s) from f)

-- one call in each stream sees the same, and ends at places that are abreast again
module _ (t : Told) (asked : Asked) (x : List ℕ) (i a : ℕ) (y : List ℕ) (j b : ℕ) (hx : length x ≤ longest_stream) (hy : length y ≤ longest_stream)
    (w : Abreast x i a y j b) (l m : List ℕ) (gx : longest ≤ length l) (gy : longest ≤ length m) where
  abbrev Goal : Found → Found → Type 0
  Goal f e =
      (seen_from i (reading_of f) (buffer f l) ≡ seen_from j (reading_of e) (buffer e m))
      × Abreast x i (reading_of f).closing y j (reading_of e).closing

  at-refusal : Goal (call a answer-is.Sizes) (call b answer-is.Sizes)
  at-refusal = (ap (λ (k : ℕ). record { number = 2; ended = false; first = k; closing = k; calls = 0; edition = 0; job = 0; line = [] }) w.same, w)

  at-end : Goal (call (length x) answer-is.End) (call (length y) answer-is.End)
  at-end =
      let r : length (drop a x) ≡ length (drop b y) = ap length w.alike.rest in
      let k : length x - i ≡ length y - j =
      omega (arith, length-drop a x, length-drop b y, w.same, w.after-i, w.after-j, w.alike.in-x, w.alike.in-y) in (
        ap (λ (n : ℕ). record { number = 0; ended = true; first = n; closing = n; calls = 0; edition = 0; job = 0; line = [] }) k,
        record {
          alike = record { in-x = omega arith; in-y = omega arith; rest = drop-length x ∙ sym (drop-length y) };
          after-i = omega (arith, w.after-i, w.alike.in-x);
          after-j = omega (arith, w.after-j, w.alike.in-y);
          same = k;
        },
      )

  at-stretch : Goal (stretch (next_span x a) (judged_within t asked (next_stretch x a))) (stretch (next_span y b) (judged_within t asked (next_stretch y b)))
  at-stretch =
      let n = next-shift w.alike in
      let ax : a ≤ (next_span x a).first = next-after x a w.alike.in-x in
      let by : b ≤ (next_span y b).first = next-after y b w.alike.in-y in
      let f-is = farther i a (next_span x a).first j b (next_span y b).first w.after-i ax w.after-j by w.same n.first in
      let cx = on a (next_span x a).first (next_span x a).closing ax (next-within x a).order in
      let cy = on b (next_span y b).first (next_span y b).closing by (next-within y b).order in
      let c-is = farther i a (next_span x a).closing j b (next_span y b).closing w.after-i cx w.after-j cy w.same n.closing in
      let jx = judged_within t asked (next_stretch x a) in
      let jy = judged_within t asked (next_stretch y b) in (
        seen_at i (next_span x a) jx l ∙ rw (f-is, c-is, n.bytes) refl ∙ sym (seen_at j (next_span y b) jy m),
        record {
          alike = n.on;
          after-i = on i a (next_span x a).closing w.after-i cx;
          after-j = on j b (next_span y b).closing w.after-j cy;
          same = c-is;
        },
      )

  -- the next stretches are found in both or in neither
  ends-alike : ends (next_span x a) ≡ ends (next_span y b)
  ends-alike =
      let p = next_span (drop a x) 0 in
      let ex : next_span x a ≡ moved a p = next-moved x a w.alike.in-x in
      let ey : next_span y b ≡ moved b p =
      next-moved y b w.alike.in-y ∙ ap (λ (s : List ℕ). moved b (next_span s 0)) (sym w.alike.rest) in
      ap ends ex ∙ eqb-moved p.first p.closing a ∙ sym (eqb-moved p.first p.closing b) ∙ ap ends (sym ey)

  by_end : (q : Bool) → Goal (cond q (call (length x) answer-is.End) (stretch (next_span x a) (judged_within t asked (next_stretch x a))))
      (cond q (call (length y) answer-is.End) (stretch (next_span y b) (judged_within t asked (next_stretch y b))))
  by_end true = at-end
  by_end false = at-stretch

  step : Goal (found t asked x a (length l)) (found t asked y b (length m))
  step = by_size (sized_told t) refl
    where
      by_size : (q : Bool) → sized_told t ≡ q → Goal (found t asked x a (length l)) (found t asked y b (length m))
      by_size true e =
          rw (sized t asked x a (length l) hx gx w.alike.in-x e, sized t asked y b (length m) hy gy w.alike.in-y e, ← ends-alike)
          (by_end (ends (next_span x a)))
      by_size false e =
          rw (unsized t asked x a (length l) hx gx w.alike.in-x e, unsized t asked y b (length m) hy gy w.alike.in-y e) at-refusal

-- two marks with the same bytes behind them
pub at-marks : {x y : List ℕ} {i j : ℕ} → Mark x i → Mark y j → drop i x ≡ drop j y → Abreast x i i y j j
at-marks m n e = record {
  alike = record { in-x = omega (arith, m.inside); in-y = omega (arith, n.inside); rest = e };
  after-i = omega arith;
  after-j = omega arith;
  same = omega arith;
}

module _ (key font : List ℕ) (asked : Asked) (x y : List ℕ) (i j : ℕ) (hx : length x ≤ longest_stream) (hy : length y ≤ longest_stream) where
  -- runs of as many calls, from places that are abreast
  pub runs : {a b : ℕ} {rx ry : List Seen} → Abreast x i a y j b → length rx ≡ length ry
      → Run key font asked x i a rx → Run key font asked y j b ry → rx ≡ ry
  runs w e none none = refl
  runs w e none (next r l l' g p q) = absurd (omega (arith, e))
  runs w e (next r l l' g p q) none = absurd (omega (arith, e))
  runs {a} {b} w e (next r l l' g p q) (next o m m' h u v) =
      let z = step (told key font asked.layout) asked x i a y j b hx hy w l m g h in
      ap₂ ◌∷◌
      (ap₂ (seen_from i) p.0 p.1 ∙ z.0 ∙ sym (ap₂ (seen_from j) u.0 u.1))
      (runs (rw (p.0, u.0) z.1) (omega (arith, e)) q v)

  -- from two marks with the same bytes behind them, however many calls are made
  pub resync : Mark x i → Mark y j → drop i x ≡ drop j y → {rx ry : List Seen} → length rx ≡ length ry
      → Run key font asked x i i rx → Run key font asked y j j ry → rx ≡ ry
  resync m n e long p q = runs (at-marks m n e) long p q
