-- `line-chosen` (order W14): where a whole run of `read` over the stream sees a line, an item whose entry names its place chooses it; with
-- `desk-from-stream` that is exactly where. Every reading of a stream is a stretch with what it is judged to be. Assumes nothing.
use Rattle.std.specs.Prelude.{◌≡◌, refl, false, ℕ, zero, suc, ◌+◌, ◌-◌, ◌≤◌, ◌<◌, length}
use Rattle.std.proofs.Common.{sym, ap, subst, ◌∙◌, arith, length-append, eq-eqb}
use mathlib.Core.List.{List, [], ◌∷◌, ◌++◌, head-eq_of_cons-eq, tail-eq_of_cons-eq}
use Rattle.base_lists.specs.Never.{never}
use Rattle.base_lists.specs.Below.{Below}
use Rattle.line_layout.specs.declared.Layout.{Layout}
use Rattle.read_stretch.specs.Stretches.{span, bytes_at, next_span}
use Rattle.read_stretch.specs.Meaning.{Stretch}
use Rattle.read_stretch.specs.Places.{Found, Next, nothing, something}
use Rattle.read_stretch.proofs.Places.{next-cases, stretch-next}
use Rattle.frame_body.specs.Fields.{Own}
use Rattle.frame_spec.specs.Told.{Told, told}
use Rattle.read_spec.specs.Judged.{Judged, shape, stuffing, font, work, seal, unlisted, trade, layout, line, number_in}
use Rattle.read_spec.specs.Ceiling.{all_work}
use Rattle.read_readings.specs.Readings.{Reading, readings, readings-step}
use Rattle.read_readings.proofs.Joining.{found-step}
use Rattle.read_call.specs.Answers.{judged_within}
use Rattle.demand_reading.specs.Promises.{Seen}
use Rattle.demand_reading.specs.Whole.{WholeRun}
use Rattle.demand_joined.specs.Bytes.{next-bytes}
use Rattle.demand_joined.specs.Seeing.{seen_of, seen_to, run-readings}
use Rattle.index_spec.specs.Updating.{judged_all}
use Rattle.index_spec.specs.Cases.{Takes}
use Rattle.index_reading.specs.Promises.{asking}
use Rattle.index_reading.specs.Runs.{all-judged}
use Rattle.desk_spec.specs.Desk.{place_of}
use Rattle.desk_spec.specs.Chosen.{LineAt}
use Rattle.desk_reading.specs.Promises.{ItemLine}

-- only a line has the number 0
pub line-only : (j : Judged) → number_in j ≡ 0 → (own : Own) × (l : List ℕ) × (n : ℕ) × (j ≡ line own l n)
line-only shape e = absurd (omega (arith, e))
line-only stuffing e = absurd (omega (arith, e))
line-only font e = absurd (omega (arith, e))
line-only work e = absurd (omega (arith, e))
line-only (seal n) e = absurd (omega (arith, e))
line-only (unlisted n) e = absurd (omega (arith, e))
line-only (trade n) e = absurd (omega (arith, e))
line-only (layout n) e = absurd (omega (arith, e))
line-only (line own l n) e = (own, l, n, refl)

-- so a stretch with this number reads as a line
pub line_at : (t : Told) (editions : ℕ) (s : List ℕ) (p c : ℕ) → Stretch s p c → number_in (judged_all t editions (bytes_at s (span p c))) ≡ 0
    → LineAt t editions s p c
line_at t editions s p c x e =
    let (own, text, calls, j) = line-only (judged_all t editions (bytes_at s (span p c))) e in
    record { stretch-is = x; own = own; text = text; calls = calls; judged = j }

-- a reading: a stretch of the stream, judged by its bytes
pub record Right (judge : List ℕ → Judged) (s : List ℕ) (r : Reading) : Type 0 where
  pub stretch : Stretch s r.place.first r.place.closing
  pub judged-is : r.judged ≡ judge (bytes_at s r.place)

abbrev pub AllRight : (List ℕ → Judged) → List ℕ → List Reading → Type 0
AllRight judge s [] = Unit {0}
AllRight judge s (r ∷ l) = Right judge s r × AllRight judge s l

module _ (judge : List ℕ → Judged) (s : List ℕ) where
  on : (from : ℕ) → Next s from (next_span s from)
      → (Found s from (next_span s from) → AllRight judge s (readings judge s (next_span s from).closing)) → AllRight judge s (readings judge s from)
  on from (nothing e n) k =
      let none : readings judge s from ≡ [] = readings-step judge s from ∙ rw (e, eq-eqb (length s) (length s) refl) in
      subst (AllRight judge s) (sym none) tt
  on from (something f) k =
      subst (AllRight judge s) (sym (found-step judge s from f))
      (record { stretch = f.stretch; judged-is = ap judge (next-bytes s from (next_span s from) refl) }, k f)

  walk : (n from : ℕ) → length s ≤ from + n → AllRight judge s (readings judge s from)
  walk zero from g = on from (next-cases s from) (λ f. absurd (omega (arith, g, f.later, f.stretch.some, f.stretch.ends)))
  walk (suc n) from g = on from (next-cases s from) (λ f. walk n (next_span s from).closing (omega (arith, g, f.later, f.stretch.some)))

  -- all readings are right
  pub all_right : AllRight judge s (readings judge s 0)
  all_right = walk (length s) 0 (omega arith)

  -- what is seen and is not the end is of a reading
  pub seen-right : (n : ℕ) (l : List Reading) → AllRight judge s l → (before after : List Seen) (v : Seen)
      → seen_to n l ≡ before ++ (v ∷ after) → v.ended ≡ false → (r : Reading) × Right judge s r × (v ≡ seen_of r)
  seen-right n [] x [] after v e d = never (sym d ∙ ap (λ (z : Seen). z.ended) (sym (head-eq_of_cons-eq e)))
  seen-right n [] x (b ∷ before) after v e d = absurd (omega (arith, ap length (tail-eq_of_cons-eq e), length-append before (v ∷ after)))
  seen-right n (r ∷ l) x [] after v e d = (r, x.0, sym (head-eq_of_cons-eq e))
  seen-right n (r ∷ l) x (b ∷ before) after v e d = seen-right n l x.1 before after v (tail-eq_of_cons-eq e) d

module _ (key digest : List ℕ) (editions a : ℕ) (lay : Layout) (s table : List ℕ) (count : ℕ) (w : Takes (told key digest lay) s table count) where
  abbrev t : Told
  t = told key digest lay

  -- how a run judges
  abbrev judge : List ℕ → Judged
  judge = judged_within t (asking editions a lay)

  -- the same as with all the work allowed
  pub judged-same : Below 256 s → all_work ≤ a → (p c : ℕ) → Stretch s p c → judge (bytes_at s (span p c)) ≡ judged_all t editions (bytes_at s (span p c))
  judged-same bytes all p c x =
      let e = next-bytes s (p - 1) (span p c) (stretch-next s p c x) in
      ap judge (sym e) ∙ all-judged key digest editions a lay s w.sizes w.short bytes all (p - 1) ∙ ap (judged_all t editions) e

  -- where a run judges so
  pub line-chosen-so : ((p c : ℕ) → Stretch s p c → judge (bytes_at s (span p c)) ≡ judged_all t editions (bytes_at s (span p c)))
      → (u : WholeRun key digest (asking editions a lay) s) (before after : List Seen) (v : Seen) → u.seen ≡ before ++ (v ∷ after)
      → v.ended ≡ false → v.number ≡ 0 → (i : ℕ) → i < count → place_of table i ≡ v.first → ItemLine t editions s table count i
  line-chosen-so same u before after v e d z i b at =
      let (r, x, is) = seen-right judge s (length s) (readings judge s 0) (all_right judge s) before after v
      (sym (run-readings key digest (asking editions a lay) s w.sizes w.short 0 (omega arith) u.run u.ended) ∙ e) d in
      let p = r.place.first in
      let c = r.place.closing in
      let number : number_in (judged_all t editions (bytes_at s (span p c))) ≡ 0 =
      ap number_in (sym (same p c x.stretch) ∙ sym x.judged-is) ∙ sym (ap (λ (y : Seen). y.number) is) ∙ z in
      let place : p ≡ place_of table i = sym (at ∙ ap (λ (y : Seen). y.first) is) in
      record {
        below = b;
        closing = c;
        there = subst (λ (k : ℕ). LineAt t editions s k c) place (line_at t editions s p c x.stretch number);
      }

  pub line-chosen : Below 256 s → all_work ≤ a → (u : WholeRun key digest (asking editions a lay) s) (before after : List Seen) (v : Seen)
      → u.seen ≡ before ++ (v ∷ after) → v.ended ≡ false → v.number ≡ 0 → (i : ℕ) → i < count → place_of table i ≡ v.first
      → ItemLine t editions s table count i
  line-chosen bytes all = line-chosen-so (judged-same bytes all)
