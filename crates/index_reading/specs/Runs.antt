-- What a run of `read` to the end sees, without the end, are the stream's readings with all the work allowed. From the promise of `read` alone.
-- Assumes nothing.
use Rattle.std.specs.Prelude.{◌≡◌, refl, true, false, List, [], ◌∷◌, map, ℕ, ◌-◌, ◌≤◌, length, drop}
use Rattle.std.proofs.Math.Path.{sym}
use Rattle.std.proofs.Common.{ap, ap₂, ◌∙◌, arith, eq-eqb}
use Rattle.std.proofs.Math.Numerals.{unary_clauses}
use Rattle.base_lists.specs.Never.{never}
use Rattle.base_lists.specs.Below.{Below, below-take, below-drop}
use Rattle.line_spec.specs.Lines.{longest}
use Rattle.line_layout.specs.declared.Layout.{Layout}
use Rattle.read_stretch.specs.Stretches.{span, next_span, next_stretch}
use Rattle.read_stretch.specs.Places as places
use Rattle.read_stretch.specs.Places.{Next, nothing, something}
use Rattle.read_stretch.proofs.Places.{next-cases}
use Rattle.frame_spec.specs.Told.{Told, told}
use Rattle.read_spec.specs.Judged.{Judged, number_in, line_in, label_in, calls_in}
use Rattle.read_spec.specs.Ceiling.{all_work}
use Rattle.read_spec.proofs.Allowance.{all-allowed}
use Rattle.read_spec.specs.Sizes.{Sizes}
use Rattle.read_readings.specs.Readings.{Reading, reading, readings, readings-step}
use Rattle.read_readings.proofs.Joining.{found-step}
use Rattle.read_call.specs.declared.Reading as answers
use Rattle.read_call.specs.declared.Answer.TheVariants as answer-is
use Rattle.read_call.specs.Answers.{longest_stream, call, stretch, judged_within, found, reading_of, buffer}
use Rattle.demand_reading.specs.Promises.{Reads, is_end, Seen, seen_from, Run, none, next}
use Rattle.demand_reading.proofs.Resync.{seen_at, sized}
use Rattle.demand_reading.proofs.GivenWritten.{told-sized, found-next}
use Rattle.demand_reading.specs.Reaching.{Ended, at-end, before-end}
use Rattle.index_spec.specs.Entries.{recorded}
use Rattle.index_spec.specs.Updating.{judged_all}
use Rattle.index_reading.specs.Promises.{asking, stretches_seen, entry_seen}

-- what is seen of a reading
abbrev pub seen_of : Reading → Seen
seen_of r = record {
  number = number_in r.judged;
  ended = false;
  first = r.place.first;
  closing = r.place.closing;
  calls = calls_in r.judged;
  edition = (label_in r.judged).edition;
  job = (label_in r.judged).job;
  line = line_in r.judged;
}

-- a stretch seen stays, the end goes
stays : (v : Seen) (l : List Seen) → v.ended ≡ false → stretches_seen (v ∷ l) ≡ v ∷ stretches_seen l
stays v l e = rw e

goes : (v : Seen) (l : List Seen) → v.ended ≡ true → stretches_seen (v ∷ l) ≡ stretches_seen l
goes v l e = rw e

-- as an entry it is what is recorded of it
pub recorded-seen : (l : List Reading) → map entry_seen (map seen_of l) ≡ map recorded l
recorded-seen [] = refl
recorded-seen (r ∷ l) = ap (λ (x : List ℕ). recorded r ∷ x) (recorded-seen l)

module _ (key font : List ℕ) (editions a : ℕ) (lay : Layout) (s : List ℕ) (z : Sizes (told key font lay)) (h : length s ≤ longest_stream) (bytes : Below 256 s)
    (all : all_work ≤ a) where
  abbrev t : Told
  t = told key font lay

  -- a stretch judged with more allowed than all the work
  pub all-judged : (from : ℕ) → judged_within t (asking editions a lay) (next_stretch s from) ≡ judged_all t editions (next_stretch s from)
  unfolding judged_within next_stretch
  all-judged from =
      let p = next_span s from in
      let b : Below 256 (next_stretch s from) = below-take 256 (p.closing - p.first) (drop p.first s) (below-drop 256 p.first s bytes) in
      all-allowed t z editions (next_stretch s from) b a all ∙ sym (all-allowed t z editions (next_stretch s from) b all_work (omega arith))

  -- a call that finds a stretch
  pub stretch-read : (from : ℕ) → from ≤ length s → places.Found s from (next_span s from) → (l : List ℕ) (r : answers.Reading) (l' : List ℕ)
      → longest ≤ length l → Reads key font (asking editions a lay) s from l r l'
      → (r.closing ≡ (next_span s from).closing) × (seen_from 0 r l' ≡ seen_of (reading (next_span s from) (judged_all t editions (next_stretch s from))))
  stretch-read from f x l r l' g p =
      let o = next_span s from in
      let j = judged_within t (asking editions a lay) (next_stretch s from) in
      let q : found t (asking editions a lay) s from (length l) ≡ stretch o j =
      found-next t (asking editions a lay) z s from (length l) h g f o refl (λ u. omega (arith, u, x.stretch.some)) in
      let e : r ≡ reading_of (stretch o j) = p.0 ∙ ap reading_of q in
      let d : l' ≡ buffer (stretch o j) l = p.1 ∙ rw q in (
        ap (λ (y : answers.Reading). y.closing) e,
        ap₂ (seen_from 0) e d ∙ seen_at 0 o j l ∙ simp unary_clauses refl ∙ ap (λ (y : Judged). seen_of (reading o y)) (all-judged from),
      )

  -- a call at the end
  end_read : (from : ℕ) → from ≤ length s → next_span s from ≡ span (length s) (length s) → (l : List ℕ) (r : answers.Reading) (l' : List ℕ)
      → longest ≤ length l → Reads key font (asking editions a lay) s from l r l' → is_end r.answer ≡ true
  end_read from f e l r l' g p =
      let q : found t (asking editions a lay) s from (length l) ≡ call (length s) answer-is.End =
      sized t (asking editions a lay) s from (length l) h g f (told-sized t z.key-is z.font-is) ∙ rw (e, eq-eqb (length s) (length s) refl) in
      ap (λ (x : answers.Reading). is_end x.answer) (p.0 ∙ ap reading_of q)

  on : (from : ℕ) → from ≤ length s → (r : answers.Reading) (l l' : List ℕ) (rest : List Seen) → longest ≤ length l
      → Reads key font (asking editions a lay) s from l r l' → Ended (seen_from 0 r l' ∷ rest) → Next s from (next_span s from)
      → (r.closing ≤ length s → Ended rest → stretches_seen rest ≡ map seen_of (readings (judged_all t editions) s r.closing))
      → stretches_seen (seen_from 0 r l' ∷ rest) ≡ map seen_of (readings (judged_all t editions) s from)
  on from f r l l' rest g p (at-end u) (nothing e n) k =
      let none : readings (judged_all t editions) s from ≡ [] = readings-step (judged_all t editions) s from ∙ rw (e, eq-eqb (length s) (length s) refl) in
      goes (seen_from 0 r l') [] u ∙ sym (ap (map seen_of) none)
  on from f r l l' rest g p (before-end u v) (nothing e n) k = never (sym u ∙ end_read from f e l r l' g p)
  on from f r l l' rest g p (at-end u) (something x) k =
      never (sym (ap (λ (y : Seen). y.ended) (stretch-read from f x l r l' g p).1) ∙ u)
  on from f r l l' rest g p (before-end u v) (something x) k =
      let (c, e) = stretch-read from f x l r l' g p in
      stays (seen_from 0 r l') rest u
      ∙ ap₂ ◌∷◌ e (k (rw c (omega (arith, x.stretch.ends))) v ∙ ap (λ (i : ℕ). map seen_of (readings (judged_all t editions) s i)) c)
      ∙ sym (ap (map seen_of) (found-step (judged_all t editions) s from x))

  -- a run from any place of the stream, made until the end
  pub run-readings : (from : ℕ) {seen : List Seen} → from ≤ length s → Run key font (asking editions a lay) s 0 from seen → Ended seen
      → stretches_seen seen ≡ map seen_of (readings (judged_all t editions) s from)
  run-readings from f none e = elim e [ ]
  run-readings from f (next r l l' {rest} g p q) e =
      on from f r l l' rest g p e (next-cases s from) (λ c k. run-readings r.closing c q k)
