-- What a whole run of `read` sees is the readings of the stream, one by one, and then the end: from the promise of `read` alone. Theorems about
-- readings are theorems about whole runs by this. Assumes nothing.
use Rattle.std.specs.Prelude.{◌≡◌, refl, true, false, List, [], ◌∷◌, ◌++◌, map, ℕ, ◌≤◌, length}
use Rattle.std.proofs.Common.{sym, ap, ap₂, ◌∙◌, arith, eq-eqb}
use Rattle.std.proofs.Math.Numerals.{unary_clauses}
use Rattle.base_lists.specs.Never.{never}
use Rattle.line_spec.specs.Lines.{longest}
use Rattle.read_stretch.specs.Stretches.{span, next_span, next_stretch}
use Rattle.read_stretch.specs.Places as places
use Rattle.read_stretch.specs.Places.{Next, nothing, something}
use Rattle.read_stretch.proofs.Places.{next-cases}
use Rattle.frame_spec.specs.Told.{told}
use Rattle.read_spec.specs.Judged.{number_in, line_in, label_in, calls_in}
use Rattle.read_spec.specs.Sizes.{Sizes}
use Rattle.read_readings.specs.Readings as readings-of
use Rattle.read_readings.specs.Readings.{reading, readings, readings-step}
use Rattle.read_readings.proofs.Joining.{found-step}
use Rattle.read_call.specs.declared.Asked.{Asked}
use Rattle.read_call.specs.declared.Reading.{Reading}
use Rattle.read_call.specs.declared.Answer.TheVariants as answer-is
use Rattle.read_call.specs.Answers.{longest_stream, Found, call, stretch, judged_within, found, reading_of, buffer}
use Rattle.demand_reading.specs.Promises.{Reads, Seen, seen_from, Run, none, next}
use Rattle.demand_reading.proofs.Resync.{seen_at, sized}
use Rattle.demand_reading.proofs.GivenWritten.{told-sized, found-next}
use Rattle.demand_reading.specs.Reaching.{Ended, at-end, before-end}

-- what is seen of a reading
abbrev pub seen_of : readings-of.Reading → Seen
seen_of r = record {
  number = number_in r.judged;
  ended = false;
  first = r.place.first;
  closing = r.place.closing;
  calls = calls_in r.judged;
  edition = (label_in r.judged).edition;
  job = (label_in r.judged).job;
  line = line_in r.judged;
}

-- the end of a stream of n bytes
abbrev pub the_end : ℕ → Seen
the_end n = record { number = 0; ended = true; first = n; closing = n; calls = 0; edition = 0; job = 0; line = [] }

-- readings, and then the end of a stream of n bytes
abbrev pub seen_to : ℕ → List readings-of.Reading → List Seen
seen_to n l = map seen_of l ++ (the_end n ∷ [])

-- the end is the last
ended-last : {v : Seen} {rest : List Seen} → Ended (v ∷ rest) → v.ended ≡ true → rest ≡ []
ended-last (at-end a) b = refl
ended-last (before-end a k) b = never (sym a ∙ b)

not_last : {v : Seen} {rest : List Seen} → Ended (v ∷ rest) → v.ended ≡ false → Ended rest
not_last (at-end a) b = never (sym b ∙ a)
not_last (before-end a k) b = k

module _ (key font : List ℕ) (asked : Asked) (s : List ℕ) (z : Sizes (told key font asked.layout)) (h : length s ≤ longest_stream) where
  -- the readings from a place, with what the run is told and asked
  abbrev on : ℕ → List readings-of.Reading
  on from = readings (judged_within (told key font asked.layout) asked) s from

  pub end_seen : (from : ℕ) → from ≤ length s → next_span s from ≡ span (length s) (length s)
      → (l : List ℕ) (r : Reading) (l' : List ℕ) → longest ≤ length l → Reads key font asked s from l r l' → seen_from 0 r l' ≡ the_end (length s)
  end_seen from f e l r l' g p =
      let t = told key font asked.layout in
      let q : found t asked s from (length l) ≡ call (length s) answer-is.End =
      sized t asked s from (length l) h g f (told-sized t z.key-is z.font-is) ∙ rw (e, eq-eqb (length s) (length s) refl) in
      ap₂ (seen_from 0) (p.0 ∙ ap reading_of q) (p.1 ∙ ap (λ (x : Found). buffer x l) q) ∙ simp unary_clauses refl

  -- a call that finds a stretch sees its reading, and closes where it does
  pub stretch-seen : (from : ℕ) → from ≤ length s → places.Found s from (next_span s from)
      → (l : List ℕ) (r : Reading) (l' : List ℕ) → longest ≤ length l → Reads key font asked s from l r l'
      → (seen_from 0 r l' ≡ seen_of (reading (next_span s from) (judged_within (told key font asked.layout) asked (next_stretch s from))))
      × (r.closing ≡ (next_span s from).closing)
  stretch-seen from f x l r l' g p =
      let t = told key font asked.layout in
      let o = next_span s from in
      let j = judged_within t asked (next_stretch s from) in
      let q : found t asked s from (length l) ≡ stretch o j = found-next t asked z s from (length l) h g f o refl (λ u. omega (arith, u, x.stretch.some)) in
      let a : r ≡ reading_of (stretch o j) = p.0 ∙ ap reading_of q in (
        ap₂ (seen_from 0) a (p.1 ∙ ap (λ (x : Found). buffer x l) q) ∙ seen_at 0 o j l ∙ simp unary_clauses refl,
        ap (λ (x : Reading). x.closing) a,
      )

  by_next : (from : ℕ) → from ≤ length s → (r : Reading) (l l' : List ℕ) (rest : List Seen) → longest ≤ length l → Reads key font asked s from l r l'
      → Ended (seen_from 0 r l' ∷ rest) → (r.closing ≤ length s → Ended rest → rest ≡ seen_to (length s) (on r.closing))
      → Next s from (next_span s from) → seen_from 0 r l' ∷ rest ≡ seen_to (length s) (on from)
  by_next from f r l l' rest g p e more (nothing n no_one) =
      let j = judged_within (told key font asked.layout) asked in
      let v = end_seen from f n l r l' g p in
      let none : on from ≡ [] = readings-step j s from ∙ rw (n, eq-eqb (length s) (length s) refl) in
      ap₂ ◌∷◌ v (ended-last e (ap (λ (x : Seen). x.ended) v)) ∙ ap (seen_to (length s)) (sym none)
  by_next from f r l l' rest g p e more (something x) =
      let j = judged_within (told key font asked.layout) asked in
      let (v, c) = stretch-seen from f x l r l' g p in
      let k : r.closing ≤ length s = rw c (omega (arith, x.stretch.ends)) in
      ap₂ ◌∷◌ v (more k (not_last e (ap (λ (y : Seen). y.ended) v)) ∙ ap (λ (n : ℕ). seen_to (length s) (on n)) c)
      ∙ ap (seen_to (length s)) (sym (found-step j s from x))

  -- from any place of the stream to its end
  pub run-readings : (from : ℕ) {seen : List Seen} → from ≤ length s → Run key font asked s 0 from seen → Ended seen → seen ≡ seen_to (length s) (on from)
  run-readings from f none e = elim e [ ]
  run-readings from f (next r l l' {rest} g p q) e =
      by_next from f r l l' rest g p e (λ c k. run-readings r.closing c q k) (next-cases s from)
