-- The listing of a stream is that of a whole run of `read` (demand_reading/specs/Whole.antt), with all the work allowed: one row for each reading before the
-- end, in order, with the line's bytes exactly where a line is given, and the counts of them. From the promise of `read` alone. Assumes nothing.
use Rattle.std.specs.Prelude.{◌≡◌, ℕ, ◌-◌, ◌≤◌, Bool, true, false, cond, List, [], ◌∷◌, ◌++◌, map, length}
use Rattle.std.proofs.Math.Path.{refl, sym, ap, ap₂}
use Rattle.std.proofs.Common.{◌∙◌, arith}
use Rattle.base_lists.specs.Never.{never}
use Rattle.line_spec.specs.Lines.{longest}
use Rattle.line_layout.specs.declared.Layout.{Layout}
use Rattle.read_stretch.specs.Stretches.{next_span, next_stretch}
use Rattle.read_stretch.proofs.Places.{next-within}
use Rattle.frame_spec.specs.Told.{told}
use Rattle.read_spec.specs.Judged.{number_in, line_in}
use Rattle.read_spec.specs.Sizes.{Sizes}
use Rattle.read_readings.specs.Readings.{Reading, ends, readings, readings-step}
use Rattle.read_call.specs.declared.Reading as call-reading
use Rattle.read_call.specs.declared.Answer.TheVariants as answer-is
use Rattle.read_call.specs.Answers.{longest_stream, Found, call, stretch, found, reading_of, buffer}
use Rattle.demand_reading.specs.Promises.{Reads, is_end, Seen, seen_from, Run, none, next}
use Rattle.demand_reading.proofs.Resync.{seen_at, sized}
use Rattle.demand_reading.specs.Reaching.{Ended, at-end, before-end}
use Rattle.demand_reading.proofs.GivenWritten.{told-sized}
use Rattle.tool_row.specs.Rows.{row_text, last_row_text}
use Rattle.tool_listing.specs.Listing.{reading_row, row_number, zeros_in, others_in, joined, listing_of, all_asked, judged_for, listing}
use Rattle.tool_listing.specs.Steps.{next_reading}
use Rattle.tool_listing.specs.Runs.{stretches_in, seen_row, seen_number, seen_of}

seen-row : (rs : List Reading) → map reading_row rs ≡ map seen_row (map seen_of rs)
seen-row [] = refl
seen-row (r ∷ rs) = let z : r.place.first ≡ r.place.first - 0 = omega arith in
    ap₂ ◌∷◌ (ap (λ (n : ℕ). row_text n (number_in r.judged) (line_in r.judged)) z) (seen-row rs)

seen-number : (rs : List Reading) → map row_number rs ≡ map seen_number (map seen_of rs)
seen-number [] = refl
seen-number (r ∷ rs) = ap (λ (l : List ℕ). number_in r.judged ∷ l) (seen-number rs)

module _ (key font : List ℕ) (ed : ℕ) (lay : Layout) (s : List ℕ) (z : Sizes (told key font lay)) (h : length s ≤ longest_stream) where
  abbrev reads : ℕ → List Reading
  reads from = readings (judged_for (told key font lay) ed) s from

  reads-is : (from : ℕ) (b : Bool) → ends (next_span s from) ≡ b
      → reads from ≡ cond b [] (next_reading (told key font lay) ed s from ∷ reads (next_span s from).closing)
  reads-is from b e =
      readings-step (judged_for (told key font lay) ed) s from
      ∙ ap (λ (x : Bool). cond x [] (next_reading (told key font lay) ed s from ∷ reads (next_span s from).closing)) e

  is_found : (from : ℕ) → from ≤ length s → (l : List ℕ) → longest ≤ length l → (b : Bool) → ends (next_span s from) ≡ b
      → found (told key font lay) (all_asked ed lay) s from (length l)
      ≡ cond b (call (length s) answer-is.End) (stretch (next_span s from) (judged_for (told key font lay) ed (next_stretch s from)))
  is_found from f l g b e =
      sized (told key font lay) (all_asked ed lay) s from (length l) h g f (told-sized (told key font lay) z.key-is z.font-is)
      ∙ ap (λ (x : Bool). cond x (call (length s) answer-is.End) (stretch (next_span s from) (judged_for (told key font lay) ed (next_stretch s from)))) e

  -- one call, and what the others then see
  one_seen : (from : ℕ) → from ≤ length s → (r : call-reading.Reading) (l l' : List ℕ) (rest : List Seen) → longest ≤ length l
      → Reads key font (all_asked ed lay) s from l r l'
      → (is_end r.answer ≡ false → r.closing ≡ (next_span s from).closing → stretches_in rest ≡ map seen_of (reads (next_span s from).closing))
      → stretches_in (seen_from 0 r l' ∷ rest) ≡ map seen_of (reads from)
  unfolding stretches_in
  one_seen from f r l l' rest g p on = by (ends (next_span s from)) refl
    where
      by : (b : Bool) → ends (next_span s from) ≡ b → cond (is_end r.answer) [] (seen_from 0 r l' ∷ stretches_in rest) ≡ map seen_of (reads from)
      by true e =
          let a : is_end r.answer ≡ true = ap (λ (x : call-reading.Reading). is_end x.answer) (p.0 ∙ ap reading_of (is_found from f l g true e)) in
          ap (λ (x : Bool). cond x [] (seen_from 0 r l' ∷ stretches_in rest)) a ∙ sym (ap (map seen_of) (reads-is from true e))
      by false e =
          let q = is_found from f l g false e in
          let v : seen_from 0 r l' ≡ seen_of (next_reading (told key font lay) ed s from) =
          ap₂ (seen_from 0) (p.0 ∙ ap reading_of q) (p.1 ∙ ap (λ (x : Found). buffer x l) q)
          ∙ seen_at 0 (next_span s from) (judged_for (told key font lay) ed (next_stretch s from)) l in
          let a : is_end r.answer ≡ false = ap (λ (x : Seen). x.ended) v in
          let c : r.closing ≡ (next_span s from).closing = ap (λ (x : call-reading.Reading). x.closing) (p.0 ∙ ap reading_of q) in
          ap (λ (x : Bool). cond x [] (seen_from 0 r l' ∷ stretches_in rest)) a ∙ ap₂ ◌∷◌ v (on a c) ∙ sym (ap (map seen_of) (reads-is from false e))

  pub run-seen : (from : ℕ) → from ≤ length s → {seen : List Seen} → Run key font (all_asked ed lay) s 0 from seen → Ended seen
      → stretches_in seen ≡ map seen_of (reads from)
  run-seen from f none e = elim e [ ]
  run-seen from f (next r l l' {rest} g p q) (at-end a) =
      one_seen from f r l l' rest g p (λ b c. never (sym b ∙ a))
  run-seen from f (next r l l' {rest} g p q) (before-end a k) =
      one_seen from f r l l' rest g p
      (λ b c. run-seen r.closing (omega (arith, c, (next-within s from).inside)) q k ∙ ap (λ (n : ℕ). map seen_of (reads n)) c)

  -- one row for each reading before the end, in order, and its number
  pub rows_seen : {seen : List Seen} → Run key font (all_asked ed lay) s 0 0 seen → Ended seen
      → (map reading_row (reads 0) ≡ map seen_row (stretches_in seen)) × (map row_number (reads 0) ≡ map seen_number (stretches_in seen))
  rows_seen q k =
      let e = run-seen 0 (omega arith) q k in (
        seen-row (reads 0) ∙ ap (map seen_row) (sym e),
        seen-number (reads 0) ∙ ap (map seen_number) (sym e),
      )

  -- so the listing is the rows of what any whole run sees, and their counts
  pub listing-seen : {seen : List Seen} → Run key font (all_asked ed lay) s 0 0 seen → Ended seen
      → listing (told key font lay) ed s
      ≡ joined (map seen_row (stretches_in seen)) ++ last_row_text (zeros_in (map seen_number (stretches_in seen))) (others_in (map seen_number (stretches_in seen)))
  unfolding listing_of
  listing-seen q k =
      let e = rows_seen q k in
      rw (e.0, e.1) refl
