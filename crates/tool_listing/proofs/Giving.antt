-- What each return of `count`, `give` and `next_row` gives. Assumes nothing.
use Rattle.std.specs.Prelude.{Ok, Err, None, Result, Option}
use Rattle.std.proofs.Common.{◌≡◌, ℕ, ◌-◌, ◌<◌, ◌≤◌, Bool, true, false, cond, List, length, take, drop, replicate, sym, refl, ap, ◌∙◌, ap₂, arith, length-append, le-ltb, lt-ltb, eq-eqb, ne_eqb}
use lib.ListN.{length-replicate}
use borrow.Author.Tests.{eqb-false}
use Rattle.base_lists.specs.Buffers.{over}
use Rattle.line_spec.specs.Lines.{longest}
use Rattle.read_stretch.specs.declared.Span.{Span}
use Rattle.read_stretch.specs.Stretches.{next_span, next_stretch}
use Rattle.frame_body.specs.Fields.{digest_length}
use Rattle.frame_spec.specs.Told.{key_length, Told}
use Rattle.read_spec.specs.Judged.{Judged, shape, stuffing, font, work, seal, unlisted, trade, layout, line, number_in, line_in}
use Rattle.read_readings.specs.Readings.{ends}
use Rattle.read_call.specs.declared.Reading.{Reading}
use Rattle.read_call.specs.declared.Answer.TheVariants as answer-is
use Rattle.read_call.specs.Answers.{longest_stream, sized_told, Found, call, stretch, found, reading_of}
use Rattle.read_call.specs.Answers.{buffer, answer_of, line_over, answer_number, length_of, read_answer, read_out}
use Rattle.demand_reading.specs.Promises.{Seen}
use Rattle.demand_reading.proofs.Resync.{seen_at, sized}
use Rattle.demand_reading.proofs.GivenWritten.{told-sized}
use Rattle.tool_row.specs.Rows.{last_row_text, row_room}
use Rattle.tool_row.specs.Answers.{put_answer, put_out, row_answer, row_out}
use Rattle.tool_row.specs.Done.{put-done, row_done}
use Rattle.tool_row.specs.declared.RowRefusal.{RowRefusal}
use Rattle.tool_listing.specs.Listing.{all_asked, judged_for}
use Rattle.tool_listing.specs.Steps.{cursor_at, one_more, counted_on, ended_at, Given, refusal, step_of, next_given, given, Ready, listed_by}
use Rattle.tool_listing.specs.Going.{given_is}
use Rattle.tool_listing.specs.declared.Cursor.{Cursor}
use Rattle.tool_listing.specs.declared.ListRefusal.{ListRefusal}
use Rattle.tool_listing.specs.declared.ListRefusal.TheVariants as listed-is
use Rattle.tool_listing.specs.declared.Step.{Step}

-- one row more, by its number
module _ (c : Cursor) (number closing : ℕ) where
  pub line-counted : number ≡ 0 → {n : ℕ} → n ≡ one_more c.lines → cursor_at closing n c.refused false ≡ counted_on c number closing
  unfolding counted_on
  line-counted z e = rw (eq-eqb number 0 z) (ap (λ (k : ℕ). cursor_at closing k c.refused false) e)

  pub refusal-counted : (number ≡ 0 → ⊥) → {n : ℕ} → n ≡ one_more c.refused → cursor_at closing c.lines n false ≡ counted_on c number closing
  unfolding counted_on
  refusal-counted z e = rw (ne_eqb number 0 z) (ap (λ (k : ℕ). cursor_at closing c.lines k false) e)

-- the line buffer before the call
abbrev pub zeros : List ℕ
zeros = replicate longest 0

pub zeros-room : longest ≤ length zeros
zeros-room = omega (arith, length-replicate {A = ℕ} longest 0)

-- the line buffer is no shorter than the line that it is given
line-within : (j : Judged) (l : List ℕ) → length_of (answer_of j) ≤ length (line_over j l)
line-within shape l = omega arith
line-within stuffing l = omega arith
line-within font l = omega arith
line-within work l = omega arith
line-within (seal n) l = omega arith
line-within (unlisted n) l = omega arith
line-within (trade n) l = omega arith
line-within (layout n) l = omega arith
line-within (line k w n) l = omega (arith, length-append w (drop (length w) l))

line-length : (j : Judged) → length (line_in j) ≡ length_of (answer_of j)
line-length shape = refl
line-length stuffing = refl
line-length font = refl
line-length work = refl
line-length (seal n) = refl
line-length (unlisted n) = refl
line-length (trade n) = refl
line-length (layout n) = refl
line-length (line k w n) = refl

abbrev Gives : Given → List ℕ → Step → List ℕ → Type 0
Gives g o r o' = (r ≡ step_of g) × (o' ≡ over g.row o)

step : Result (Option ℕ) ListRefusal → Cursor → Step
step a c = record { answer = a; cursor = c }

-- the read call with the line buffer l answers r and leaves l' in it
module _ (t : Told) (ed : ℕ) (s : List ℕ) (c : Cursor) (o l : List ℕ) (y : Ready t s c (length o)) (g : longest ≤ length l) (r : Reading) (l' : List ℕ)
    (e : r ≡ read_answer t (all_asked ed t.layout) s c.place l) (f : l' ≡ read_out t (all_asked ed t.layout) s c.place l) where
  abbrev there : Span
  there = next_span s c.place

  abbrev judged : Judged
  judged = judged_for t ed (next_stretch s c.place)

  abbrev found_if : Bool → Found
  found_if b = cond b (call (length s) answer-is.End) (stretch there judged)

  is_found : (b : Bool) → ends there ≡ b → found t (all_asked ed t.layout) s c.place (length l) ≡ found_if b
  is_found b q =
      sized t (all_asked ed t.layout) s c.place (length l) y.short g y.inside (told-sized t y.sizes.key-is y.sizes.font-is) ∙ ap found_if q

  data Read : Type 0 where
    at-end : ends there ≡ true → r ≡ reading_of (call (length s) answer-is.End) → Read
    at-stretch : ends there ≡ false → r ≡ reading_of (stretch there judged) → l' ≡ line_over judged l → Read

  read_is : Read
  read_is = go (ends there) refl
    where
      go : (b : Bool) → ends there ≡ b → Read
      go true q = at-end q (e ∙ ap reading_of (is_found true q))
      go false q = at-stretch q (e ∙ ap reading_of (is_found false q)) (f ∙ ap (λ (x : Found). buffer x l) (is_found false q))

  pub line-fits : {m : ℕ} → m ≡ length_of r.answer → m ≤ length l'
  line-fits {m} me = by read_is
    where
      by : Read → m ≤ length l'
      by (at-end q w) = let z : m ≡ 0 = me ∙ ap (λ (x : Reading). length_of x.answer) w in omega (arith, z)
      by (at-stretch q w v) =
          let z : m ≡ length_of (answer_of judged) = me ∙ ap (λ (x : Reading). length_of x.answer) w in
          omega (arith, z, line-within judged l, ap length v)

  -- the last row
  pub last-given : r.first ≡ r.closing → {p : Result ℕ RowRefusal} {o' : List ℕ} {a : Result (Option ℕ) ListRefusal} {c' : Cursor}
      → p ≡ put_answer (last_row_text c.lines c.refused) o → o' ≡ put_out (last_row_text c.lines c.refused) o
      → a ≡ listed_by p → c' ≡ ended_at c r.closing → Gives (next_given t ed s c) o (record { answer = a; cursor = c' }) o'
  unfolding next_given step
  last-given same {p} {o'} {a} {c'} pe oe ae ce = by read_is
    where
      by : Read → Gives (next_given t ed s c) o (step a c') o'
      by (at-end q w) =
          let d = put-done (last_row_text c.lines c.refused) o y.roomy in
          rw q (ap₂ step (ae ∙ ap listed_by (pe ∙ d.0)) (ce ∙ ap (λ (x : Reading). ended_at c x.closing) w), oe ∙ d.1)
      by (at-stretch q w v) = absurd (eqb-false there.first there.closing q (ap (λ (x : Reading). x.first) (sym w) ∙ same ∙ ap
          (λ (x : Reading). x.closing) w))

  -- the row of a stretch
  pub row-given : (r.first ≡ r.closing → ⊥) → length l' ≤ longest → {n m : ℕ} {p : Result ℕ RowRefusal} {o' : List ℕ} {a : Result (Option ℕ) ListRefusal} {c' : Cursor}
      → n ≡ answer_number r.answer → m ≡ length_of r.answer
      → p ≡ row_answer r.first n (take (m - 0) l') o → o' ≡ row_out r.first n (take (m - 0) l') o
      → a ≡ listed_by p → c' ≡ counted_on c n r.closing → Gives (next_given t ed s c) o (record { answer = a; cursor = c' }) o'
  unfolding next_given step
  row-given differ short {n} {m} {p} {o'} {a} {c'} ne me pe oe ae ce = by read_is
    where
      by : Read → Gives (next_given t ed s c) o (step a c') o'
      by (at-end q w) = absurd (differ (ap (λ (x : Reading). x.first) w ∙ sym (ap (λ (x : Reading). x.closing) w)))
      by (at-stretch q w v) =
          let seen = seen_at 0 there judged l in
          let first-is : r.first ≡ there.first = ap (λ (x : Reading). x.first) w in
          let closing-is : r.closing ≡ there.closing = ap (λ (x : Reading). x.closing) w in
          let number_is : n ≡ number_in judged = ne ∙ ap (λ (x : Reading). answer_number x.answer) w ∙ ap (λ (x : Seen). x.number) seen in
          let length-is : m - 0 ≡ length_of (answer_of judged) = let z : m ≡ length_of (answer_of judged) = me ∙ ap (λ (x : Reading). length_of x.answer) w in
          omega (arith, z) in
          let line-is : take (m - 0) l' ≡ line_in judged = ap₂ take length-is v ∙ ap (λ (x : Seen). x.line) seen in
          let d = row_done there.first (number_in judged) (line_in judged) o (omega (arith, short, line-length judged, line-within judged l, ap length v))
          y.roomy in
          let answer-row : p ≡ row_answer there.first (number_in judged) (line_in judged) o = pe ∙ rw (first-is, number_is, line-is) in
          let out-row : o' ≡ row_out there.first (number_in judged) (line_in judged) o = oe ∙ rw (first-is, number_is, line-is) in
          rw q (ap₂ step (ae ∙ ap listed_by (answer-row ∙ d.0)) (ce ∙ rw (number_is, closing-is)), out-row ∙ d.1)

-- the refusals, in their order
module _ (t : Told) (ed : ℕ) (s : List ℕ) (c : Cursor) (o : List ℕ) where
  pub bad-key : (length t.key ≡ key_length → ⊥) → {r : Step} → r ≡ step_of (refusal (Err listed-is.Sizes) c) → Gives (given t ed s c (length o)) o r o
  unfolding given sized_told
  bad-key h e = rw (ne_eqb (length t.key) key_length h) (e, refl)

  module _ (k : length t.key ≡ key_length) where
    pub bad-font : (length t.font ≡ digest_length → ⊥) → {r : Step} → r ≡ step_of (refusal (Err listed-is.Sizes) c) → Gives (given t ed s c (length o)) o r o
    unfolding given sized_told
    bad-font h e = rw (eq-eqb (length t.key) key_length k, ne_eqb (length t.font) digest_length h) (e, refl)

    module _ (d : length t.font ≡ digest_length) where
      pub too_long : longest_stream < length s → {r : Step} → r ≡ step_of (refusal (Err listed-is.TooLong) c) → Gives (given t ed s c (length o)) o r o
      unfolding given
      too_long h e = rw (told-sized t k d, lt-ltb longest_stream (length s) h) (e, refl)

      module _ (h : length s ≤ longest_stream) where
        pub no_room : length o < row_room → {r : Step} → r ≡ step_of (refusal (Err listed-is.NoRoom) c) → Gives (given t ed s c (length o)) o r o
        unfolding given
        no_room g e = rw (told-sized t k d, le-ltb longest_stream (length s) h, lt-ltb (length o) row_room g) (e, refl)

        module _ (g : row_room ≤ length o) where
          pub beyond : length s < c.place → {r : Step} → r ≡ step_of (refusal (Err listed-is.Beyond) c) → Gives (given t ed s c (length o)) o r o
          unfolding given
          beyond f e = rw (told-sized t k d, le-ltb longest_stream (length s) h, le-ltb (length o) row_room g, lt-ltb (length s) c.place f) (e, refl)

          module _ (f : c.place ≤ length s) where
            ready : Ready t s c (length o)
            ready = record { sizes = record { key-is = k; font-is = d }; short = h; roomy = g; inside = f }

            pub over-before : c.ended ≡ true → {r : Step} → r ≡ step_of (refusal (Ok None) c) → Gives (given t ed s c (length o)) o r o
            over-before b {r} e =
                let x : refusal (Ok None) c ≡ given t ed s c (length o) = sym (given_is t ed s c (length o) ready true b) in
                (e ∙ ap step_of x, ap (λ (y : Given). over y.row o) x)

            pub nothing-against : c.ended ≡ false → {r : Step} {o' : List ℕ} → Gives (next_given t ed s c) o r o' → Gives (given t ed s c (length o)) o r o'
            nothing-against b {r} {o'} e =
                let x : next_given t ed s c ≡ given t ed s c (length o) = sym (given_is t ed s c (length o) ready false b) in
                (e.0 ∙ ap step_of x, e.1 ∙ ap (λ (y : Given). over y.row o) x)
