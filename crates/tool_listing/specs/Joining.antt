-- Calls of `next_row` one after the other, from the stream's start, each from the cursor that the one before gave: until the last row was given, what they
-- write joins to the listing of the stream, and more calls than the stream has bytes come to it. From the promise of `next_row` alone (`next-row-promises`
-- under proofs/). Assumes nothing.
use Rattle.std.specs.Prelude.{Ok, None}
use Rattle.std.specs.Prelude.{◌≡◌, ℕ, zero, suc, ◌+◌, ◌^◌, ◌<◌, ◌≤◌, Bool, true, false, cond, List, [], ◌∷◌, ◌++◌, map, length, take, replicate, ◌==◌}
use Rattle.std.proofs.Math.Path.{refl, sym, ap, ap₂}
use Rattle.std.proofs.Common.{◌∙◌, append_assoc, append-nil, mod-eq_of_lt}
use native.Mathlib.Omega.{arith}
use Rattle.std.proofs.lemmas.List.{length-replicate}
use Rattle.std.proofs.lemmas.Bool.{eqb-false}
use Rattle.base_lists.specs.Buffers.{over}
use Rattle.base_lists.specs.Over.{take-over}
use Rattle.base_lists.specs.Never.{never}
use Rattle.read_stretch.specs.Stretches.{next_span, next_stretch}
use Rattle.read_stretch.specs.Places.{Found}
use Rattle.read_stretch.proofs.Places.{next-found}
use Rattle.line_layout.specs.declared.Layout.{Layout}
use Rattle.frame_spec.specs.Told.{told}
use Rattle.read_spec.specs.Judged.{Judged}
use Rattle.read_spec.specs.Sizes.{Sizes}
use Rattle.read_readings.specs.Readings.{Reading, reading, ends, readings, readings-step}
use Rattle.read_call.specs.Answers.{longest_stream}
use Rattle.tool_row.specs.Rows.{last_row_text, row_room}
use Rattle.tool_listing.specs.Listing.{reading_row, row_number, zeros_in, others_in, joined, listing_of, judged_for, listing}
use Rattle.tool_listing.specs.Steps.{cursor_at, start_cursor, one_more, counted_on, ended_at, Given, refusal}
use Rattle.tool_listing.specs.Steps.{row_given, step_of, next_reading, reading_given, given, Ready, listed_length}
use Rattle.tool_listing.specs.Going.{given_is, next-is}
use Rattle.tool_listing.specs.declared.Cursor.{Cursor}
use Rattle.tool_listing.specs.declared.Step.{Step}

-- a call from the cursor c, with the buffer o before it, may answer r and leave o' in it
abbrev pub Gives : List ℕ → List ℕ → ℕ → Layout → List ℕ → Cursor → List ℕ → Step → List ℕ → Type 0
Gives key font ed lay s c o r o' =
    (r ≡ step_of (given (told key font lay) ed s c (length o))) × (o' ≡ over (given (told key font lay) ed s c (length o)).row o)

-- so many calls one after the other with room for every row, the first from a cursor, each next one from the cursor that the one before gave; what they
-- write, one behind the other; and the cursor that the last one gave. Each call may have a buffer of its own
pub data Calls (key font : List ℕ) (ed : ℕ) (lay : Layout) (s : List ℕ) : ℕ → Cursor → List ℕ → Cursor → Type 0 where
  none : {c : Cursor} → Calls key font ed lay s 0 c [] c
  next : {n : ℕ} {c c' : Cursor} (r : Step) (o o' : List ℕ) {rest : List ℕ} → row_room ≤ length o → Gives key font ed lay s c o r o'
      → Calls key font ed lay s n r.cursor rest c' → Calls key font ed lay s (suc n) c (take (listed_length r.answer) o' ++ rest) c'

-- a stretch is found further on, within the stream
pub moves : (s : List ℕ) (from : ℕ) → ends (next_span s from) ≡ false → (from < (next_span s from).closing) × ((next_span s from).closing < length s)
moves s from e =
    let f : Found s from (next_span s from) = next-found s from (eqb-false (next_span s from).first (next_span s from).closing e) in
    (omega (arith, f.later, f.stretch.some), f.stretch.ends)

-- a stream has no more readings than bytes
module _ (judge : List ℕ → Judged) (s : List ℕ) where
  many-on : (from : ℕ) → from ≤ length s
      → (ends (next_span s from) ≡ false → length (readings judge s (next_span s from).closing) + (next_span s from).closing ≤ length s)
      → length (readings judge s from) + from ≤ length s
  many-on from f on = rw (readings-step judge s from) (by (ends (next_span s from)) refl)
    where
      by : (b : Bool) → ends (next_span s from) ≡ b
          → length (cond b [] (reading (next_span s from) (judge (next_stretch s from)) ∷ readings judge s (next_span s from).closing)) + from ≤ length s
      by true e = omega (arith, f)
      by false e = omega (arith, on e, (moves s from e).0)

  many-in : (n from : ℕ) → from ≤ length s → length s ≤ from + n → length (readings judge s from) + from ≤ length s
  many-in zero from f h = many-on from f (λ e. absurd (omega (arith, h, (moves s from e).0, (moves s from e).1)))
  many-in (suc n) from f h =
      many-on from f (λ e. many-in n (next_span s from).closing (omega (arith, (moves s from e).1)) (omega (arith, h, (moves s from e).0)))

-- the rows of readings and the last row, where so many lines and refusals came before them
abbrev pub listed_from : ℕ → ℕ → List Reading → List ℕ
listed_from lines refused rs =
    joined (map reading_row rs) ++ last_row_text (lines + zeros_in (map row_number rs)) (refused + others_in (map row_number rs))

small : (n k : ℕ) → n + suc k < 2 ^ 64 → one_more n ≡ n + 1
small n k h = mod-eq_of_lt (omega (arith, h))

-- one row before others, counted
module _ (r : Reading) (rs : List Reading) (lines refused : ℕ) where
  one-row : (l f : ℕ) → l + zeros_in (map row_number rs) ≡ lines + zeros_in (row_number r ∷ map row_number rs)
      → f + others_in (map row_number rs) ≡ refused + others_in (row_number r ∷ map row_number rs)
      → reading_row r ++ listed_from l f rs ≡ listed_from lines refused (r ∷ rs)
  unfolding joined
  one-row l f p q =
      ap₂ (λ (a b : ℕ). reading_row r ++ (joined (map reading_row rs) ++ last_row_text a b)) p q
      ∙ sym (append_assoc (reading_row r) (joined (map reading_row rs)) (last_row_text (lines + zeros_in (row_number r ∷ map row_number rs))
      (refused + others_in (row_number r ∷ map row_number rs))))

module _ (key font : List ℕ) (ed : ℕ) (lay : Layout) (s : List ℕ) (z : Sizes (told key font lay)) (h : length s ≤ longest_stream) where
  ready : (c : Cursor) (room : ℕ) → c.place ≤ length s → row_room ≤ room → Ready (told key font lay) s c room
  ready c room f g = record { sizes = z; short = h; roomy = g; inside = f }

  -- a call that gives a row writes it
  row_written : (c : Cursor) (o o' : List ℕ) (r : Step) (w : List ℕ) (c' : Cursor) → given (told key font lay) ed s c (length o) ≡ row_given w c'
      → Gives key font ed lay s c o r o' → (take (listed_length r.answer) o' ≡ w) × (r.cursor ≡ c')
  row_written c o o' r w c' e g =
      let a : r ≡ step_of (row_given w c') = g.0 ∙ ap step_of e in
      let b : o' ≡ over w o = g.1 ∙ ap (λ (x : Given). over x.row o) e in (
        ap₂ take (ap (λ (x : Step). listed_length x.answer) a) b ∙ take-over w o (length w) refl,
        ap (λ (x : Step). x.cursor) a,
      )

  -- behind the last row nothing comes
  over-after : {n : ℕ} {w : List ℕ} {c c' : Cursor} → c.place ≤ length s → c.ended ≡ true → Calls key font ed lay s n c w c' → (w ≡ []) × (c' ≡ c)
  over-after f e none = (refl, refl)
  over-after {c = c} f e (next r o o' {rest} g p q) =
      let a : r ≡ step_of (refusal (Ok None) c) = p.0 ∙ ap step_of (given_is (told key font lay) ed s c (length o) (ready c (length o) f g) true e) in
      let same : r.cursor ≡ c = ap (λ (x : Step). x.cursor) a in
      let i = over-after (rw same f) (ap (λ (x : Cursor). x.ended) same ∙ e) q in (
        ap₂ ◌++◌ (ap (λ (x : Step). take (listed_length x.answer) o') a) i.0,
        i.1 ∙ same,
      )

  abbrev reads : ℕ → List Reading
  reads from = readings (judged_for (told key font lay) ed) s from

  reads-is : (from : ℕ) (b : Bool) → ends (next_span s from) ≡ b
      → reads from ≡ cond b [] (next_reading (told key font lay) ed s from ∷ reads (next_span s from).closing)
  reads-is from b e =
      readings-step (judged_for (told key font lay) ed) s from
      ∙ ap (λ (x : Bool). cond x [] (next_reading (told key font lay) ed s from ∷ reads (next_span s from).closing)) e

  -- a call from a cursor that has not given the last row, and what the others then write
  rows_on : (place lines refused : ℕ) → place ≤ length s → lines + length (reads place) < 2 ^ 64 → refused + length (reads place) < 2 ^ 64
      → (c : Cursor) → c ≡ cursor_at place lines refused false → (r : Step) (o o' rest : List ℕ) → row_room ≤ length o → Gives key font ed lay s c o r o'
      → (r.cursor.place ≤ length s → r.cursor.ended ≡ true → rest ≡ [])
      → ((l m : ℕ) → r.cursor ≡ cursor_at (next_span s place).closing l m false → (next_span s place).closing ≤ length s
      → l + length (reads (next_span s place).closing) < 2 ^ 64 → m + length (reads (next_span s place).closing) < 2 ^ 64
      → rest ≡ listed_from l m (reads (next_span s place).closing))
      → take (listed_length r.answer) o' ++ rest ≡ listed_from lines refused (reads place)
  unfolding joined zeros_in others_in counted_on
  rows_on place lines refused f a b c e r o o' rest g p stop on = by (ends (next_span s place)) refl
    where
      is-given : (y : Bool) → ends (next_span s place) ≡ y → given (told key font lay) ed s c (length o)
          ≡ cond y (row_given (last_row_text lines refused) (ended_at (cursor_at place lines refused false) (length s)))
          (reading_given (cursor_at place lines refused false) (next_reading (told key font lay) ed s place))
      is-given y k =
          ap (λ (x : Cursor). given (told key font lay) ed s x (length o)) e
          ∙ given_is (told key font lay) ed s (cursor_at place lines refused false) (length o) (ready (cursor_at place lines refused false) (length o) f g) false
          refl ∙ next-is (told key font lay) ed s (cursor_at place lines refused false) y k

      -- behind a stretch's row: one line more, or one refusal more
      counted : ends (next_span s place) ≡ false → (v : Bool) → (row_number (next_reading (told key font lay) ed s place) == 0) ≡ v
          → take (listed_length r.answer) o' ++ rest ≡ listed_from lines refused (reads place)
      counted k true v =
          let w = reading_row (next_reading (told key font lay) ed s place) in
          let x = row_written c o o' r w (counted_on (cursor_at place lines refused false) (row_number (next_reading (told key font lay) ed s place))
          (next_span s place).closing) (is-given false k) p in
          let all = reads-is place false k in
          let long : length (reads place) ≡ suc (length (reads (next_span s place).closing)) = ap length all in
          let up : one_more lines ≡ lines + 1 = small lines (length (reads (next_span s place).closing)) (omega (arith, a, long)) in
          let at : r.cursor ≡ cursor_at (next_span s place).closing (lines + 1) refused false = x.1 ∙ rw (v, up) in
          let i = on (lines + 1) refused at (omega (arith, (moves s place k).1)) (omega (arith, a, long)) (omega (arith, b, long)) in
          ap₂ ◌++◌ x.0 i
          ∙ one-row (next_reading (told key font lay) ed s place) (reads (next_span s place).closing) lines refused (lines + 1) refused
          (rw v (omega arith)) (rw v refl)
          ∙ sym (ap (listed_from lines refused) all)
      counted k false v =
          let w = reading_row (next_reading (told key font lay) ed s place) in
          let x = row_written c o o' r w (counted_on (cursor_at place lines refused false) (row_number (next_reading (told key font lay) ed s place))
          (next_span s place).closing) (is-given false k) p in
          let all = reads-is place false k in
          let long : length (reads place) ≡ suc (length (reads (next_span s place).closing)) = ap length all in
          let up : one_more refused ≡ refused + 1 = small refused (length (reads (next_span s place).closing)) (omega (arith, b, long)) in
          let at : r.cursor ≡ cursor_at (next_span s place).closing lines (refused + 1) false = x.1 ∙ rw (v, up) in
          let i = on lines (refused + 1) at (omega (arith, (moves s place k).1)) (omega (arith, a, long)) (omega (arith, b, long)) in
          ap₂ ◌++◌ x.0 i
          ∙ one-row (next_reading (told key font lay) ed s place) (reads (next_span s place).closing) lines refused lines (refused + 1)
          (rw v refl) (rw v (omega arith))
          ∙ sym (ap (listed_from lines refused) all)

      by : (y : Bool) → ends (next_span s place) ≡ y → take (listed_length r.answer) o' ++ rest ≡ listed_from lines refused (reads place)
      by true k =
          let x = row_written c o o' r (last_row_text lines refused) (ended_at (cursor_at place lines refused false) (length s)) (is-given true k) p in
          let i = stop (rw x.1 (omega arith)) (ap (λ (v : Cursor). v.ended) x.1) in
          let l : lines + 0 ≡ lines = omega arith in
          let m : refused + 0 ≡ refused = omega arith in
          ap₂ ◌++◌ x.0 i ∙ append-nil (last_row_text lines refused) ∙ rw (reads-is place true k, l, m) refl
      by false k = counted k (row_number (next_reading (told key font lay) ed s place) == 0) refl

  -- calls from a cursor until the last row was given
  pub rows-from : {n : ℕ} {w : List ℕ} {c c' : Cursor} (place lines refused : ℕ) → c ≡ cursor_at place lines refused false → place ≤ length s
      → lines + length (reads place) < 2 ^ 64 → refused + length (reads place) < 2 ^ 64
      → Calls key font ed lay s n c w c' → c'.ended ≡ true → w ≡ listed_from lines refused (reads place)
  rows-from place lines refused e f a b none u = never (sym (ap (λ (x : Cursor). x.ended) e) ∙ u)
  rows-from {c = c} place lines refused e f a b (next r o o' {rest} g p q) u =
      rows_on place lines refused f a b c e r o o' rest g p (λ x y. (over-after x y q).0) (λ l m d i v w. rows-from (next_span s place).closing l m d i v w q u)

  -- from the stream's start
  pub rows_join : {n : ℕ} {w : List ℕ} {c : Cursor} → Calls key font ed lay s n start_cursor w c → c.ended ≡ true → w ≡ listing (told key font lay) ed s
  unfolding listing_of
  rows_join q u =
      let many = many-in (judged_for (told key font lay) ed) s (length s) 0 (omega arith) (omega arith) in
      let few : 0 + length (reads 0) < 2 ^ 64 = omega (arith, many, h) in
      let l : 0 + zeros_in (map row_number (reads 0)) ≡ zeros_in (map row_number (reads 0)) = omega arith in
      let m : 0 + others_in (map row_number (reads 0)) ≡ others_in (map row_number (reads 0)) = omega arith in
      rows-from 0 0 0 refl (omega arith) few few q u ∙ rw (l, m) refl

  -- a call that gives a row and not the last one goes on
  ends_on : (c : Cursor) → c.place ≤ length s → (n : ℕ) → length s < c.place + suc n → (r : Step) (o o' : List ℕ) (c' : Cursor) → row_room ≤ length o
      → Gives key font ed lay s c o r o' → (r.cursor.place ≤ length s → r.cursor.ended ≡ true → c'.ended ≡ true)
      → (r.cursor.place ≤ length s → length s < r.cursor.place + n → c'.ended ≡ true) → c'.ended ≡ true
  unfolding counted_on
  ends_on c f n k r o o' c' g p stop on = by c.ended refl
    where
      counted-place : (v : Bool) (number closing : ℕ) → (number == 0) ≡ v → (counted_on c number closing).place ≡ closing
      counted-place true number closing v = rw v refl
      counted-place false number closing v = rw v refl

      within : (y : Bool) → c.ended ≡ false → ends (next_span s c.place) ≡ y → c'.ended ≡ true
      within true e y =
          let x = row_written c o o' r (last_row_text c.lines c.refused) (ended_at c (length s))
          (given_is (told key font lay) ed s c (length o) (ready c (length o) f g) false e ∙ next-is (told key font lay) ed s c true y) p in
          stop (rw x.1 (omega arith)) (ap (λ (v : Cursor). v.ended) x.1)
      within false e y =
          let x = row_written c o o' r (reading_row (next_reading (told key font lay) ed s c.place))
          (counted_on c (row_number (next_reading (told key font lay) ed s c.place)) (next_span s c.place).closing)
          (given_is (told key font lay) ed s c (length o) (ready c (length o) f g) false e ∙ next-is (told key font lay) ed s c false y) p in
          let at : r.cursor.place ≡ (next_span s c.place).closing = ap (λ (v : Cursor). v.place) x.1
          ∙ counted-place (row_number (next_reading (told key font lay) ed s c.place) == 0) (row_number (next_reading (told key font lay) ed s c.place))
          (next_span s c.place).closing refl in
          on (omega (arith, at, (moves s c.place y).1)) (omega (arith, at, k, (moves s c.place y).0))

      by : (b : Bool) → c.ended ≡ b → c'.ended ≡ true
      by true e =
          let same : r.cursor ≡ c = ap (λ (x : Step). x.cursor) (p.0 ∙ ap step_of (given_is (told key font lay) ed s c (length o) (ready c (length o) f g)
          true e)) in
          stop (rw same f) (ap (λ (x : Cursor). x.ended) same ∙ e)
      by false e = within (ends (next_span s c.place)) e refl

  -- more calls than the stream has bytes from there on come to the last row
  pub rows_end : {n : ℕ} {w : List ℕ} {c c' : Cursor} → c.place ≤ length s → length s < c.place + n → Calls key font ed lay s n c w c' → c'.ended ≡ true
  rows_end f k none = absurd (omega (arith, f, k))
  rows_end {c = c} {c'} f k (next {n} r o o' g p q) =
      ends_on c f n k r o o' c' g p (λ x y. ap (λ (v : Cursor). v.ended) (over-after x y q).1 ∙ y) (λ x y. rows_end x y q)

-- any number of calls can be made: `next_row` takes every cursor
pub record Made (key font : List ℕ) (ed : ℕ) (lay : Layout) (s : List ℕ) (n : ℕ) (c : Cursor) : Type 0 where
  pub written : List ℕ
  pub last : Cursor
  pub calls : Calls key font ed lay s n c written last

buffer : List ℕ
buffer = replicate row_room 0

room : row_room ≤ length buffer
unfolding buffer
room = omega (arith, length-replicate {A = ℕ} row_room 0)

pub calls-made : (key font : List ℕ) (ed : ℕ) (lay : Layout) (s : List ℕ) (n : ℕ) (c : Cursor) → Made key font ed lay s n c
calls-made key font ed lay s zero c = record { written = []; last = c; calls = none }
calls-made key font ed lay s (suc n) c =
    let x = given (told key font lay) ed s c (length buffer) in
    let more = calls-made key font ed lay s n (step_of x).cursor in
    record {
      written = take (listed_length (step_of x).answer) (over x.row buffer) ++ more.written;
      last = more.last;
      calls = next (step_of x) buffer (over x.row buffer) room (refl, refl) more.calls;
    }
