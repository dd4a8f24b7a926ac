-- One call of `press_row` after some bytes of a link: what it writes are the rows of what is read with the bytes that it takes, and they are counted. From
-- its promise alone. Assumes nothing.
use Rattle.std.specs.Prelude.{◌≡◌, Bool, cond, List, [], ◌∷◌, map, ℕ, ◌+◌, ◌≤◌, ◌<◌, eqb, take}
use Rattle.std.proofs.Math.Path.{refl, sym, ap, ap₂}
use Rattle.std.proofs.Common.{◌∙◌, append-nil, mod-eq_of_lt}
use Rattle.std.proofs.Math.Bool.{true, false}
use native.Mathlib.Omega.{arith}
use Rattle.std.proofs.Math.ListN.{length}
use borrow.Author.Tests.{le-ltb}
use Rattle.base_lists.specs.Buffers.{over}
use Rattle.base_lists.specs.Over.{take-over}
use Rattle.line_spec.specs.Lines.{longest}
use Rattle.line_layout.specs.declared.Layout.TheVariants.{Neither}
use Rattle.frame_spec.specs.Told.{Told, told}
use Rattle.read_spec.specs.Editions.{one_alone}
use Rattle.read_spec.specs.Judged.{number_in, line_in, Judged, shape, stuffing, font, work, seal, unlisted, trade, layout, line}
use Rattle.read_spec.specs.Sizes.{Sizes}
use Rattle.read_readings.specs.Readings.{Reading, reading, ends}
use Rattle.read_call.specs.declared.Asked.{Asked}
use Rattle.read_call.specs.Answers as read-answers
use Rattle.read_call.specs.Answers.{answer_of, line_over, length_of}
use Rattle.demand_reading.proofs.GivenWritten.{told-sized}
use Rattle.tool_row.specs.Rows.{row_text, row_room}
use Rattle.tool_listing.specs.Listing.{reading_row, row_number, zeros_in, others_in, joined, all_asked}
use Rattle.tool_listing.specs.Steps.{one_more}
use Rattle.live_spec.specs.declared.Numbers.{Numbers}
use Rattle.live_spec.specs.Taking.{Taken, taken_in}
use Rattle.live_spec.specs.Steps.{most_bytes, judged_in, Found, waits, closed, found_in, found, step_of, window_of, line_of}
use Rattle.live_spec.specs.After.{After}
use Rattle.live_spec.proofs.After.{possible-is}
use Rattle.live_spec.proofs.Pieces.{its, new_of}
use Rattle.tool_press.specs.declared.Press.{Press}
use Rattle.tool_press.specs.declared.Turn.{Turn}
use Rattle.tool_press.specs.Pressing.{press_at, counted, row_of, rowed, own, pressed, press_window, press_row, pressed_length}
use Rattle.tool_pressing.specs.Turns.{Presses, written, Turned}

-- one more, below 2^64
small : (n : ℕ) → n < most_bytes → one_more n ≡ n + 1
small n h = mod-eq_of_lt (omega arith)

number_is : (j : Judged) → read-answers.answer_number (answer_of j) ≡ number_in j
number_is shape = refl
number_is stuffing = refl
number_is font = refl
number_is work = refl
number_is (seal n) = refl
number_is (unlisted n) = refl
number_is (trade n) = refl
number_is (layout n) = refl
number_is (line frame l n) = refl

line-is : (j : Judged) (l : List ℕ) → take (length_of (answer_of j)) (line_over j l) ≡ line_in j
line-is shape l = refl
line-is stuffing l = refl
line-is font l = refl
line-is work l = refl
line-is (seal n) l = refl
line-is (unlisted n) l = refl
line-is (trade n) l = refl
line-is (layout n) l = refl
line-is (line frame x n) l = take-over x l (length x) refl

-- the counts of one row more
one-counted : (c : Press) (n : Numbers) (r : Reading) → c.lines < most_bytes → c.refused < most_bytes
    → counted c n (row_number r) ≡ press_at n (c.lines + zeros_in (row_number r ∷ [])) (c.refused + others_in (row_number r ∷ []))
unfolding counted zeros_in others_in
one-counted c n r a b = go (eqb (row_number r) 0)
  where
    go : (x : Bool) → cond x (press_at n (one_more c.lines) c.refused) (press_at n c.lines (one_more c.refused))
        ≡ press_at n (c.lines + cond x 1 0) (c.refused + cond x 0 1)
    go true = let z : c.refused ≡ c.refused + 0 = omega arith in ap₂ (press_at n) (small c.lines a) z
    go false = let z : c.lines ≡ c.lines + 0 = omega arith in ap₂ (press_at n) z (small c.refused b)

module _ (c : Press) (w o l : List ℕ) (k : Taken) (j : Judged) (a : c.lines < most_bytes) (b : c.refused < most_bytes) where
  abbrev either : Bool → Found
  either x = cond x (waits k) (closed k j)

  abbrev new : Bool → List Reading
  new x = cond x [] (reading k.place j ∷ [])

  abbrev row : List ℕ
  row = row_text k.place.first (read-answers.answer_number (answer_of j)) (take (length_of (answer_of j)) (line_over j l))

  row_is : row ≡ reading_row (reading k.place j)
  row_is = ap₂ (row_text k.place.first) (number_is j) (line-is j l)

  by-found : (x : Bool) → Turned c k (new x) (rowed c (step_of c.numbers (either x)) (line_of l (either x))) (window_of w (either x))
      (over (row_of (step_of c.numbers (either x)) (line_of l (either x))) o)
  unfolding zeros_in others_in joined
  by-found true =
      let z : c.lines ≡ c.lines + 0 = omega arith in
      let y : c.refused ≡ c.refused + 0 = omega arith in
      record { press-is = ap₂ (press_at k.behind) z y; took-is = refl; window-is = refl; rows_are = refl }
  by-found false = record {
    press-is = ap (counted c k.behind) (number_is j) ∙ one-counted c k.behind (reading k.place j) a b;
    took-is = refl;
    window-is = refl;
    rows_are = take-over row o (length row) refl ∙ row_is ∙ sym (append-nil (reading_row (reading k.place j)));
  }

module _ (key digest : List ℕ) (z : Sizes (told key digest Neither)) where
  abbrev pub t : Told
  t = told key digest Neither

  abbrev pub asked : Asked
  asked = all_asked one_alone Neither

  module _ {s : List ℕ} {c : Press} {w : List ℕ} {g : List Reading} (x : After (its t asked) s c.numbers w g) (a : c.lines < most_bytes)
      (b : c.refused < most_bytes) where
    pub turned : (p o : List ℕ) (r : Turn) (w' o' : List ℕ) → length s + length p ≤ most_bytes → row_room ≤ length o
        → Presses key digest c w p o r w' o' → Turned c (taken_in c.numbers w p) (new_of t asked (taken_in c.numbers w p)) r w' o'
    unfolding found pressed press_window press_row
    turned p o r w' o' h room y =
        let n = c.numbers in
        let k = taken_in n w p in
        let j = judged_in t asked k.window k.place in
        let few : n.received + length p ≤ most_bytes = omega (arith, h, x.received_is) in
        let is : found t asked n w p (length (own longest)) ≡ found_in t asked k =
        rw (possible-is x, told-sized t z.key-is z.font-is, le-ltb most_bytes (n.received + length p) few) in
        let m = by-found c w o (own longest) k j a b (ends k.place) in
        let r-is : r ≡ rowed c (step_of n (found_in t asked k)) (line_of (own longest) (found_in t asked k)) =
        y.0 ∙ rw (le-ltb (length o) row_room room) (ap (λ (f : Found). rowed c (step_of n f) (line_of (own longest) f)) is) in
        let w-is : w' ≡ window_of w (found_in t asked k) = y.1.0 ∙ rw (le-ltb (length o) row_room room) (ap (window_of w) is) in
        let o_is : o' ≡ over (row_of (step_of n (found_in t asked k)) (line_of (own longest) (found_in t asked k))) o =
        y.1.1 ∙ rw (le-ltb (length o) row_room room) (ap (λ (f : Found). over (row_of (step_of n f) (line_of (own longest) f)) o) is) in
        record {
          press-is = ap (λ (v : Turn). v.press) r-is ∙ m.press-is;
          took-is = ap (λ (v : Turn). v.took) r-is ∙ m.took-is;
          window-is = w-is ∙ m.window-is;
          rows_are = ap₂ written r-is o_is ∙ m.rows_are;
        }
