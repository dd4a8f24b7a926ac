-- What each return of `count`, `row_for` and `press_row` gives. Assumes nothing.
use Rattle.std.specs.Prelude.{Ok, Err, Some, Result, Option}
use Rattle.std.proofs.Common.{◌≡◌, ℕ, ◌+◌, ◌-◌, ◌<◌, ◌≤◌, Bool, true, false, cond, not, ltb, List, [], length, take, drop, sym, refl, ap, ◌∙◌, subst, ap₂, arith, length-append, length-take-le, le-ltb, lt-ltb, eq-eqb, ne_eqb}
use Rattle.read_call.specs.declared.Answer.{Answer as ReadAnswer}
use Rattle.base_lists.specs.Buffers.{over}
use Rattle.line_spec.specs.Lines.{longest}
use Rattle.line_layout.specs.declared.Layout.TheVariants.{Neither}
use Rattle.frame_spec.specs.Told.{told}
use Rattle.read_spec.specs.Editions.{one_alone}
use Rattle.read_spec.specs.Judged.{Judged, shape, stuffing, font, work, seal, unlisted, trade, layout, line}
use Rattle.read_call.specs.declared.Answer as read_answer
use Rattle.read_call.specs.declared.Asked.{Asked}
use Rattle.read_call.specs.Answers.{sized_told, answer_number, length_of}
use Rattle.frame_spec.specs.Told.{Told}
use Rattle.tool_row.specs.Rows.{row_text, row_room}
use Rattle.tool_row.specs.Answers.{row_answer, row_out}
use Rattle.tool_row.specs.Done.{row_done}
use Rattle.tool_row.specs.declared.RowRefusal.{RowRefusal}
use Rattle.tool_listing.specs.Listing.{all_asked}
use Rattle.tool_listing.specs.Steps.{one_more}
use Rattle.live_spec.specs.declared.Numbers.{Numbers}
use Rattle.live_spec.specs.declared.LiveRefusal.{LiveRefusal}
use Rattle.live_spec.specs.declared.LiveRefusal.TheVariants as answer-is
use Rattle.live_spec.specs.declared.Step.{Step}
use Rattle.live_spec.specs.Taking.{possible, Taken, taken_in}
use Rattle.live_spec.specs.Steps.{most_bytes, judged_in, Found, refused, waits, closed, found, step_of, line_of}
use Rattle.read_readings.specs.Readings.{ends}
use Rattle.tool_press.specs.declared.Press.{Press}
use Rattle.tool_press.specs.declared.PressRefusal.{PressRefusal}
use Rattle.tool_press.specs.declared.Turn.{Turn}
use Rattle.tool_press.specs.Pressing.{press_at, counted, turn, pressed_by, length_for, row_for, row_of, rowed_for, rowed}
use Rattle.tool_press.specs.Pressing.{own, step_with, window_with, line_with, no_row, pressed, press_window, press_row}

-- one row more, by its number
module _ (c : Press) (n : Numbers) (number : ℕ) where
  pub line-counted : number ≡ 0 → {k : ℕ} → k ≡ one_more c.lines → press_at n k c.refused ≡ counted c n number
  unfolding counted
  line-counted z e = rw (eq-eqb number 0 z) (ap (λ (i : ℕ). press_at n i c.refused) e)

  pub refusal-counted : (number ≡ 0 → ⊥) → {k : ℕ} → k ≡ one_more c.refused → press_at n c.lines k ≡ counted c n number
  unfolding counted
  refusal-counted z e = rw (ne_eqb number 0 z) (ap (λ (i : ℕ). press_at n c.lines i) e)

module _ (c : Press) (s : Step) (l o : List ℕ) where
  -- what `row_for` shows
  abbrev pub Rowed : Turn → List ℕ → Type 0
  Rowed r o' = (r ≡ rowed c s l) × (o' ≡ over (row_of s l) o)

  -- where there is no row
  pub no-row : (a : Result (Option ReadAnswer) LiveRefusal) → s.answer ≡ a → row_for a s l ≡ [] → (r : Turn) → r ≡ rowed_for a c s l → Rowed r o
  no-row a e z r q = (
    q ∙ ap (λ (x : Result (Option ReadAnswer) LiveRefusal). rowed_for x c s l) (sym e),
    ap (λ (x : List ℕ). over x o) (sym (ap (λ (x : Result (Option ReadAnswer) LiveRefusal). row_for x s l) e ∙ z)),
  )

  -- the row of a stretch
  pub one-row : (a : read_answer.Answer) → s.answer ≡ Ok (Some a) → length_for s.answer ≤ length l → length l ≤ longest → row_room ≤ length o
      → (i : ℕ) → i ≡ answer_number a → (k : ℕ) → k ≡ length_of a
      → (x : Result ℕ RowRefusal) → x ≡ row_answer s.first i (take (k - 0) (drop 0 l)) o → (o' : List ℕ) → o' ≡ row_out s.first i (take (k - 0) (drop 0 l)) o
      → (d : Result (Option ℕ) PressRefusal) → d ≡ pressed_by x → (m : Press) → m ≡ counted c s.numbers i → Rowed (turn m s.took d) o'
  one-row a e fit few room i ie k ke x xe o' oe d de m me =
      let z : k - 0 ≡ length_of a = omega (arith, ke) in
      let f : length_of a ≤ length l = subst (λ (y : Result (Option ReadAnswer) LiveRefusal). length_for y ≤ length l) e fit in
      let w = take (length_of a) l in
      let short : length w ≤ longest = omega (arith, length-take-le (length_of a) l f, f, few) in
      let done = row_done s.first (answer_number a) w o short room in
      let row = row_text s.first (answer_number a) w in
      let x-is : x ≡ Ok (length row) = xe ∙ rw (z, ie) done.0 in
      let o_is : o' ≡ over row o = oe ∙ rw (z, ie) done.1 in
      let d-is : d ≡ Ok (Some (length row)) = de ∙ ap pressed_by x-is in
      let m-is : m ≡ counted c s.numbers (answer_number a) = me ∙ ap (counted c s.numbers) ie in (
        ap₂ (λ (y : Press) (v : Result (Option ℕ) PressRefusal). turn y s.took v) m-is d-is ∙ ap (λ (y : Result (Option ReadAnswer) LiveRefusal). rowed_for y c s l) (sym e),
        o_is ∙ ap (λ (y : Result (Option ReadAnswer) LiveRefusal). over (row_for y s l) o) (sym e),
      )

-- the part of the buffer that is the line
pub its-part : (s : Step) (l : List ℕ) (a : read_answer.Answer) → s.answer ≡ Ok (Some a) → length_for s.answer ≤ length l → (k : ℕ) → k ≡ length_of a
    → k ≤ length l
its-part s l a e fit k ke = omega (arith, ke, subst (λ (y : Result (Option ReadAnswer) LiveRefusal). length_for y ≤ length l) e fit)

-- the line that a step gives fits its buffer
module _ (n : Numbers) (l : List ℕ) where
  given-fits : (k : Taken) (j : Judged) → length_for (step_of n (closed k j)).answer ≤ length (line_of l (closed k j))
  given-fits k shape = omega arith
  given-fits k stuffing = omega arith
  given-fits k font = omega arith
  given-fits k work = omega arith
  given-fits k (seal i) = omega arith
  given-fits k (unlisted i) = omega arith
  given-fits k (trade i) = omega arith
  given-fits k (layout i) = omega arith
  given-fits k (line own x i) = omega (arith, length-append x (drop (length x) l))

  module _ (t : Told) (a : Asked) (w p : List ℕ) where
    -- what is found, by the tests of a step
    abbrev found_if : Bool → Bool → Bool → Bool → Bool → Found
    found_if x y z v e =
        cond x (refused (Err answer-is.Numbers))
        (cond y (refused (Err answer-is.Sizes))
        (cond z (refused (Err answer-is.TooLong))
        (cond v (refused (Err answer-is.NoRoom))
        (cond e (waits (taken_in n w p)) (closed (taken_in n w p) (judged_in t a (taken_in n w p).window (taken_in n w p).place))))))

    fits-if : (x y z v e : Bool) → length_for (step_of n (found_if x y z v e)).answer ≤ length (line_of l (found_if x y z v e))
    fits-if true y z v e = omega arith
    fits-if false true z v e = omega arith
    fits-if false false true v e = omega arith
    fits-if false false false true e = omega arith
    fits-if false false false false true = omega arith
    fits-if false false false false false = given-fits (taken_in n w p) (judged_in t a (taken_in n w p).window (taken_in n w p).place)

    pub line-fits : length_for (step_of n (found t a n w p (length l))).answer ≤ length (line_of l (found t a n w p (length l)))
    unfolding found
    line-fits = fits-if (not (possible n)) (not (sized_told t)) (ltb most_bytes (n.received + length p)) (ltb (length l) longest) (ends (taken_in n w p).place)

-- so too of a step that was made
pub fitting : (key digest : List ℕ) (c : Press) (w p : List ℕ) (s : Step) → s ≡ step_with key digest c w p longest → (l : List ℕ)
    → l ≡ line_with key digest c w p longest
    → length_for s.answer ≤ length l
fitting key digest c w p s e l f = rw (e, f) (line-fits c.numbers (own longest) (told key digest Neither) (all_asked one_alone Neither) w p)

module _ (key font : List ℕ) (c : Press) (w p o : List ℕ) where
  abbrev pub Shown : Turn → List ℕ → List ℕ → Type 0
  Shown r w' o' = (r ≡ pressed key font c w p (length o)) × ((w' ≡ press_window key font c w p (length o)) × (o' ≡ over (press_row key font c w p (length o)) o))

  pub refused-row : length o < row_room → (s : Step) → s ≡ step_with key font c w p 1 → (w' : List ℕ) → w' ≡ window_with key font c w p 1
      → (r : Turn) → r ≡ no_row c s.answer → Shown r w' o
  unfolding pressed press_window press_row
  refused-row h s e w' f r q = rw (lt-ltb (length o) row_room h) (q ∙ ap (λ (x : Step). no_row c x.answer) e, (f, refl))

  pub done-row : row_room ≤ length o → (s : Step) → s ≡ step_with key font c w p longest → (w' : List ℕ) → w' ≡ window_with key font c w p longest
      → (l : List ℕ) → l ≡ line_with key font c w p longest → (r : Turn) (o' : List ℕ) → Rowed c s l o r o' → Shown r w' o'
  unfolding pressed press_window press_row
  done-row h s e w' f l g r o' q =
      rw (le-ltb (length o) row_room h) (q.0 ∙ ap₂ (rowed c) e g, (f, q.1 ∙ ap₂ (λ (x : Step) (y : List ℕ). over (row_of x y) o) e g))
