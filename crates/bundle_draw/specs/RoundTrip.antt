-- `make` undoes `show`: the drawing of a bundle is taken for a drawing, and its bundle is the one that was drawn. Assumes nothing.
use Rattle.std.specs.Prelude.{◌≡◌, Bool, ℕ, zero, suc, ◌+◌, ◌-◌, ◌*◌, ◌/◌, ◌%◌, ◌≤◌, ◌<◌, eqb, leb, drop, Ok}
use Rattle.std.proofs.Math.Path.{refl, ap, ap₂}
use Rattle.std.proofs.Common.{sym, ◌∙◌, suc-le-suc, not-suc-le-zero, le_of_suc-le-suc, eqb→eq, ltb→lt}
use Rattle.std.proofs.Math.Bool.{true, false, cond}
use mathlib.Core.List.{List, [], ◌∷◌}
use native.Mathlib.Omega.{arith}
use Rattle.std.proofs.Math.Dec.{ltb}
use Rattle.std.proofs.Math.ListN.{length, get_or}
use borrow.Author.Tests.{eq-eqb, ne_eqb, lt-ltb, le-ltb, leb-true, ltb-true}
use Rattle.base_lists.specs.Never.{never}
use Rattle.base_lists.specs.Table.{at}
use Rattle.base_lists.specs.Below.{Below, below_at, below-take, below-drop}
use Rattle.base_lists.specs.Buffers.{over}
use Rattle.base_hex.specs.Hex.{digit}
use Rattle.bundle_spec.specs.Bundles.{longest_name, characters, all_rows, row_bound, dotted}
use Rattle.bundle_spec.specs.Lengths.{longest_bundle, name-taken}
use Rattle.bundle_read.specs.Answers.{read_answer}
use Rattle.bundle_read.proofs.Exactly.{read-written}
use Rattle.bundle_write.specs.Answers.{name_part, name_in, write_answer, write_out}
use Rattle.bundle_write.specs.Exactly.{rows_over, name-given, all-given, bundle-written-read}
use Rattle.bundle_dots.specs.Lines.{newline, blank, unprinted, line_length, line_end, weights, dot_of, line_char}
use Rattle.bundle_draw.specs.Drawing.{name_word, word_length, legible, digit_at, name_line_length, name_char, row_char, char_at, drawing_length, listed, drawing}
use Rattle.bundle_draw.specs.Listed.{length-listed, get_d-listed, listed-agree, listed-self}
use Rattle.bundle_dots.specs.Faults.{next_row, fault}
use Rattle.bundle_draw.specs.Making.{end_of, name_length_of, hex_value, name_byte, dot_value, row_byte, row_from}
use Rattle.bundle_draw.specs.Making.{name_drawn, rows_drawn, fault_row, of_written, make_answer, make_out}
use Rattle.bundle_draw.specs.Drawn.{make-written}

-- a text ends its first line at the first newline
first-newline : (t : List ℕ) (e : ℕ) → e < length t → ((i : ℕ) → i < e → get_or t i 0 ≡ newline → ⊥) → get_or t e 0 ≡ newline → end_of t ≡ e
unfolding end_of
first-newline [] e h none is = absurd (not-suc-le-zero h)
first-newline (b ∷ s) zero h none is = rw (eq-eqb b newline is)
first-newline (b ∷ s) (suc e) h none is =
    rw (ne_eqb b newline (none zero (omega arith))) (ap suc (first-newline s e (le_of_suc-le-suc h) (λ i g. none (suc i) (suc-le-suc g)) is))

-- a text that says what the rule says has no row at fault
no-fault : (f : ℕ → ℕ) (left i row : ℕ) (s : List ℕ) → length s ≡ left → ((k : ℕ) → k < left → get_or s k 0 ≡ f (i + k)) → fault f left i row s ≡ 0
unfolding fault
no-fault f zero i row [] l e = refl
no-fault f zero i row (b ∷ s) l e = absurd (omega arith)
no-fault f (suc left) i row [] l e = absurd (omega arith)
no-fault f (suc left) i row (b ∷ s) l e =
    let here : i + 0 ≡ i = omega arith in
    rw (eq-eqb b (f i) (e zero (omega arith) ∙ ap f here))
    (no-fault f left (i + 1) (next_row row b) s (omega arith) (λ k h. let on : i + suc k ≡ i + 1 + k = omega arith in e (suc k) (suc-le-suc h) ∙ ap f on))

-- digits and their values
sixteen : List ℕ
sixteen = 0 ∷ 1 ∷ 2 ∷ 3 ∷ 4 ∷ 5 ∷ 6 ∷ 7 ∷ 8 ∷ 9 ∷ 10 ∷ 11 ∷ 12 ∷ 13 ∷ 14 ∷ 15 ∷ []

valued : ℕ → ℕ → Bool
valued k x = eqb (hex_value (digit k)) k

digit_value : (k : ℕ) → k < 16 → hex_value (digit k) ≡ k
unfolding hex_value sixteen valued
digit_value k h = eqb→eq (hex_value (digit k)) k (at valued sixteen tt k h)

-- a row and its dots
abbrev counted : ℕ → ℕ
counted r =
    dot_value (dot_of r 64) 64 + dot_value (dot_of r 32) 32 + dot_value (dot_of r 16) 16 + dot_value (dot_of r 8) 8 + dot_value (dot_of r 4) 4 + dot_value (dot_of r 2) 2
    + dot_value (dot_of r 1) 1

kept : ℕ → ℕ → Bool
kept k x = eqb (counted k) k

row-counted : (k : ℕ) → k < 128 → counted k ≡ k
unfolding dot_value dot_of kept listed
row-counted k h = eqb→eq (counted k) k (at kept (listed (λ x. x) 128) tt k h)

-- rows of seven dots are below 128
dotted-at : (r : List ℕ) (k : ℕ) → dotted r ≡ true → k < length r → get_or r k 0 < row_bound
unfolding dotted
dotted-at [] k e h = absurd (not-suc-le-zero h)
dotted-at (x ∷ r) k e h = go (ltb x row_bound) refl e k h (dotted-at r)
  where
    go : (t : Bool) → ltb x row_bound ≡ t → cond t (dotted r) false ≡ true → (k : ℕ) → k < length (x ∷ r)
        → ((k : ℕ) → dotted r ≡ true → k < length r → get_or r k 0 < row_bound) → get_or (x ∷ r) k 0 < row_bound
    go true p e zero h rest = ltb-true x row_bound p
    go true p e (suc k) h rest = rest k e (le_of_suc-le-suc h)
    go false p e k h rest = never e

-- the name of bytes is bytes
name-bytes : (b : List ℕ) → Below 256 b → Below 256 (name_in b)
unfolding name_in
name-bytes b h = below-take 256 (name_part b).length (drop (name_part b).first b) (below-drop 256 (name_part b).first b h)

-- what stands in a name's line before its newline is none
above : ℕ → ℕ → Bool
above i x = ltb newline x

word-above : (i : ℕ) → i < word_length → newline < get_or name_word i 0
unfolding above
word-above i h = ltb→lt newline (get_or name_word i 0) (at above name_word tt i h)

digit-above : (k : ℕ) → newline < digit k
digit-above k = go (ltb k 10)
  where
    go : (t : Bool) → newline < cond t (0x30 + k) (0x37 + k)
    go true = omega arith
    go false = omega arith

legible-above : (b : ℕ) → newline < legible b
unfolding legible
legible-above b = go (leb 0x20 b) refl (leb b 0x7E)
  where
    go : (t : Bool) → leb 0x20 b ≡ t → (u : Bool) → newline < cond t (cond u b unprinted) unprinted
    go true e true = omega (arith, leb-true 0x20 b e)
    go true e false = omega arith
    go false e u = omega arith

module _ (name : List ℕ) where
  line-above : (i : ℕ) → i < 3 * length name + 6 → newline < name_char name i
  unfolding name_char digit_at
  line-above i h = go (ltb i word_length) refl (ltb i (2 * length name + 5)) (eqb i (2 * length name + 5))
    where
      go : (t : Bool) → ltb i word_length ≡ t → (u v : Bool)
          → newline < cond t (get_or name_word i 0)
          (cond u (digit_at name (i - word_length)) (cond v blank (cond (ltb i (3 * length name + 6)) (legible (get_or name (i - (2 * length name + 6)) 0))
          newline)))
      go true e u v = word-above i (ltb-true i word_length e)
      go false e true v =
          digit-above (cond (eqb ((i - word_length) % 2) 0) (get_or name ((i - word_length) / 2) 0 / 16 % 16) (get_or name ((i - word_length) / 2) 0 % 16))
      go false e false true = omega arith
      go false e false false = rw (lt-ltb i (3 * length name + 6) h) (legible-above (get_or name (i - (2 * length name + 6)) 0))

  -- the digits of byte i
  first-digit : (i : ℕ) → i < length name → name_char name (2 * i + 5) ≡ digit (get_or name i 0 / 16 % 16)
  unfolding name_char digit_at
  first-digit i h =
      let place : 2 * i + 5 - word_length ≡ 2 * i = omega arith in
      let even : 2 * i % 2 ≡ 0 = omega arith in
      let half : 2 * i / 2 ≡ i = omega arith in
      rw (le-ltb (2 * i + 5) word_length (omega arith), lt-ltb (2 * i + 5) (2 * length name + 5) (omega arith), place, even, half)

  second-digit : (i : ℕ) → i < length name → name_char name (2 * i + 6) ≡ digit (get_or name i 0 % 16)
  unfolding name_char digit_at
  second-digit i h =
      let place : 2 * i + 6 - word_length ≡ 2 * i + 1 = omega arith in
      let odd : (2 * i + 1) % 2 ≡ 1 = omega arith in
      let half : (2 * i + 1) / 2 ≡ i = omega arith in
      rw (le-ltb (2 * i + 6) word_length (omega arith), lt-ltb (2 * i + 6) (2 * length name + 5) (omega arith), place, odd, half)

  line-end : name_char name (3 * length name + 6) ≡ newline
  unfolding name_char
  line-end =
      rw (
        le-ltb (3 * length name + 6) word_length (omega arith),
        le-ltb (3 * length name + 6) (2 * length name + 5) (omega arith),
        ne_eqb (3 * length name + 6) (2 * length name + 5) (λ e. omega (arith, e)),
        le-ltb (3 * length name + 6) (3 * length name + 6) (omega arith),
      )

module _ (name r : List ℕ) (short : length name ≤ longest_name) (bytes : Below 256 name) (rows_are : length r ≡ all_rows) (dots : dotted r ≡ true) where
  abbrev D : List ℕ
  D = drawing name r

  place_is : (i : ℕ) → i < drawing_length (length name) → get_or D i 0 ≡ char_at name r i
  unfolding drawing
  place_is i h = get_d-listed (char_at name r) (drawing_length (length name)) i h

  in-line : (i : ℕ) → i < name_line_length (length name) → get_or D i 0 ≡ name_char name i
  unfolding char_at
  in-line i h = place_is i (omega arith) ∙ rw (lt-ltb i (name_line_length (length name)) h)

  length-is : length D ≡ drawing_length (length name)
  unfolding drawing
  length-is = length-listed (char_at name r) (drawing_length (length name))

  ends : end_of D ≡ 3 * length name + 6
  ends =
      first-newline D (3 * length name + 6) (omega (arith, length-is))
      (λ i h e. omega (arith, line-above name i h, sym (in-line i (omega arith)) ∙ e))
      (in-line (3 * length name + 6) (omega arith) ∙ line-end name)

  long : name_length_of (end_of D) ≡ length name
  unfolding name_length_of
  long =
      let third : (3 * length name + 6 - 6) / 3 ≡ length name = omega arith in
      rw (ends, third, le-ltb longest_name (length name) short)

  byte-is : (i : ℕ) → i < length name → name_byte D i ≡ get_or name i 0
  unfolding name_byte
  byte-is i h =
      let b : get_or name i 0 < 256 = below_at 256 name i bytes h in
      let high : get_or D (2 * i + 5) 0 ≡ digit (get_or name i 0 / 16 % 16) = in-line (2 * i + 5) (omega arith) ∙ first-digit name i h in
      let low : get_or D (2 * i + 6) 0 ≡ digit (get_or name i 0 % 16) = in-line (2 * i + 6) (omega arith) ∙ second-digit name i h in
      rw (high, low, digit_value (get_or name i 0 / 16 % 16) (omega arith), digit_value (get_or name i 0 % 16) (omega arith)) (omega arith)

  name_back : name_drawn D ≡ name
  unfolding name_drawn
  name_back = ap (listed (name_byte D)) long ∙ listed-agree (name_byte D) (λ k. get_or name k 0) (length name) byte-is ∙ listed-self name

  dot_at : (k m : ℕ) → k < all_rows → 1 < m → m < 9
      → get_or D (line_length * k + name_line_length (length name) + m) 0 ≡ dot_of (get_or r k 0) (get_or weights m 0)
  unfolding char_at row_char line_char
  dot_at k m h lo hi =
      let i = line_length * k + name_line_length (length name) + m in
      let place : i - name_line_length (length name) ≡ line_length * k + m = omega arith in
      let line : (line_length * k + m) / line_length ≡ k = omega arith in
      let column : (line_length * k + m) % line_length ≡ m = omega arith in
      place_is i (omega arith)
      ∙ rw (
        le-ltb i (name_line_length (length name)) (omega arith),
        place,
        line,
        column,
        ne_eqb m 0 (λ e. omega (arith, e)),
        ne_eqb m 1 (λ e. omega (arith, e)),
        ne_eqb m line_end (λ e. omega (arith, e)),
      )

  row_is : (k : ℕ) → k < all_rows → row_byte D (line_length * k + name_line_length (length name)) ≡ get_or r k 0
  unfolding row_byte
  row_is k h =
      rw (
        dot_at k 2 h (omega arith) (omega arith),
        dot_at k 3 h (omega arith) (omega arith),
        dot_at k 4 h (omega arith) (omega arith),
        dot_at k 5 h (omega arith) (omega arith),
        dot_at k 6 h (omega arith) (omega arith),
        dot_at k 7 h (omega arith) (omega arith),
        dot_at k 8 h (omega arith) (omega arith),
      )
      (row-counted (get_or r k 0) (dotted-at r k dots (omega arith)))

  rows_back : rows_drawn D ≡ r
  unfolding rows_drawn
  rows_back =
      ap (λ (m : ℕ). listed (row_from D (name_line_length m)) all_rows) long
      ∙ listed-agree (row_from D (name_line_length (length name))) (λ k. get_or r k 0) all_rows row_is
      ∙ ap (listed (λ k. get_or r k 0)) (sym rows_are) ∙ listed-self r

  no-row : fault_row D ≡ 0
  unfolding fault_row drawing
  no-row =
      ap₂ (λ (x y : List ℕ). fault (char_at x y) (drawing_length (length x)) 0 1 D) name_back rows_back
      ∙ no-fault (char_at name r) (drawing_length (length name)) 0 1 D length-is
      (λ k h. let from : 0 + k ≡ k = omega arith in place_is k h ∙ ap (char_at name r) (sym from))

-- `make` of the drawing of a bundle gives the bundle back, in any buffer with room, whatever bytes its name holds
pub make-show : (b o : List ℕ) (n : ℕ) → Below 256 b → read_answer b ≡ Ok n → longest_bundle ≤ length o
    → (make_answer (drawing (name_in b) (rows_over b characters)) o ≡ Ok (length b))
    × (make_out (drawing (name_in b) (rows_over b characters)) o ≡ over b o)
make-show b o n bytes e room =
    let w = read-written b n e in
    let name-is : name_in b ≡ w.name = ap name_in w.is ∙ name-given w.name w.rows w.fits w.unlike in
    let rows_are : rows_over b characters ≡ w.rows =
    ap (λ (s : List ℕ). rows_over s characters) w.is ∙ all-given w.name w.rows w.fits w.unlike in
    let short : length (name_in b) ≤ longest_name = rw name-is (name-taken (length w.name) w.fits.name-rule).1 in
    let all : length (rows_over b characters) ≡ all_rows = ap length rows_are ∙ w.fits.rows_are in
    let dots : dotted (rows_over b characters) ≡ true = ap dotted rows_are ∙ w.fits.dots in
    let text = drawing (name_in b) (rows_over b characters) in
    let given = name-bytes b bytes in
    let told = make-written text o (no-row (name_in b) (rows_over b characters) short given all dots) in
    let name-back' = name_back (name_in b) (rows_over b characters) short given all dots in
    let rows-back' = rows_back (name_in b) (rows_over b characters) short given all dots in
    let done = bundle-written-read b o n e room in (
      sym told.0 ∙ ap₂ (λ (x y : List ℕ). of_written (write_answer x y o)) name-back' rows-back' ∙ ap of_written done.0,
      sym told.1 ∙ ap₂ (λ (x y : List ℕ). write_out x y o) name-back' rows-back' ∙ done.1,
    )
