-- Text laid into a buffer part behind part, and the parts of a row. Assumes nothing.
use mathlib.Core.Path.{◌≡◌, refl, ap, ◌∙◌}
use mathlib.Core.Bool.{Bool, true, false, cond}
use mathlib.Core.List.{List, [], ◌∷◌, ◌++◌, append_assoc}
use Prim.Native.Nat.{ℕ, zero, suc, ◌+◌, ◌-◌, ◌/◌, ◌%◌, ◌≤◌, ◌<◌}
use native.Mathlib.Omega.{arith}
use lib.Dec.{eqb, ltb}
use lib.ListN.{length, set, take, drop, length-append, length-take, length-drop}
use lib.Seq.{sets, length-sets}
use borrow.Author.Tests.{lt-ltb, le-ltb, eqb-true, eq-eqb, ne_eqb}
use Rattle.base_lists.specs.Buffers.{copied}
use Rattle.base_lists.specs.Over.{over-part, copied_all}
use Rattle.line_spec.specs.Lines.{longest}
use Rattle.tool_row.specs.Rows.{blank, newline, zero_digit, digits_in, most_digits, decimal, line_text, row_text, lines_word, refused_word, last_row_text, row_room}

-- what is written at a place, and then what is written behind it, is written there as one
sets_more : (f g o : List ℕ) (at k : ℕ) → k ≡ at + length f → sets (sets o at f) k g ≡ sets o at (f ++ g)
sets_more [] g o at k e = let same : k ≡ at = omega arith in rw same
sets_more (a ∷ f) g o at k e = sets_more f g (set o at a) (suc at) k (omega arith)

-- w is laid in o from place at on, and ends at place r
pub record Laid (o : List ℕ) (at : ℕ) (w out : List ℕ) (r : ℕ) : Type 0 where
  pub held : out ≡ sets o at w
  pub ends : r ≡ at + length w

pub laid_none : (o : List ℕ) (at : ℕ) → Laid o at [] o at
laid_none o at = record { held = refl; ends = omega arith }

pub laid-length : {o w out : List ℕ} {at r : ℕ} → Laid o at w out r → length out ≡ length o
laid-length {o} {w} {out} {at} l = ap length l.held ∙ length-sets o at w

-- more laid behind
pub laid_more : {o w out out' : List ℕ} {at r r' : ℕ} (f : List ℕ) → Laid o at w out r → r' ≡ r + length f → out' ≡ sets out r f
    → Laid o at (w ++ f) out' r'
laid_more {o} {w} {out} {out'} {at} {r} {r'} f l e g = record {
  held = g ∙ rw l.held (sets_more w f o at r l.ends);
  ends = e ∙ omega (arith, l.ends, length-append w f);
}

-- room for f behind w, where n bytes are to be laid
pub laid-room : {o w out : List ℕ} {at r n : ℕ} (f : List ℕ) → Laid o at w out r → at + n ≤ length o → length w + length f ≤ n → r + length f ≤ length out
laid-room {o} {w} {out} {at} {r} f l h g = omega (arith, l.ends, laid-length l)

-- a copy into the part that starts at a place
pub copied-laid : (at : ℕ) (s o out : List ℕ) → at + length s ≤ length o → out ≡ copied s (take (length o - at) (drop at o))
    → (at + length s ≡ at + length s) × (take at o ++ (out ++ drop (length o - at) (drop at o)) ≡ sets o at s)
copied-laid at s o out h e =
    (refl, rw (e, copied_all s (take (length o - at) (drop at o)) (simp (length-take, length-drop) (omega arith))) (over-part at s o h))

-- digits: one, and one more behind the others
digits-one : (k n : ℕ) → 0 < k → n < 10 → digits_in k n ≡ (zero_digit + n) ∷ []
unfolding digits_in
digits-one zero n p h = absurd (omega arith)
digits-one (suc k) n p h = rw (lt-ltb n 10 h)

digits_more : (k n : ℕ) → 0 < k → 10 ≤ n → digits_in k n ≡ digits_in (k - 1) (n / 10) ++ ((zero_digit + n % 10) ∷ [])
unfolding digits_in
digits_more zero n p h = absurd (omega arith)
digits_more (suc k) n p h = let e : suc k - 1 ≡ k = omega arith in rw (le-ltb n 10 h, e)

digits-length : (k n : ℕ) → length (digits_in k n) ≤ k
unfolding digits_in
digits-length zero n = omega arith
digits-length (suc k) n = go (ltb n 10) (digits_in k (n / 10)) (digits-length k (n / 10))
  where
    go : (t : Bool) (d : List ℕ) → length d ≤ k → length (cond t ((zero_digit + n) ∷ []) (d ++ ((zero_digit + n % 10) ∷ []))) ≤ suc k
    go true d h = omega arith
    go false d h = simp length-append (omega arith)

-- the writer of digits, return by return: k is none, n is one digit, n is more
module _ (k n at : ℕ) (o : List ℕ) where
  abbrev pub Written : ℕ → List ℕ → Type 0
  Written r out = (r ≡ at + length (digits_in k n)) × (out ≡ sets o at (digits_in k n))

  pub written_none : k ≡ 0 → Written at o
  unfolding digits_in
  written_none e = rw e (omega arith, refl)

  pub long-one : (k ≡ 0 → ⊥) → n < 10 → length (digits_in k n) ≡ 1
  long-one p h = rw (digits-one k n (omega (arith, p)) h)

  pub written_one : (k ≡ 0 → ⊥) → n < 10 → Written (at + 1) (set o at (zero_digit + n))
  written_one p h = rw (digits-one k n (omega (arith, p)) h) (refl, refl)

  pub long-more : (k ≡ 0 → ⊥) → 10 ≤ n → length (digits_in k n) ≡ length (digits_in (k - 1) (n / 10)) + 1
  long-more p h = rw (digits_more k n (omega (arith, p)) h) (length-append (digits_in (k - 1) (n / 10)) ((zero_digit + n % 10) ∷ []))

  pub written-more : (k ≡ 0 → ⊥) → 10 ≤ n → {e : ℕ} {out : List ℕ} → e ≡ at + length (digits_in (k - 1) (n / 10))
      → out ≡ sets o at (digits_in (k - 1) (n / 10)) → Written (e + 1) (set out e (zero_digit + n % 10))
  written-more p h {e} {out} i g =
      rw (digits_more k n (omega (arith, p)) h) (
        omega (arith, i, length-append (digits_in (k - 1) (n / 10)) ((zero_digit + n % 10) ∷ [])),
        rw g (sets_more (digits_in (k - 1) (n / 10)) ((zero_digit + n % 10) ∷ []) o at e i),
      )

-- the line behind its blank, or nothing
module _ (number : ℕ) (line o : List ℕ) (at : ℕ) where
  pub line-long : number ≡ 0 → length (line_text number line) ≡ 1 + length line
  unfolding line_text
  line-long e = rw (eq-eqb number 0 e) (omega arith)

  pub line-given : number ≡ 0 → {r r' : ℕ} {out out' : List ℕ} → r ≡ at + 1 → out ≡ sets o at (blank ∷ []) → r' ≡ r + length line → out' ≡ sets out r line
      → (r' ≡ at + length (line_text number line)) × (out' ≡ sets o at (line_text number line))
  unfolding line_text
  line-given z {r} {r'} {out} {out'} e g e' g' =
      let l = laid_more line (laid_more (blank ∷ []) (laid_none o at) e g) e' g' in
      rw (eq-eqb number 0 z) (l.ends, l.held)

  pub line-none : (number ≡ 0 → ⊥) → (at ≡ at + length (line_text number line)) × (o ≡ sets o at (line_text number line))
  unfolding line_text
  line-none n = rw (ne_eqb number 0 n) (omega arith, refl)

-- the number's digits and the line together: one digit where there is a line
tail-most : (number : ℕ) (line : List ℕ) → length line ≤ longest → length (decimal number) + length (line_text number line) ≤ 2 + longest
unfolding line_text
tail-most number line h = go (eqb number 0) refl
  where
    go : (t : Bool) → eqb number 0 ≡ t → length (decimal number) + length (cond t (blank ∷ line) []) ≤ 2 + longest
    go true e = omega (arith, ap length (digits-one most_digits number (omega arith) (omega (arith, eqb-true number 0 e))))
    go false e = omega (arith, digits-length most_digits number)

pub row-length : (place number : ℕ) (line : List ℕ)
    → length (row_text place number line) ≡ length (decimal place) + 1 + length (decimal number) + length (line_text number line) + 1
unfolding row_text
row-length place number line = simp length-append (omega arith)

pub row-most : (place number : ℕ) (line : List ℕ) → length line ≤ longest → length (row_text place number line) ≤ row_room
row-most place number line h = omega (arith, row-length place number line, digits-length most_digits place, tail-most number line h)

pub last-length : (lines refused : ℕ) → length (last_row_text lines refused) ≡ 6 + length (decimal lines) + 9 + length (decimal refused) + 1
unfolding last_row_text
last-length lines refused = simp length-append (omega arith)

pub last-most : (lines refused : ℕ) → length (last_row_text lines refused) ≤ row_room
last-most lines refused = omega (arith, last-length lines refused, digits-length most_digits lines, digits-length most_digits refused)

-- what is laid of a row after each part, and that there is room for the next
module _ (place number : ℕ) (line : List ℕ) where
  abbrev pub row1 : List ℕ
  row1 = decimal place

  abbrev pub row2 : List ℕ
  row2 = row1 ++ (blank ∷ [])

  abbrev pub row3 : List ℕ
  row3 = row2 ++ decimal number

  abbrev pub row4 : List ℕ
  row4 = row3 ++ line_text number line

  pub row-parts : row4 ++ (newline ∷ []) ≡ row_text place number line
  unfolding row_text
  row-parts = simp append_assoc

  pub has_row_room : length line ≤ longest
      → (length row1 ≤ row_room) × (length row1 + 1 ≤ row_room) × (length row2 + length (decimal number) ≤ row_room)
      × (length row3 + length (line_text number line) ≤ row_room) × (length row4 + 1 ≤ row_room)
  has_row_room h =
      let most = row-most place number line h in
      let whole = row-length place number line in
      let two = length-append row1 (blank ∷ []) in
      let three = length-append row2 (decimal number) in
      let four = length-append row3 (line_text number line) in (
        omega (arith, most, whole),
        omega (arith, most, whole),
        omega (arith, most, whole, two),
        omega (arith, most, whole, two, three),
        omega (arith, most, whole, two, three, four),
      )

-- and of the last row
module _ (lines refused : ℕ) where
  abbrev pub last1 : List ℕ
  last1 = lines_word

  abbrev pub last2 : List ℕ
  last2 = last1 ++ decimal lines

  abbrev pub last3 : List ℕ
  last3 = last2 ++ refused_word

  abbrev pub last4 : List ℕ
  last4 = last3 ++ decimal refused

  pub last-parts : last4 ++ (newline ∷ []) ≡ last_row_text lines refused
  unfolding last_row_text
  last-parts = simp append_assoc

  pub last-room : (length last1 + length (decimal lines) ≤ row_room) × (length last2 + length refused_word ≤ row_room)
      × (length last3 + length (decimal refused) ≤ row_room) × (length last4 + 1 ≤ row_room)
  last-room =
      let most = last-most lines refused in
      let whole = last-length lines refused in
      let two = length-append last1 (decimal lines) in
      let three = length-append last2 refused_word in
      let four = length-append last3 (decimal refused) in (
        omega (arith, most, whole),
        omega (arith, most, whole, two),
        omega (arith, most, whole, two, three),
        omega (arith, most, whole, two, three, four),
      )
