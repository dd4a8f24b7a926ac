-- The drawing of a bundle as text: a line for the name, in hexadecimal digits and behind a blank as it reads, then a line for each of the 126
-- rows: the character, a blank, seven dots. Assumes nothing: these are definitions.
use Rattle.std.specs.Prelude.{cond, List, [], ◌∷◌, ◌++◌, ℕ, zero, suc, ◌+◌, ◌-◌, ◌*◌, ◌/◌, ◌%◌, eqb, leb, ltb, length, get_or}
use Rattle.base_hex.specs.Hex.{digit}
use Rattle.bundle_spec.specs.Bundles.{glyph_rows, characters}
use Rattle.bundle_dots.specs.Lines.{newline, blank, unprinted, line_length, line_char}

-- the word before a name, and its length
abbrev pub name_word : List ℕ
name_word = 0x6E ∷ 0x61 ∷ 0x6D ∷ 0x65 ∷ blank ∷ []

abbrev pub word_length : ℕ
word_length = 5

-- how a byte of a name reads: what is no printing character of ASCII is a dot
unfoldable pub legible : ℕ → ℕ
legible b = cond (leb 0x20 b) (cond (leb b 0x7E) b unprinted) unprinted

-- place j of the digits of a name
unfoldable pub digit_at : List ℕ → ℕ → ℕ
digit_at name j = digit (cond (eqb (j % 2) 0) (get_or name (j / 2) 0 / 16 % 16) (get_or name (j / 2) 0 % 16))

-- the length of the line of a name of n bytes, with its newline
abbrev pub name_line_length : ℕ → ℕ
name_line_length n = 3 * n + 7

-- place i of the line of a name: the word, two digits a byte, a blank, the name as it reads, the newline
unfoldable pub name_char : List ℕ → ℕ → ℕ
name_char name i =
    cond (ltb i word_length) (get_or name_word i 0)
    (cond (ltb i (2 * length name + 5)) (digit_at name (i - word_length))
    (cond (eqb i (2 * length name + 5)) blank
    (cond (ltb i (3 * length name + 6)) (legible (get_or name (i - (2 * length name + 6)) 0))
    newline)))

-- place j of the lines of all rows: row k is of the character k / 9
unfoldable pub row_char : List ℕ → ℕ → ℕ
row_char rows j = line_char (get_or characters (j / line_length / glyph_rows) 0) (get_or rows (j / line_length) 0) (j % line_length)

-- place i of a drawing
unfoldable pub char_at : List ℕ → List ℕ → ℕ → ℕ
char_at name rows i =
    cond (ltb i (name_line_length (length name))) (name_char name i) (row_char rows (i - name_line_length (length name)))

-- the length of the drawing with a name of n bytes, and of the longest
abbrev pub drawing_length : ℕ → ℕ
drawing_length n = 3 * n + 1267

abbrev pub longest_drawing : ℕ
longest_drawing = 1363

-- the list f 0, f 1 .. of n numbers
unfoldable pub listed : (ℕ → ℕ) → ℕ → List ℕ
listed f zero = []
listed f (suc n) = listed f n ++ (f n ∷ [])

-- the drawing of a name and rows
unfoldable pub drawing : List ℕ → List ℕ → List ℕ
drawing name rows = listed (char_at name rows) (drawing_length (length name))
