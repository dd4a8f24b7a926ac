-- A row of a listing (document 01, 'The listing program'): the place of a stretch's first byte, its number, and for number 0 the line, one blank between;
-- and the last row, `lines L refused F`. A newline ends each. Assumes nothing: these are definitions.
use Rattle.std.specs.Prelude.{cond, List, [], ◌∷◌, ◌++◌, ℕ, zero, suc, ◌+◌, ◌/◌, ◌%◌, eqb, ltb}
use Rattle.line_spec.specs.Lines.{longest}

abbrev pub blank : ℕ
blank = 0x20

abbrev pub newline : ℕ
newline = 0x0A

-- the digit 0; the others follow it
abbrev pub zero_digit : ℕ
zero_digit = 0x30

-- the last k decimal digits of n, without zeros before it
unfoldable pub digits_in : ℕ → ℕ → List ℕ
digits_in zero n = []
digits_in (suc k) n = cond (ltb n 10) ((zero_digit + n) ∷ []) (digits_in k (n / 10) ++ ((zero_digit + n % 10) ∷ []))

-- no number of 64 bits has more digits
abbrev pub most_digits : ℕ
most_digits = 20

abbrev pub decimal : ℕ → List ℕ
decimal n = digits_in most_digits n

-- number 0 has the line behind a blank, and no other number has it
unfoldable pub line_text : ℕ → List ℕ → List ℕ
line_text number line = cond (eqb number 0) (blank ∷ line) []

unfoldable pub row_text : ℕ → ℕ → List ℕ → List ℕ
row_text place number line = decimal place ++ (blank ∷ []) ++ decimal number ++ line_text number line ++ (newline ∷ [])

-- `lines ` and ` refused `
abbrev pub lines_word : List ℕ
lines_word = 0x6C ∷ 0x69 ∷ 0x6E ∷ 0x65 ∷ 0x73 ∷ 0x20 ∷ []

abbrev pub refused_word : List ℕ
refused_word = 0x20 ∷ 0x72 ∷ 0x65 ∷ 0x66 ∷ 0x75 ∷ 0x73 ∷ 0x65 ∷ 0x64 ∷ 0x20 ∷ []

unfoldable pub last_row_text : ℕ → ℕ → List ℕ
last_row_text lines refused = lines_word ++ decimal lines ++ refused_word ++ decimal refused ++ (newline ∷ [])

-- room for every row: the digits of a place, a blank, 0, a blank, the longest line, a newline
abbrev pub row_room : ℕ
row_room = most_digits + 1 + 1 + 1 + longest + 1
