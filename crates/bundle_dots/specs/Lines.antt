-- The line of a row of a drawing: the character, a blank, seven dots, the newline. Assumes nothing: these are definitions.
use Rattle.std.specs.Prelude.{cond, List, [], ◌∷◌, ℕ, ◌/◌, ◌%◌, eqb, get_or}

-- the bytes of a drawing that are not a bundle's: a line's end, a blank, a dot that is printed and one that is not
abbrev pub newline : ℕ
newline = 0x0A

abbrev pub blank : ℕ
blank = 0x20

abbrev pub printed : ℕ
printed = 0x23

abbrev pub unprinted : ℕ
unprinted = 0x2E

-- the line of a row has ten bytes, the last of which is its newline
abbrev pub line_length : ℕ
line_length = 10

abbrev pub line_end : ℕ
line_end = 9

-- what the dot at place m of a line counts in its row; the dots stand at places 2 to 8
abbrev pub weights : List ℕ
weights = 1 ∷ 1 ∷ 64 ∷ 32 ∷ 16 ∷ 8 ∷ 4 ∷ 2 ∷ 1 ∷ 1 ∷ []

-- whether a row has the dot that counts w
unfoldable pub dot_of : ℕ → ℕ → ℕ
dot_of r w = cond (eqb (r / w % 2) 1) printed unprinted

-- place m of the line of the row r of the character c: the character, a blank, seven dots, the newline
unfoldable pub line_char : ℕ → ℕ → ℕ → ℕ
line_char c r m =
    cond (eqb m 0) c
    (cond (eqb m 1) blank
    (cond (eqb m line_end) newline
    (dot_of r (get_or weights m 0))))
