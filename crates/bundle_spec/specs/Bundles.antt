-- Glyph bundles (order W1): a name and fourteen glyphs as fields, made by the writer, and what a bundle is, read from its bytes alone.
-- Assumes nothing: these are definitions.
use Rattle.std.specs.Prelude.{Bool, true, false, cond, List, [], ◌∷◌, ◌++◌, ℕ, zero, suc, eqb, leb, ltb, length, take, drop}
use Rattle.base_lists.specs.Buffers.{same}
use Rattle.base_fields.specs.Fields.{field, Front, value, no_field, front}

-- the fields' tags (tags are hexadecimal): the name
abbrev pub name_tag : ℕ
name_tag = 0x10

-- a glyph
abbrev pub glyph_tag : ℕ
glyph_tag = 0x12

-- a name has 1 to 32 bytes
abbrev pub shortest_name : ℕ
shortest_name = 1

abbrev pub longest_name : ℕ
longest_name = 32

-- a glyph has nine rows, and behind its character byte they are ten bytes
abbrev pub glyph_rows : ℕ
glyph_rows = 9

abbrev pub glyph_length : ℕ
glyph_length = 10

-- a row has seven dots, the top bit zero: it is below this
abbrev pub row_bound : ℕ
row_bound = 128

-- 0 to 9, A to D, in this order
abbrev pub characters : List ℕ
characters = 0x30 ∷ 0x31 ∷ 0x32 ∷ 0x33 ∷ 0x34 ∷ 0x35 ∷ 0x36 ∷ 0x37 ∷ 0x38 ∷ 0x39 ∷ 0x41 ∷ 0x42 ∷ 0x43 ∷ 0x44 ∷ []

-- how many they are, and how many rows they have together
abbrev pub glyph_count : ℕ
glyph_count = 14

abbrev pub all_rows : ℕ
all_rows = 126

-- the decision over the tag byte, which picks the rule of the field: may its value have n bytes?
unfoldable pub takes : ℕ → ℕ → Bool
takes tag n =
    cond (eqb tag name_tag) (cond (leb shortest_name n) (leb n longest_name) false)
    (cond (eqb tag glyph_tag) (eqb n glyph_length) false)

-- the fields of glyphs: a character byte and nine rows each
unfoldable pub glyph_fields : List ℕ → List ℕ → List ℕ
glyph_fields [] rows = []
glyph_fields (c ∷ cs) rows = field glyph_tag (c ∷ take glyph_rows rows) ++ glyph_fields cs (drop glyph_rows rows)

-- the bundle of a name and 126 row bytes: the name, then the fourteen glyphs
unfoldable pub bundle_of : List ℕ → List ℕ → List ℕ
bundle_of name rows = field name_tag name ++ glyph_fields characters rows

-- every row has seven dots
unfoldable pub dotted : List ℕ → Bool
dotted [] = true
dotted (r ∷ rows) = cond (ltb r row_bound) (dotted rows) false

-- what the writer takes (else 11): a name of 1 to 32 bytes, 126 rows, and no top bit
unfoldable pub fitting : List ℕ → List ℕ → Bool
fitting name rows = cond (takes name_tag (length name)) (cond (eqb (length rows) all_rows) (dotted rows) false) false

-- rows as n glyphs
unfoldable pub glyphs_of : ℕ → List ℕ → List (List ℕ)
glyphs_of zero rows = []
glyphs_of (suc n) rows = take glyph_rows rows ∷ glyphs_of n (drop glyph_rows rows)

-- whether a glyph has the same dots as one of these
unfoldable pub among : List ℕ → List (List ℕ) → Bool
among g [] = false
among g (h ∷ hs) = cond (same g h) true (among g hs)

-- whether two of these have the same dots
unfoldable pub repeated : List (List ℕ) → Bool
repeated [] = false
repeated (g ∷ gs) = cond (among g gs) true (repeated gs)

-- two glyphs with the same dots (12)
unfoldable pub alike : List ℕ → Bool
alike rows = repeated (glyphs_of glyph_count rows)

-- the glyph of this character, out of a field's value: the character byte, and rows of seven dots
abbrev pub glyph_of : ℕ → Front → Front
glyph_of c (value [] s) = no_field
glyph_of c (value (d ∷ rows) s) = cond (eqb d c) (cond (dotted rows) (value rows s) no_field) no_field
glyph_of c no_field = no_field

-- what bytes are as the glyphs of some characters, in their order and with nothing behind: their rows, or none
pub data Rows : Type 0 where
  rows : List ℕ → Rows
  no_rows : Rows

-- the rows of one glyph before those of the others
abbrev pub before : List ℕ → Rows → Rows
before v (rows w) = rows (v ++ w)
before v no_rows = no_rows

-- the glyphs behind one that stands first, looked for by `rest`
abbrev pub behind : Front → (List ℕ → Rows) → Rows
behind (value v s) rest = before v (rest s)
behind no_field rest = no_rows

unfoldable pub rows_of : List ℕ → List ℕ → Rows
rows_of [] [] = rows []
rows_of [] (x ∷ s) = no_rows
rows_of (c ∷ cs) s = behind (glyph_of c (front takes glyph_tag s)) (rows_of cs)

-- what bytes are as a bundle, but for glyphs that are alike: a name and rows, or of another shape (11)
pub data Parts : Type 0 where
  parts : (name rows : List ℕ) → Parts
  no-parts : Parts

abbrev pub named : List ℕ → Rows → Parts
named name (rows r) = parts name r
named name no_rows = no-parts

-- the glyphs behind the name
abbrev pub after_name : Front → Parts
after_name (value name s) = named name (rows_of characters s)
after_name no_field = no-parts

unfoldable pub parts_of : List ℕ → Parts
parts_of b = after_name (front takes name_tag b)
