-- A row of orders: the nonce as hexadecimal digits, a blank, the line (docs/compose.md). Assumes nothing: these are definitions.
use Rattle.std.specs.Prelude.{cond, List, [], ◌∷◌, ℕ, suc, ◌+◌, ◌*◌, eqb, ltb, length, take, Some, None, Option}
use Rattle.frame_body.specs.Fields.{nonce_length}
use Rattle.base_hex.specs.Hex.{all_digits, bytes_from}

abbrev pub blank : ℕ
blank = 0x20

-- two digits for each byte of a nonce
abbrev pub nonce_digits : ℕ
nonce_digits = 2 * nonce_length

-- the place of the first blank, or the length
unfoldable pub blank_at : List ℕ → ℕ
blank_at [] = 0
blank_at (b ∷ s) = cond (eqb b blank) 0 (suc (blank_at s))

-- the line begins behind the blank; a row that ends with its nonce has an empty one
abbrev pub line_at : List ℕ → ℕ
line_at row = cond (ltb nonce_digits (length row)) (nonce_digits + 1) nonce_digits

-- the first blank stands behind exactly a nonce's digits
unfoldable pub order_of : List ℕ → Option ℕ
order_of row = cond (eqb (blank_at row) nonce_digits) (cond (all_digits (take nonce_digits row)) (Some (line_at row)) None) None

abbrev pub nonce_of : List ℕ → List ℕ
nonce_of row = bytes_from row 0 nonce_length

-- document 01's number: a row without a nonce is one whose nonce is not of 12 bytes
abbrev pub order_number : Option ℕ → ℕ
order_number (Some n) = 0
order_number None = 2
