-- Fields (document 01, 'A frame and a stream'): a one-byte tag, a two-byte length, high byte first, and the value; put together, and found
-- first in some bytes. Frames and glyph bundles are made of them, each with its own rule of the lengths that a tag takes.
-- Assumes nothing: these are definitions.
use Rattle.std.specs.Prelude.{Bool, false, cond, List, [], ◌∷◌, ℕ, ◌+◌, ◌*◌, ◌/◌, ◌%◌, eqb, leb, ltb, length, take, drop}
use Rattle.std.proofs.lemmas.List.Edits.{sets}

-- what stands before a value: a tag of one byte and a length of two
abbrev pub head_length : ℕ
head_length = 3

-- what one in the high byte of a length counts
abbrev pub high_byte : ℕ
high_byte = 256

-- the tag, the length with its high byte first, and the value
unfoldable pub field : ℕ → List ℕ → List ℕ
field tag value = tag ∷ length value / high_byte ∷ length value % high_byte ∷ value

-- what stands first in some bytes: a field's value with what is behind the field, or no such field
pub data Front : Type 0 where
  value : List ℕ → List ℕ → Front
  no_field : Front

-- a value of n bytes, if there are as many
abbrev pub value_of : ℕ → List ℕ → Front
value_of n s = cond (leb n (length s)) (value (take n s) (drop n s)) no_field

-- the field with this tag, if it stands first: the tag, a length that the tag's rule takes, and as many bytes
unfoldable pub front : (ℕ → ℕ → Bool) → ℕ → List ℕ → Front
front takes tag [] = no_field
front takes tag (t ∷ []) = no_field
front takes tag (t ∷ high ∷ []) = no_field
front takes tag (t ∷ high ∷ low ∷ s) =
    cond (eqb t tag)
    (cond (takes t (high * high_byte + low)) (value_of (high * high_byte + low) s) no_field)
    no_field

-- whether a field with the value v has room at a place of the buffer o, and two bytes say how long v is
abbrev pub has_room : List ℕ → ℕ → List ℕ → Bool
has_room o at v = cond (ltb (length v) (high_byte * high_byte)) (leb (at + head_length + length v) (length o)) false

-- a field written at a place of the buffer o: the place behind it, and the buffer; where it has no room, that place and o as they were
unfoldable pub field_end : List ℕ → ℕ → ℕ → List ℕ → ℕ
field_end o at tag v = cond (has_room o at v) (at + length (field tag v)) at

unfoldable pub field_out : List ℕ → ℕ → ℕ → List ℕ → List ℕ
field_out o at tag v = cond (has_room o at v) (sets o at (field tag v)) o
