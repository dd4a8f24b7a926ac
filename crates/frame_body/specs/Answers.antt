-- What `field_at` tells and `judge_body` answers. Assumes nothing: these are definitions.
use Rattle.std.specs.Prelude.{List, ℕ, ◌+◌, ◌*◌, ◌≤◌, ◌<◌, ◌≡◌, length, drop, Some, None, Option}
use Rattle.base_fields.specs.Fields.{Front, value, no_field, front, head_length, high_byte}
use Rattle.frame_body.specs.declared.Edition.{Edition}
use Rattle.frame_body.specs.declared.Edition.TheVariants.{One, Two}
use Rattle.frame_body.specs.Fields.{takes, Fields, fields, no_body}

-- a place told for the field looked for at a place of n bytes: it is behind the field, or past the end of the bytes for no field
abbrev pub Ends : ℕ → ℕ → ℕ → Front → Type 0
Ends n at r (value v s) = r ≡ at + head_length + length v
Ends n at r no_field = n < r

-- the place r told for the field with this tag at a place of b; it is never farther off than the longest value that can be written
pub record Found (b : List ℕ) (tag at r : ℕ) : Type 0 where
  pub ends : Ends (length b) at r (front takes tag (drop at b))
  pub near : r ≤ length b + high_byte * high_byte

-- what bytes are as a body, told: the edition and the length of the line ciphertext fix every place
abbrev pub judged : Fields → Option (Edition × ℕ)
judged (fields own digest cipher seal) = Some (own.edition, length cipher)
judged no_body = None

-- document 01's number of each answer ('Numbers returned')
abbrev pub judge_number : Option (Edition × ℕ) → ℕ
judge_number (Some (e, n)) = 0
judge_number None = 7

-- an edition's number, as a reading carries it (order W6)
abbrev pub edition_number : Edition → ℕ
edition_number One = 1
edition_number Two = 2
