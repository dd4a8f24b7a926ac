-- What `lubdhvani_desk_copy` promises of one call, on plain lists (FromContracts.antt beside this has that it is its contract). Assumes nothing: these are
-- definitions.
use Rattle.std.specs.Prelude.{◌≡◌, List, ℕ}
use Rattle.line_layout.specs.Layouts.{layout_of}
use Rattle.frame_spec.specs.Told.{told}
use Rattle.desk_spec.specs.Desk.{desk_call, desk_out}
use Rattle.lubdhvani_desk.specs.Reworking.{reworked_out}
use Rattle.lubdhvani_desk.specs.declared.Reworked.{Reworked}

-- the call, with this stream, table of so many entries, list and output o, under this key, font digest, editions and layout's number, may answer r and
-- leave out
abbrev pub Copies : List ℕ → List ℕ → ℕ → ℕ → List ℕ → List ℕ → ℕ → List ℕ → List ℕ → Reworked → List ℕ → Type 0
Copies key font editions lay s table count list o r out =
    (r ≡ reworked_out (desk_call (told key font (layout_of lay)) editions s table count list o))
    × (out ≡ desk_out (told key font (layout_of lay)) editions s table count list o)
