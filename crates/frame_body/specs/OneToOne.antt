-- A body is one to one with its fields: fields put together are taken apart again as they were, and bytes that can be taken apart
-- are these fields put together. Assumes nothing.
use Rattle.std.specs.Prelude.{◌≡◌, List, ℕ}
use Rattle.frame_body.specs.Fields.{body}
use Rattle.frame_body.specs.Fields.{Fields, fields, no_body}
use Rattle.frame_body.specs.Lengths.{Sized}

-- what bytes that are a body say of it
abbrev pub Tells : List ℕ → Fields → Type 0
Tells b (fields own digest cipher seal) = (b ≡ body own digest cipher seal) × Sized own digest cipher seal
Tells b no_body = Unit {0}
