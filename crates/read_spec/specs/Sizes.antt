-- What the reader is told, with its sizes (document 01, number 2). Assumes nothing: these are definitions.
use Rattle.std.specs.Prelude.{◌≡◌, length}
use Rattle.frame_spec.specs.Told.{key_length, Told}
use Rattle.frame_body.specs.Fields.{digest_length}

-- key and font digest have their sizes
pub record Sizes (t : Told) : Type 0 where
  pub key-is : length t.key ≡ key_length
  pub font-is : length t.font ≡ digest_length
