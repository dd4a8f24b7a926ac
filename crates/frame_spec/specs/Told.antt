-- What a writer and a reader are told alike: the key and the font digest (document 01), and the layout of a line (order W7). What a later order
-- adds is a field here.
-- Assumes nothing: these are definitions.
use Rattle.std.specs.Prelude.{List, ℕ}
use Rattle.line_layout.specs.declared.Layout.{Layout}

pub record Told : Type 0 where
  pub key : List ℕ
  pub font : List ℕ
  pub layout : Layout

abbrev pub told : List ℕ → List ℕ → Layout → Told
told key font layout = record { key = key; font = font; layout = layout }

-- the length of a key in bytes (document 01, number 2)
abbrev pub key_length : ℕ
key_length = 16
