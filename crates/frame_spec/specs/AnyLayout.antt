-- The layout decides which lines are sealed, and nothing of how: key, font and line are sealed alike under every layout. Assumes nothing.
use Rattle.std.specs.Prelude.{◌≡◌, List, ℕ}
use Rattle.std.proofs.Math.Path.{refl}
use Rattle.line_layout.specs.declared.Layout.{Layout}
use Rattle.frame_body.specs.Fields.{Own}
use Rattle.frame_spec.specs.Told.{Told, told}
use Rattle.frame_spec.specs.Frames.{sealed_line, sealed_body, frame_of}
use Rattle.frame_spec.specs.Lengths.{Sealable}

-- the same key and font with a layout named
abbrev pub under : Layout → Told → Told
under l t = told t.key t.font l

module _ (l : Layout) (t : Told) (own : Own) (line : List ℕ) where
  pub line-under : sealed_line (under l t) own line ≡ sealed_line t own line
  unfolding sealed_line
  line-under = refl

  pub body-under : sealed_body (under l t) own line ≡ sealed_body t own line
  unfolding sealed_body sealed_line
  body-under = refl

  pub frame-under : frame_of (under l t) own line ≡ frame_of t own line
  unfolding frame_of sealed_body sealed_line
  frame-under = refl

  pub sealable-under : Sealable t own line → Sealable (under l t) own line
  sealable-under z = record {
    key-is = z.key-is;
    nonce-is = z.nonce-is;
    job_is = z.job_is;
    font-is = z.font-is;
    line-from = z.line-from;
    line-to = z.line-to;
  }
