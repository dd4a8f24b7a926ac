-- Key, nonce, job, font digest and line of bytes make a frame of bytes. Assumes nothing.
use Rattle.std.specs.Prelude.{List, [], ◌∷◌, ℕ}
use Rattle.std.proofs.Common.{arith}
use Rattle.base_lists.specs.Below.{Below, below-append}
use Rattle.ingage_spec.specs.Instances.{first}
use Rattle.ingage_spec.proofs.Results.{encrypted-below}
use Rattle.frame_body.specs.Fields.{Own, associated}
use Rattle.frame_body.proofs.Bytes.{associated-below, body_below}
use Rattle.frame_stuff_spec.specs.Stuffing.{mark, stuffed}
use Rattle.frame_stuff_spec.specs.Bytes.{stuffed-below}
use Rattle.frame_spec.specs.Told.{Told}
use Rattle.frame_spec.specs.Frames.{sealed_line, sealed_body, framed, frame_of}
use Rattle.frame_spec.specs.Lengths.{Sealable, sealed-sized}

pub framed-below : (b : List ℕ) → Below 256 b → Below 256 (framed b)
unfolding framed
framed-below b h = (omega arith, below-append 256 (stuffed b) (mark ∷ []) (stuffed-below b h) (omega arith, tt))

module _ {t : Told} {own : Own} {line : List ℕ} (z : Sealable t own line)
    (key : Below 256 t.key) (font : Below 256 t.font) (n : Below 256 own.nonce) (j : Below 256 own.job) (l : Below 256 line) where
  sealed-below : Below 256 (sealed_line t own line).text × Below 256 (sealed_line t own line).seal
  unfolding sealed_line
  sealed-below =
      encrypted-below first t.key own.nonce (associated own.edition t.font own.job) key n
      (associated-below own.edition t.font own.job z.font-is z.job_is font j) line l

  pub sealed-body-below : Below 256 (sealed_body t own line)
  unfolding sealed_body
  sealed-body-below = body_below (sealed-sized z) n j font sealed-below.0 sealed-below.1

  pub frame_below : Below 256 (frame_of t own line)
  unfolding frame_of
  frame_below = framed-below (sealed_body t own line) sealed-body-below
