-- What stands between the marks of a frame that was written under one font digest is found sealed to another font (8) under any other digest: so
-- too where the digests are those of two bundles. Assumes nothing.
use Rattle.std.specs.Prelude.{◌≡◌, refl, Bool, true, false, List, ℕ}
use Rattle.std.proofs.Math.Path.{ap}
use Rattle.std.proofs.Common.{◌∙◌}
use Rattle.base_lists.specs.Buffers.{same}
use Rattle.base_lists.specs.Sameness.{same-eq}
use Rattle.frame_stuff_spec.specs.Stuffing.{stuffed, unstuffed}
use Rattle.frame_stuff_spec.specs.RoundTrip.{unstuff-stuff}
use Rattle.frame_stuff_spec.proofs.GoodStuffing.{stuff-well}
use Rattle.frame_body.specs.Fields.{Own, fields_of}
use Rattle.frame_body.proofs.OneToOne.{fields-body}
use Rattle.frame_spec.specs.Told.{Told}
use Rattle.frame_spec.specs.Frames.{sealed_line, sealed_body, frame_of}
use Rattle.frame_spec.specs.Lengths.{Sealable, sealed-sized, stretch-within}
use Rattle.frame_spec.specs.OneToOne.{between, between-framed}
use Rattle.read_spec.specs.Editions.{allows, among-allowed}
use Rattle.read_spec.specs.Judged.{font}
use Rattle.read_spec.specs.Judging.{judge}
use Rattle.read_spec.specs.Cases.{Holds}
use Rattle.read_spec.proofs.Cases.{judge-holds}

differ : (a b : List ℕ) → (a ≡ b → ⊥) → same a b ≡ false
differ a b n = go (same a b) refl
  where
    go : (t : Bool) → same a b ≡ t → t ≡ false
    go true e = absurd (n (same-eq a b e))
    go false e = refl

module _ (t t' : Told) (ed : ℕ) (own : Own) (line : List ℕ) (a : Sealable t own line) (y : allows ed own.edition ≡ true)
    (other : t.font ≡ t'.font → ⊥) where
  holds : Holds ed (stuffed (sealed_body t own line)) own t.font (sealed_line t own line).text (sealed_line t own line).seal
  unfolding sealed_body
  holds = (
    record { short = stretch-within a; well = stuff-well (sealed_body t own line) },
    among-allowed ed (fields_of (unstuffed (stuffed (sealed_body t own line)))) (ap fields_of (unstuff-stuff (sealed_body t own line)) ∙ fields-body
        (sealed-sized a)) y,
  )

  -- of each edition, to every reader that allows it
  pub other-font-refused : judge t' ed (between (frame_of t own line)) ≡ font
  unfolding frame_of
  other-font-refused =
      ap (judge t' ed) (between-framed (sealed_body t own line))
      ∙ judge-holds t' ed (stuffed (sealed_body t own line)) holds ∙ rw (differ t.font t'.font other)
