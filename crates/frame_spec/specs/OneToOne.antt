-- A frame is one to one with its body, and so with what is its own, font digest, ciphertext and seal. Assumes nothing.
use Rattle.std.specs.Prelude.{◌≡◌, List, [], ◌∷◌, ℕ, ◌-◌, length, take, drop}
use Rattle.std.proofs.Common.{sym, ap, ◌∙◌, arith, take_at}
use Rattle.frame_body.specs.Fields.{Own, fields}
use Rattle.frame_body.proofs.OneToOne.{body-one-to-one}
use Rattle.frame_stuff_spec.specs.Stuffing.{mark, stuffed}
use Rattle.frame_stuff_spec.specs.RoundTrip.{stuffed-one-to-one}
use Rattle.frame_spec.specs.Told.{Told}
use Rattle.frame_spec.specs.Frames.{sealed_line, sealed_body, framed, frame_of}
use Rattle.frame_spec.specs.Lengths.{Sealable, length-framed, sealed-sized}

-- what stands between a frame's first byte and its last
unfoldable pub between : List ℕ → List ℕ
between f = take (length f - 2) (drop 1 f)

pub between-framed : (b : List ℕ) → between (framed b) ≡ stuffed b
unfolding between framed
between-framed b = take_at (stuffed b) (mark ∷ []) (length (framed b) - 2) (omega (arith, length-framed b))

pub framed-one-to-one : (a b : List ℕ) → framed a ≡ framed b → a ≡ b
framed-one-to-one a b e = stuffed-one-to-one a b (sym (between-framed a) ∙ ap between e ∙ between-framed b)

-- no two choices of what is the frame's own, font digest, ciphertext and seal have one frame; so no frame is of both editions
pub frame-fields : {t t' : Told} {own own' : Own} {line line' : List ℕ} → Sealable t own line → Sealable t' own' line'
    → frame_of t own line ≡ frame_of t' own' line'
    → fields own t.font (sealed_line t own line).text (sealed_line t own line).seal
    ≡ fields own' t'.font (sealed_line t' own' line').text (sealed_line t' own' line').seal
unfolding frame_of sealed_body
frame-fields {t} {t'} {own} {own'} {line} {line'} z z' e =
    body-one-to-one (sealed-sized z) (sealed-sized z') (framed-one-to-one (sealed_body t own line) (sealed_body t' own' line') e)
