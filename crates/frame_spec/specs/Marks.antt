-- A frame holds marks at its two ends and nowhere else. Assumes nothing.
use Rattle.std.specs.Prelude.{◌≡◌, refl, ◌⊎◌, List, [], ◌∷◌, ℕ, zero, suc, ◌-◌, ◌<◌, length, get_or}
use Rattle.std.proofs.Common.{sym, ◌∙◌, inl, inr, arith}
use Rattle.std.proofs.Math.Decide.{dec_lt}
use Rattle.std.proofs.Math.ListN.{get_or-append}
use Rattle.std.proofs.lemmas.List.{get_or_at}
use Rattle.base_lists.specs.Free.{free-at}
use Rattle.frame_stuff_spec.specs.Stuffing.{mark, stuffed}
use Rattle.frame_stuff_spec.proofs.Marks.{stuffed-free}
use Rattle.frame_body.specs.Fields.{Own}
use Rattle.frame_spec.specs.Told.{Told}
use Rattle.frame_spec.specs.Frames.{sealed_body, framed, frame_of}
use Rattle.frame_spec.specs.Lengths.{length-framed}

pub framed-opens : (b : List ℕ) → get_or (framed b) 0 0 ≡ mark
unfolding framed
framed-opens b = refl

pub framed-closes : (b : List ℕ) → get_or (framed b) (length (framed b) - 1) 0 ≡ mark
unfolding framed
framed-closes b = get_or_at (mark ∷ stuffed b) mark [] 0 (length (framed b) - 1) (omega (arith, length-framed b))

pub framed-marks : (b : List ℕ) (k : ℕ) → k < length (framed b) → get_or (framed b) k 0 ≡ mark → (k ≡ 0) ⊎ (k ≡ length (framed b) - 1)
unfolding framed
framed-marks b zero h e = inl refl
framed-marks b (suc j) h e = elim (dec_lt j (length (stuffed b))) [
  | yes l ↦ absurd (free-at mark (stuffed b) j (stuffed-free b) l (sym (get_or-append (stuffed b) (mark ∷ []) 0 j l) ∙ e))
  | no l ↦ inr (omega (arith, l, length-framed b))
]

pub frame-marks : (t : Told) (own : Own) (line : List ℕ) (k : ℕ) → k < length (frame_of t own line) → get_or (frame_of t own line) k 0 ≡ mark
    → (k ≡ 0) ⊎ (k ≡ length (frame_of t own line) - 1)
unfolding frame_of
frame-marks t own line = framed-marks (sealed_body t own line)
