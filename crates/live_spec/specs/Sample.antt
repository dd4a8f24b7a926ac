-- Document 01's stream of two stretches ('The listing program'), 7E 41 7E 7E 7D 7E, computed as it is taken in, cut within the first stretch. Assumes nothing.
use Rattle.std.specs.Prelude.{◌≡◌, List, [], ◌∷◌, ℕ, set}
use Rattle.std.proofs.Math.Path.{refl}
use Rattle.read_stretch.specs.Stretches.{span}
use Rattle.live_spec.specs.Taking.{numbers, no_bytes, possible, closes, behind_mark, kept, taken, taken_in}
use Rattle.live_spec.specs.Ends.{cut_at, before_first, since_mark, behind_last, ends_of, ends_answer}

module _ (w : List ℕ) where
  -- 7E 41: a stretch is begun
  pub begun : taken_in no_bytes w (0x7E ∷ 0x41 ∷ []) ≡ taken (numbers 2 1 0 1) (set w 0 0x41) 2 (span 2 2)
  unfolding taken_in closes behind_mark kept
  begun = refl

  -- 7E 7E 7D 7E: its mark closes it, and the rest of the piece is left
  pub first-closed : taken_in (numbers 2 1 0 1) w (0x7E ∷ 0x7E ∷ 0x7D ∷ 0x7E ∷ []) ≡ taken (numbers 3 1 0 3) w 1 (span 1 2)
  unfolding taken_in closes behind_mark kept
  first-closed = refl

  -- 7E 7D 7E: an empty run, and the second stretch
  pub second-closed : taken_in (numbers 3 1 0 3) w (0x7E ∷ 0x7D ∷ 0x7E ∷ []) ≡ taken (numbers 6 1 0 6) (set w 0 0x7D) 3 (span 4 5)
  unfolding taken_in closes behind_mark kept
  second-closed = refl

-- nothing was cut off
pub nothing-cut : ends_answer (numbers 6 1 0 6) ≡ cut_at 0 0
unfolding ends_answer possible
nothing-cut = refl

-- of 41 7E 41 42 one byte before and two behind
pub cut_off : ends_of (0x41 ∷ 0x7E ∷ 0x41 ∷ 0x42 ∷ []) ≡ cut_at 1 2
unfolding before_first since_mark behind_last
cut_off = refl
