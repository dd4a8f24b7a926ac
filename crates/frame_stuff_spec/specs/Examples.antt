-- Document 01's own stretches, computed: bad stuffing, and what a well-stuffed escape stands for. Assumes nothing.
use Rattle.std.specs.Prelude.{◌≡◌, refl, [], ◌∷◌, Some, None}
use Rattle.frame_stuff_spec.specs.Stuffing.{stuffed, unstuffed}
use Rattle.frame_stuff_spec.specs.Rules.{length_outside}

pub other-after-escape : length_outside (0x7D ∷ 0x41 ∷ []) ≡ None
unfolding length_outside
other-after-escape = refl

pub dangling-escape : length_outside (0x41 ∷ 0x7D ∷ []) ≡ None
unfolding length_outside
dangling-escape = refl

pub mark-in-stretch : length_outside (0x41 ∷ 0x7E ∷ []) ≡ None
unfolding length_outside
mark-in-stretch = refl

pub escaped-mark : length_outside (0x7D ∷ 0x5E ∷ []) ≡ Some 1
unfolding length_outside
escaped-mark = refl

pub both-stuffed : stuffed (0x7E ∷ 0x7D ∷ 0x41 ∷ []) ≡ 0x7D ∷ 0x5E ∷ 0x7D ∷ 0x5D ∷ 0x41 ∷ []
unfolding stuffed
both-stuffed = refl

pub both-unstuffed : unstuffed (0x7D ∷ 0x5E ∷ 0x7D ∷ 0x5D ∷ 0x41 ∷ []) ≡ 0x7E ∷ 0x7D ∷ 0x41 ∷ []
unfolding unstuffed
both-unstuffed = refl
