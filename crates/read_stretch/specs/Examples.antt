-- Document 01's own streams, computed: those with no stretch ('Acceptance table') and the listing program's two stretches.
-- Assumes nothing.
use Rattle.std.specs.Prelude.{◌≡◌, refl, List, [], ◌∷◌, ℕ}
use Rattle.read_stretch.specs.Stretches.{span, after_mark, before_mark, next_span, next_stretch}

pub no_bytes : next_span [] 0 ≡ span 0 0
unfolding next_span before_mark after_mark
no_bytes = refl

pub one-mark : next_span (0x7E ∷ []) 0 ≡ span 1 1
unfolding next_span before_mark after_mark
one-mark = refl

pub two-marks : next_span (0x7E ∷ 0x7E ∷ []) 0 ≡ span 2 2
unfolding next_span before_mark after_mark
two-marks = refl

pub no-opening : next_span (0x41 ∷ 0x7E ∷ []) 0 ≡ span 2 2
unfolding next_span before_mark after_mark
no-opening = refl

pub no-closing : next_span (0x7E ∷ 0x41 ∷ []) 0 ≡ span 2 2
unfolding next_span before_mark after_mark
no-closing = refl

-- 7E 41 7E 7E 7D 7E ('The listing program')
abbrev pub listing : List ℕ
listing = 0x7E ∷ 0x41 ∷ 0x7E ∷ 0x7E ∷ 0x7D ∷ 0x7E ∷ []

pub listing-first : next_span listing 0 ≡ span 1 2
unfolding next_span before_mark after_mark
listing-first = refl

pub listing-second : next_span listing 2 ≡ span 4 5
unfolding next_span before_mark after_mark
listing-second = refl

pub listing-end : next_span listing 5 ≡ span 6 6
unfolding next_span before_mark after_mark
listing-end = refl

-- from inside a stretch that stretch is passed over
pub inside-passed : next_span listing 1 ≡ span 4 5
unfolding next_span before_mark after_mark
inside-passed = refl

-- from beyond the end, the empty part at the end
pub beyond : next_stretch listing 7 ≡ []
unfolding next_stretch next_span before_mark after_mark
beyond = refl
