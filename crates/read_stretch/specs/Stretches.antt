-- Marks, stretches and the next stretch from a place (document 01, 'A frame and a stream'). A stretch is found by its opening mark.
-- Assumes nothing: these are definitions.
use Rattle.std.specs.Prelude.{◌≡◌, Bool, true, false, cond, List, [], ◌∷◌, ℕ, ◌+◌, ◌-◌, eqb, ltb, leb, length, take, drop}
use Rattle.frame_stuff_spec.specs.Stuffing.{mark}
use Rattle.read_stretch.specs.declared.Span.{Span}

-- the place of the first byte and that of the closing mark
abbrev pub span : ℕ → ℕ → Span
span a e = record { first = a; closing = e }

-- what yes and no say of a byte: that it is a mark, and that it is none
abbrev pub SaysMark : Bool → ℕ → Type 0
SaysMark true b = b ≡ mark
SaysMark false b = b ≡ mark → ⊥

-- a mark stands just before place a, none from there up to place i, and the list from place i on: the run between that mark and
-- the next is a stretch if it isn't empty; if it is, the next mark opens
unfoldable pub after_mark : ℕ → ℕ → List ℕ → Span
after_mark a i [] = span i i
after_mark a i (b ∷ s) = cond (eqb b mark) (cond (ltb a i) (span a i) (after_mark (i + 1) (i + 1) s)) (after_mark a (i + 1) s)

-- the list from place i on, no opening mark yet: bytes before the first mark are no stretch
unfoldable pub before_mark : ℕ → List ℕ → Span
before_mark i [] = span i i
before_mark i (b ∷ s) = cond (eqb b mark) (after_mark (i + 1) (i + 1) s) (before_mark (i + 1) s)

-- the places of the next stretch from a place; from beyond the end there is none
unfoldable pub next_span : List ℕ → ℕ → Span
next_span s from = cond (leb from (length s)) (before_mark from (drop from s)) (span (length s) (length s))

-- the bytes that stand at given places
abbrev pub bytes_at : List ℕ → Span → List ℕ
bytes_at s p = take (p.closing - p.first) (drop p.first s)

-- the next stretch itself
unfoldable pub next_stretch : List ℕ → ℕ → List ℕ
next_stretch s from = bytes_at s (next_span s from)
