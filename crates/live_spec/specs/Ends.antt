-- What was cut off at the ends of a stream: the bytes before its first mark, all where there is none, and those behind its last, none where there is
-- none; of a whole stream, and as the numbers of a link tell it. Assumes nothing: these are definitions.
use Rattle.std.specs.Prelude.{not, cond, List, [], ◌∷◌, ℕ, ◌+◌, eqb, Some, None, Option}
use Rattle.frame_stuff_spec.specs.Stuffing.{mark}
use Rattle.live_spec.specs.declared.Numbers.{Numbers}
use Rattle.live_spec.specs.declared.Cut.{Cut}
use Rattle.live_spec.specs.Taking.{possible, unfinished}

-- the place of the first mark, or all bytes
unfoldable pub before_first : List ℕ → ℕ
before_first [] = 0
before_first (b ∷ s) = cond (eqb b mark) 0 (before_first s + 1)

-- the bytes behind the last mark, with k of them behind the last so far
unfoldable pub since_mark : ℕ → List ℕ → ℕ
since_mark k [] = k
since_mark k (b ∷ s) = cond (eqb b mark) (since_mark 0 s) (since_mark (k + 1) s)

unfoldable pub behind_last : List ℕ → ℕ
behind_last [] = 0
behind_last (b ∷ s) = cond (eqb b mark) (since_mark 0 s) (behind_last s)

-- so many bytes before the first mark, and so many behind the last
abbrev pub cut_at : ℕ → ℕ → Option Cut
cut_at n k = Some (record { before = n; behind = k })

-- of a whole stream
abbrev pub ends_of : List ℕ → Option Cut
ends_of s = cut_at (before_first s) (behind_last s)

-- as the last call tells them; 1 for numbers that no taking-in gives
unfoldable pub ends_answer : Numbers → Option Cut
ends_answer n =
    cond (not (possible n)) None
    (cond (eqb n.marked 0) (cut_at n.received 0) (cut_at n.mark (unfinished n)))

-- the number, and each of the two, 0 where the call is refused
abbrev pub ends_number : Option Cut → ℕ
ends_number None = 1
ends_number (Some c) = 0
