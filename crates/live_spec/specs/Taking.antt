-- Taking bytes in, one after the other: the numbers and the window behind each, and the first mark that closes a stretch. The window holds an
-- unfinished stretch's first bytes and no mark. Assumes nothing: these are definitions.
use Rattle.std.specs.Prelude.{Bool, false, cond, List, [], ◌∷◌, ℕ, ◌+◌, ◌-◌, eqb, ltb, leb, set}
use Rattle.frame_stuff_spec.specs.Stuffing.{mark, longest_stretch}
use Rattle.read_stretch.specs.declared.Span.{Span}
use Rattle.read_stretch.specs.Stretches.{span}
use Rattle.live_spec.specs.declared.Numbers.{Numbers}

abbrev pub numbers : ℕ → ℕ → ℕ → ℕ → Numbers
numbers received marked first-mark first = record { received = received; marked = marked; mark = first-mark; first = first }

-- before the first byte
abbrev pub no_bytes : Numbers
no_bytes = numbers 0 0 0 0

-- numbers that a taking-in gives: no mark came, and both places are 0; or one came, and first mark < first byte ≤ received
unfoldable pub possible : Numbers → Bool
possible n =
    cond (eqb n.marked 0) (cond (eqb n.mark 0) (eqb n.first 0) false)
    (cond (eqb n.marked 1) (cond (ltb n.mark n.first) (leb n.first n.received) false) false)

-- how many bytes of the unfinished stretch were received
abbrev pub unfinished : Numbers → ℕ
unfinished n = n.received - n.first

-- a mark closes a stretch where one came before it, and bytes since
unfoldable pub closes : Numbers → Bool
closes n = cond (eqb n.marked 0) false (ltb n.first n.received)

-- behind a mark a stretch may begin; the first mark's place is kept
unfoldable pub behind_mark : Numbers → Numbers
behind_mark n = numbers (n.received + 1) 1 (cond (eqb n.marked 0) n.received n.mark) (n.received + 1)

-- any other byte is counted
abbrev pub behind_byte : Numbers → Numbers
behind_byte n = numbers (n.received + 1) n.marked n.mark n.first

-- and is kept if a mark came before it and the window has room; else it is let go
unfoldable pub kept : Numbers → List ℕ → ℕ → List ℕ
kept n w b = cond (eqb n.marked 0) w (cond (ltb (unfinished n) longest_stretch) (set w (unfinished n) b) w)

-- what is taken in of a piece: the numbers and the window then, how many bytes, and the places of the stretch that was closed; where none was, both
-- are the bytes received
pub record Taken : Type 0 where
  pub behind : Numbers
  pub window : List ℕ
  pub took : ℕ
  pub place : Span

abbrev pub taken : Numbers → List ℕ → ℕ → Span → Taken
taken n w k p = record { behind = n; window = w; took = k; place = p }

-- with so many bytes taken before
abbrev pub more : ℕ → Taken → Taken
more k t = taken t.behind t.window (k + t.took) t.place

-- up to and with the first mark that closes a stretch
unfoldable pub taken_in : Numbers → List ℕ → List ℕ → Taken
taken_in n w [] = taken n w 0 (span n.received n.received)
taken_in n w (b ∷ p) =
    cond (eqb b mark)
    (cond (closes n) (taken (behind_mark n) w 1 (span n.first n.received)) (more 1 (taken_in (behind_mark n) w p)))
    (more 1 (taken_in (behind_byte n) (kept n w b) p))
