-- Looking up in an index (order W10): the entry at an index, which counts from 0, and the entry of the k-th line, where k counts from 1.
-- Assumes nothing: these are definitions.
use Rattle.std.specs.Prelude.{cond, List, [], ◌∷◌, ℕ, zero, suc, ◌+◌, eqb, ltb, length, take, get_or}
use Rattle.index_spec.specs.Entries.{most_entries, entry_place, entry_number}
use Rattle.index_entry.specs.declared.Entry.{Entry}
use Rattle.index_entry.specs.declared.Line.{Line}

-- only entries below the count, 512 and the table's length count
unfoldable pub looked_at : List ℕ → ℕ → List ℕ
looked_at table count = take count (take most_entries table)

-- there is none: all 0
abbrev pub no_entry : Entry
no_entry = record { there = 0; number = 0; place = 0 }

abbrev pub entry_is : ℕ → Entry
entry_is e = record { there = 1; number = entry_number e; place = entry_place e }

unfoldable pub entry_at : List ℕ → ℕ → ℕ → Entry
entry_at table count index = cond (ltb index (length (looked_at table count))) (entry_is (get_or (looked_at table count) index 0)) no_entry

abbrev pub no_line : Line
no_line = record { there = 0; index = 0; place = 0 }

abbrev pub line_is : ℕ → ℕ → Line
line_is i e = record { there = 1; index = i; place = entry_place e }

-- the next line is the one
unfoldable pub or_later : ℕ → Line → (ℕ → Line) → Line
or_later zero here later = here
or_later (suc left) here later = later left

-- of entries, the first of which has index i, the line behind so many others that are left to pass
unfoldable pub line_from : ℕ → ℕ → List ℕ → Line
line_from i left [] = no_line
line_from i left (e ∷ l) =
    cond (eqb (entry_number e) 0) (or_later left (line_is i e) (λ n. line_from (i + 1) n l)) (line_from (i + 1) left l)

unfoldable pub line_at : List ℕ → ℕ → ℕ → Line
line_at table count zero = no_line
line_at table count (suc k) = line_from 0 k (looked_at table count)
