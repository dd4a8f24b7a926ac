-- Bringing a table up to date (order W10): what it answers, the order's refusals one line each, and what the table then holds.
-- Assumes nothing: these are definitions.
use Rattle.std.specs.Prelude.{not, cond, List, ℕ, zero, suc, ◌+◌, ltb, length, get_or, Ok, Err, Result, ⊤}
use Rattle.std.proofs.lemmas.List.Edits.{sets}
use Rattle.line_layout.specs.declared.Layout.{Layout}
use Rattle.frame_spec.specs.Told.{Told}
use Rattle.read_spec.specs.Judged.{Judged}
use Rattle.read_spec.specs.Ceiling.{all_work}
use Rattle.read_call.specs.declared.Asked.{Asked}
use Rattle.read_call.specs.Answers.{longest_stream, sized_told, judged_within}
use Rattle.index_spec.specs.declared.IndexRefusal.{IndexRefusal}
use Rattle.index_spec.specs.declared.IndexRefusal.TheVariants.{Sizes, TooLong, NoRoom, Count, Beyond, Full}
use Rattle.index_spec.specs.declared.Updated.{Updated}
use Rattle.index_spec.specs.Entries.{most_entries, entry_place, entries_from}

-- what each stretch is asked: every one is allowed all the work it takes
abbrev pub all_asked : ℕ → Layout → Asked
all_asked editions lay = record { editions = editions; allowed = all_work; layout = lay }

-- how a stretch is judged
abbrev pub judged_all : Told → ℕ → List ℕ → Judged
judged_all t editions = judged_within t (all_asked editions t.layout)

-- the last place recorded is that of the last entry, whether or not the entries are in order; with no entry it is the stream's start
unfoldable pub last_place : List ℕ → ℕ → ℕ
last_place table zero = 0
last_place table (suc n) = entry_place (get_or table n 0)

-- added are the stretches whose first byte stands after it: those that open there or later
unfoldable pub added : Told → ℕ → List ℕ → List ℕ → ℕ → List ℕ
added t editions s table count = entries_from (judged_all t editions) s (last_place table count)

-- 2, 3, 4, 19 for the count handed in, 10, 19 for the entries that there would be
unfoldable pub update_answer : Told → ℕ → List ℕ → List ℕ → ℕ → Result ⊤ IndexRefusal
update_answer t editions s table count =
    cond (not (sized_told t)) (Err Sizes)
    (cond (ltb longest_stream (length s)) (Err TooLong)
    (cond (ltb (length table) most_entries) (Err NoRoom)
    (cond (ltb most_entries count) (Err Count)
    (cond (ltb (length s) (last_place table count)) (Err Beyond)
    (cond (ltb most_entries (count + length (added t editions s table count))) (Err Full)
    (Ok tt))))))

-- the number of each answer (document 01, 'Numbers returned'; order W10)
abbrev pub update_number : Result ⊤ IndexRefusal → ℕ
update_number (Ok tt) = 0
update_number (Err Sizes) = 2
update_number (Err TooLong) = 3
update_number (Err NoRoom) = 4
update_number (Err Count) = 19
update_number (Err Beyond) = 10
update_number (Err Full) = 19

-- the count: on a refusal as it was handed in
abbrev pub count_of : Result ⊤ IndexRefusal → ℕ → List ℕ → ℕ
count_of (Ok tt) count w = count + length w
count_of (Err f) count w = count

-- the table: entries from the count on are written only where it is done
abbrev pub table_of : Result ⊤ IndexRefusal → List ℕ → ℕ → List ℕ → List ℕ
table_of (Ok tt) table count w = sets table count w
table_of (Err Sizes) table count w = table
table_of (Err TooLong) table count w = table
table_of (Err NoRoom) table count w = table
table_of (Err Count) table count w = table
table_of (Err Beyond) table count w = table
table_of (Err Full) table count w = table

abbrev pub answered : Result ⊤ IndexRefusal → ℕ → Updated
answered a n = record { answer = a; count = n }

-- the two of a call
abbrev pub updated : Told → ℕ → List ℕ → List ℕ → ℕ → Updated
updated t editions s table count =
    answered (update_answer t editions s table count) (count_of (update_answer t editions s table count) count (added t editions s table count))

abbrev pub updated_table : Told → ℕ → List ℕ → List ℕ → ℕ → List ℕ
updated_table t editions s table count = table_of (update_answer t editions s table count) table count (added t editions s table count)
