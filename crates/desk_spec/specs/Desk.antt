-- The rework desk (order W14): the stretch that an entry number chooses, the new stream, and what the desk answers and leaves in its output, the order's
-- refusals one line each. Assumes nothing: these are definitions.
use Rattle.std.specs.Prelude.{not, cond, List, [], ◌∷◌, ◌++◌, ℕ, ◌+◌, ◌-◌, eqb, ltb, length, get_or, Ok, Err, Result}
use Rattle.base_lists.specs.Buffers.{over}
use Rattle.frame_stuff_spec.specs.Stuffing.{mark}
use Rattle.line_spec.specs.Lines.{longest}
use Rattle.read_stretch.specs.Stretches.{span, bytes_at}
use Rattle.frame_spec.specs.Told.{Told}
use Rattle.read_call.specs.declared.Reading.{Reading}
use Rattle.read_call.specs.Answers.{longest_stream, sized_told, found, reading_of, LINE, outcome_of}
use Rattle.index_spec.specs.Entries.{most_entries, entry_place}
use Rattle.index_spec.specs.Updating.{all_asked}
use Rattle.desk_spec.specs.declared.DeskRefusal.{DeskRefusal}
use Rattle.desk_spec.specs.declared.DeskRefusal.TheVariants.{Sizes, TooLong, NoTable, Count, Past, NoLine, NewTooLong, NoRoom}

-- the place that an entry number names
abbrev pub place_of : List ℕ → ℕ → ℕ
place_of table i = entry_place (get_or table i 0)

-- the stream read anew there: the read call from the place before it, where the opening mark must stand, with all the work allowed
abbrev pub anew : Told → ℕ → List ℕ → ℕ → Reading
anew t editions s place = reading_of (found t (all_asked editions t.layout) s (place - 1) longest)

-- where the stretch that starts at a place closes, 0 where none does that reads as a line: not at 0, not beyond the stream, the reading's first
-- place is this one, and it gives a line
unfoldable pub closing_of : Told → ℕ → List ℕ → ℕ → ℕ
closing_of t editions s place =
    cond (eqb place 0) 0
    (cond (ltb (length s) place) 0
    (cond (not (eqb (anew t editions s place).first place)) 0
    (cond (not (eqb (outcome_of (anew t editions s place).answer) LINE)) 0
    (anew t editions s place).closing)))

-- the bytes between the marks of the stretch that an entry number chooses
unfoldable pub chosen : Told → ℕ → List ℕ → List ℕ → ℕ → List ℕ
chosen t editions s table i = bytes_at s (span (place_of table i) (closing_of t editions s (place_of table i)))

-- the new stream: each frame asked for with a mark of its own on either side, in the asked order
unfoldable pub new_stream : Told → ℕ → List ℕ → List ℕ → List ℕ → List ℕ
new_stream t editions s table [] = []
new_stream t editions s table (i ∷ list) = mark ∷ (chosen t editions s table i ++ (mark ∷ new_stream t editions s table list))

-- item by item, counted from k on: 23, 24; the first at fault decides, and where there is none what comes after them
unfoldable pub fault_from : Told → ℕ → List ℕ → List ℕ → ℕ → ℕ → List ℕ → Result ℕ DeskRefusal → Result ℕ DeskRefusal
fault_from t editions s table count k [] after = after
fault_from t editions s table count k (i ∷ list) after =
    cond (not (ltb i count)) (Err (Past k))
    (cond (eqb (closing_of t editions s (place_of table i)) 0) (Err (NoLine k))
    (fault_from t editions s table count (k + 1) list after))

-- 3 and 4 for a new stream of n bytes and an output of room for so many
abbrev pub fitting : ℕ → ℕ → Result ℕ DeskRefusal
fitting n room = cond (ltb longest_stream n) (Err NewTooLong) (cond (ltb room n) (Err NoRoom) (Ok n))

-- 2, 3, 4 for the table, 19, then the items, then 3 and 4 for the new stream
unfoldable pub desk_answer : Told → ℕ → List ℕ → List ℕ → ℕ → List ℕ → ℕ → Result ℕ DeskRefusal
desk_answer t editions s table count list room =
    cond (not (sized_told t)) (Err Sizes)
    (cond (ltb longest_stream (length s)) (Err TooLong)
    (cond (ltb (length table) most_entries) (Err NoTable)
    (cond (ltb most_entries count) (Err Count)
    (fault_from t editions s table count 1 list
    (fitting (length (new_stream t editions s table list)) room)))))

-- the output: the new stream over its start where it is done, else as it was
abbrev pub out_of : Result ℕ DeskRefusal → List ℕ → List ℕ → List ℕ
out_of (Ok n) w o = over w o
out_of (Err Sizes) w o = o
out_of (Err TooLong) w o = o
out_of (Err NoTable) w o = o
out_of (Err Count) w o = o
out_of (Err (Past k)) w o = o
out_of (Err (NoLine k)) w o = o
out_of (Err NewTooLong) w o = o
out_of (Err NoRoom) w o = o

-- the two of a call with the output o
abbrev pub desk_call : Told → ℕ → List ℕ → List ℕ → ℕ → List ℕ → List ℕ → Result ℕ DeskRefusal
desk_call t editions s table count list o = desk_answer t editions s table count list (length o)

abbrev pub desk_out : Told → ℕ → List ℕ → List ℕ → ℕ → List ℕ → List ℕ → List ℕ
desk_out t editions s table count list o = out_of (desk_call t editions s table count list o) (new_stream t editions s table list) o

-- the number of each answer (document 01, 'Numbers returned'; orders W10 and W14)
abbrev pub desk_number : Result ℕ DeskRefusal → ℕ
desk_number (Ok n) = 0
desk_number (Err Sizes) = 2
desk_number (Err TooLong) = 3
desk_number (Err NoTable) = 4
desk_number (Err Count) = 19
desk_number (Err (Past k)) = 23
desk_number (Err (NoLine k)) = 24
desk_number (Err NewTooLong) = 3
desk_number (Err NoRoom) = 4

-- the new stream's length, 0 where it is refused
abbrev pub length_of : Result ℕ DeskRefusal → ℕ
length_of (Ok n) = n
length_of (Err f) = 0

-- the item of the list at fault, counted from 1, for 23 and 24; else 0
abbrev pub item_of : Result ℕ DeskRefusal → ℕ
item_of (Ok n) = 0
item_of (Err Sizes) = 0
item_of (Err TooLong) = 0
item_of (Err NoTable) = 0
item_of (Err Count) = 0
item_of (Err (Past k)) = k
item_of (Err (NoLine k)) = k
item_of (Err NewTooLong) = 0
item_of (Err NoRoom) = 0
