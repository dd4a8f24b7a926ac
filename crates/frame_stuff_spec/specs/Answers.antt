-- What `unstuffed_length`, `unstuff` and `stuff` answer, and what the lent buffer then holds: document 01's refusals in its order,
-- one line each. Assumes nothing: these are definitions.
use Rattle.std.specs.Prelude.{cond, List, ℕ, ◌*◌, ltb, length, Ok, Err, Some, None, Result, Option}
use Rattle.base_lists.specs.Buffers.{over}
use Rattle.frame_stuff_spec.specs.declared.UnstuffFault.{UnstuffFault}
use Rattle.frame_stuff_spec.specs.declared.UnstuffFault.TheVariants as unstuffed-is
use Rattle.frame_stuff_spec.specs.declared.StuffRefusal.{StuffRefusal}
use Rattle.frame_stuff_spec.specs.declared.StuffRefusal.TheVariants as stuffed-is
use Rattle.frame_stuff_spec.specs.Stuffing.{longest_stretch, stuffed, unstuffed}
use Rattle.frame_stuff_spec.specs.Rules.{length_outside}

-- the rules' count as an answer
abbrev pub answer_of : Option ℕ → Result ℕ UnstuffFault
answer_of (Some n) = Ok n
answer_of None = Err unstuffed-is.Bad

-- too long, then bad stuffing, else the length
unfoldable pub length_answer : List ℕ → Result ℕ UnstuffFault
length_answer s = cond (ltb longest_stretch (length s)) (Err unstuffed-is.TooLong) (answer_of (length_outside s))

-- a length needs that much room
abbrev pub room_for : Result ℕ UnstuffFault → List ℕ → Result ℕ UnstuffFault
room_for (Ok n) o = cond (ltb (length o) n) (Err unstuffed-is.NoRoom) (Ok n)
room_for (Err unstuffed-is.Bad) o = Err unstuffed-is.Bad
room_for (Err unstuffed-is.TooLong) o = Err unstuffed-is.TooLong
room_for (Err unstuffed-is.NoRoom) o = Err unstuffed-is.NoRoom

unfoldable pub unstuff_answer : List ℕ → List ℕ → Result ℕ UnstuffFault
unstuff_answer s o = room_for (length_answer s) o

-- only where a length is answered is anything written
abbrev pub written_by : Result ℕ UnstuffFault → List ℕ → List ℕ → List ℕ
written_by (Ok n) w o = over w o
written_by (Err f) w o = o

unfoldable pub unstuff_out : List ℕ → List ℕ → List ℕ
unstuff_out s o = written_by (unstuff_answer s o) (unstuffed s) o

-- room is twice the body's bytes
unfoldable pub stuff_answer : List ℕ → List ℕ → Result ℕ StuffRefusal
stuff_answer b o = cond (ltb (length o) (2 * length b)) (Err stuffed-is.NoRoom) (Ok (length (stuffed b)))

unfoldable pub stuff_out : List ℕ → List ℕ → List ℕ
stuff_out b o = cond (ltb (length o) (2 * length b)) o (over (stuffed b) o)

-- document 01's number of each answer ('Numbers returned')
abbrev pub unstuff_number : Result ℕ UnstuffFault → ℕ
unstuff_number (Ok n) = 0
unstuff_number (Err unstuffed-is.Bad) = 6
unstuff_number (Err unstuffed-is.TooLong) = 7
unstuff_number (Err unstuffed-is.NoRoom) = 4

abbrev pub stuff_number : Result ℕ StuffRefusal → ℕ
stuff_number (Ok n) = 0
stuff_number (Err stuffed-is.NoRoom) = 4
