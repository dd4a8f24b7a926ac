-- What the steps of the desk's call ask and give: the items judged one after the other with their frames' lengths added up, and the frames as they
-- are copied. Assumes nothing: these are definitions.
use Rattle.std.specs.Prelude.{◌≡◌, not, cond, List, [], ◌∷◌, ◌++◌, ℕ, ◌+◌, ◌-◌, ◌≤◌, ◌<◌, eqb, ltb, length, Ok, Err, Result}
use Rattle.frame_stuff_spec.specs.Stuffing.{mark}
use Rattle.read_stretch.specs.Stretches.{span, bytes_at, next_span}
use Rattle.read_stretch.specs.Meaning.{Stretch}
use Rattle.frame_spec.specs.Told.{Told}
use Rattle.read_call.specs.Answers.{longest_stream}
use Rattle.desk_spec.specs.declared.DeskRefusal.{DeskRefusal}
use Rattle.desk_spec.specs.Desk.{place_of, closing_of, desk_number, length_of, item_of}
use Rattle.desk_call.specs.declared.Report.{Report}
use Rattle.desk_call.specs.declared.ItemFault.{ItemFault}
use Rattle.desk_call.specs.declared.ItemFault.TheVariants.{Past, NoLine}

-- a length with a frame more; one over the longest stream stays
unfoldable pub lengthened : ℕ → ℕ → ℕ
lengthened total n = cond (ltb longest_stream total) total (total + n + 2)

-- the items of a list, counted from k on, behind frames of so many bytes
unfoldable pub items_from : Told → ℕ → List ℕ → List ℕ → ℕ → ℕ → ℕ → List ℕ → Result ℕ ItemFault
items_from t editions s table count k total [] = Ok total
items_from t editions s table count k total (i ∷ list) =
    cond (not (ltb i count)) (Err (Past k))
    (cond (eqb (closing_of t editions s (place_of table i)) 0) (Err (NoLine k))
    (items_from t editions s table count (k + 1) (lengthened total (closing_of t editions s (place_of table i) - place_of table i)) list))

-- where the stretch that starts at a place closes
abbrev pub closing_at : List ℕ → ℕ → ℕ
closing_at s place = (next_span s (place - 1)).closing

-- that stretch between marks of its own
unfoldable pub frame_at : List ℕ → ℕ → List ℕ
frame_at s place = mark ∷ (bytes_at s (span place (closing_at s place)) ++ (mark ∷ []))

-- one frame after the other
unfoldable pub frames_at : List ℕ → List ℕ → List ℕ → List ℕ
frames_at s table [] = []
frames_at s table (i ∷ list) = frame_at s (place_of table i) ++ frames_at s table list

-- an entry of the table, at whose place a stretch starts
pub record Start (s table : List ℕ) (i : ℕ) : Type 0 where
  pub inside : i < length table
  pub stretch : Stretch s (place_of table i) (closing_at s (place_of table i))

abbrev pub Starts : List ℕ → List ℕ → List ℕ → Type 0
Starts s table [] = Unit {0}
Starts s table (i ∷ list) = Start s table i × Starts s table list

-- n is a stream's length m, or both are over the longest
pub record Measured (n m : ℕ) : Type 0 where
  pub exact : m ≤ longest_stream → n ≡ m
  pub beyond : longest_stream < m → longest_stream < n

abbrev pub report : ℕ → ℕ → ℕ → Report
report number length item = record { number = number; length = length; item = item }

-- what is reported of an answer: number, length and item
abbrev pub report_of : Result ℕ DeskRefusal → Report
report_of a = report (desk_number a) (length_of a) (item_of a)
