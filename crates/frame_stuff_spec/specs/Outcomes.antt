-- The answers of `unstuffed_length`, `unstuff` and `stuff`, case by case, in the words of good stuffing, room and length.
-- Assumes nothing.
use Rattle.std.specs.Prelude.{List, ℕ, ◌≤◌, ◌<◌, length, Ok, Err, Result}
use Rattle.base_lists.specs.Buffers.{over}
use Rattle.frame_stuff_spec.specs.declared.UnstuffFault.{UnstuffFault}
use Rattle.frame_stuff_spec.specs.declared.UnstuffFault.TheVariants as unstuffed-is
use Rattle.frame_stuff_spec.specs.Stuffing.{longest_stretch, unstuffed, WellStuffed}

-- all that `unstuff` can answer, with what the buffer then holds: document 01's order, one line each
pub data Outcome (s o : List ℕ) : Result ℕ UnstuffFault → List ℕ → Type 0 where
  too_long : longest_stretch < length s → Outcome s o (Err unstuffed-is.TooLong) o
  bad : length s ≤ longest_stretch → (WellStuffed s → ⊥) → Outcome s o (Err unstuffed-is.Bad) o
  no_room : length s ≤ longest_stretch → WellStuffed s → length o < length (unstuffed s) → Outcome s o (Err unstuffed-is.NoRoom) o
  done : length s ≤ longest_stretch → WellStuffed s → length (unstuffed s) ≤ length o
      → Outcome s o (Ok (length (unstuffed s))) (over (unstuffed s) o)
