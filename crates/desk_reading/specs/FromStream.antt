-- `desk-from-stream` (order W14): whatever the table is, each line of the new stream is seen by the run over the stream given, at the place that the
-- entry names, and the bytes between its marks are those of the given stream at that place, its nonce among them: the frame itself is copied, never
-- sealed anew. From the promises of `desk` and `read` alone. Assumes nothing.
use Rattle.std.specs.Prelude.{◌≡◌, ℕ}
use mathlib.Core.List.{List, ◌∷◌, ◌++◌}
use Rattle.read_stretch.specs.Stretches.{span, bytes_at}
use Rattle.demand_reading.specs.Promises.{Seen}
use Rattle.desk_reading.specs.Promises.{moved_to}

-- what is seen, v, is a line that is seen among these at this place; and its bytes in the stream given are those that the new stream has where v opens
-- at a place there
pub record FromStream (seen : List Seen) (s new : List ℕ) (place at : ℕ) (v : Seen) : Type 0 where
  pub before : List Seen
  pub after : List Seen
  pub among : seen ≡ before ++ (v ∷ after)
  pub place_is : v.first ≡ place
  pub a-line : v.number ≡ 0
  pub same_bytes : bytes_at new (span (moved_to at v).first (moved_to at v).closing) ≡ bytes_at s (span v.first v.closing)
