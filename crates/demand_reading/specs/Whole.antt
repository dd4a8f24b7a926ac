-- The runs that the theorems of FromStart.antt, EveryLine.antt and Ending.antt speak of: with key and font digest of their sizes, every stream
-- within the limit has a run from its start to its end, and no two of them see anything else. From the promise of `read` alone. Assumes nothing.
use Rattle.std.specs.Prelude.{◌≡◌, List, ℕ, length}
use Rattle.read_call.specs.declared.Asked.{Asked}
use Rattle.demand_reading.specs.Promises.{Seen, Run}
use Rattle.demand_reading.specs.Reaching.{Ended}

-- a run from the stream's start to its end, and what is seen
pub record WholeRun (key font : List ℕ) (asked : Asked) (s : List ℕ) : Type 0 where
  pub seen : List Seen
  pub run : Run key font asked s 0 0 seen
  pub ended : Ended seen

-- so many calls of `read`, from any place
pub record Calls (key font : List ℕ) (asked : Asked) (s : List ℕ) (from n : ℕ) : Type 0 where
  pub seen : List Seen
  pub many : length seen ≡ n
  pub run : Run key font asked s 0 from seen
