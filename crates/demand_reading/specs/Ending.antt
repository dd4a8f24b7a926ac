-- Read calls one after the other, each from where the one before closed, come to the end of the stream: of more calls than the stream has
-- bytes, some first ones are made until the end. From the promise of `read` alone. Assumes nothing.
use Rattle.std.specs.Prelude.{◌≡◌, List, ◌++◌, ℕ}
use Rattle.read_call.specs.declared.Asked.{Asked}
use Rattle.demand_reading.specs.Promises.{Seen, Run}
use Rattle.demand_reading.specs.Reaching.{Ended}

-- calls of which some first ones are made until the end
pub record Ends (key font : List ℕ) (asked : Asked) (s : List ℕ) (from : ℕ) (seen : List Seen) : Type 0 where
  pub to_end : List Seen
  pub more : List Seen
  pub parts : seen ≡ to_end ++ more
  pub run : Run key font asked s 0 from to_end
  pub ended : Ended to_end
