-- Demand 3 for the walker, from the promise of `next` alone: calls of `next`, each of the walker that the one before left, are a run of read
-- calls over the walker's stream from the place reached. So what is proved of runs is said of a press that holds a walker. Assumes nothing.
use Rattle.std.specs.Prelude.{List, [], ◌∷◌, ℕ, ◌≤◌, length}
use Rattle.line_spec.specs.Lines.{longest}
use Rattle.read_call.specs.declared.Asked.{Asked}
use Rattle.read_call.specs.declared.Reading.{Reading}
use Rattle.read_walk.specs.declared.Walker.{Walker}
use Rattle.read_walk.specs.Steps.{Nexts}
use Rattle.demand_reading.specs.Promises.{Seen, seen_from}

-- some calls of `next` with room enough for a line, the first of the walker w, and what is seen of them. Each may have a line buffer of its own
pub data Walk (key font : List ℕ) (asked : Asked) : Walker → List Seen → Type 0 where
  stays : {w : Walker} → Walk key font asked w []
  moves : {w : Walker} (r : Reading) (w' : Walker) (l l' : List ℕ) {rest : List Seen} → longest ≤ length l → Nexts key font asked w l r w' l'
      → Walk key font asked w' rest → Walk key font asked w (seen_from 0 r l' ∷ rest)
