-- `live-as-read`: of a stream within document 01's limit, a run of steps gives what a whole run of `read` sees from its start, reading by reading, and
-- the end is what `read` answers then. From the promises alone. Assumes nothing.
use Rattle.std.specs.Prelude.{◌≡◌, refl, false, List, [], ◌∷◌, ◌++◌, map, ℕ, ◌≤◌, length}
use Rattle.std.proofs.Common.{sym, ap, ◌∙◌, arith}
use Rattle.frame_stuff_spec.specs.Stuffing.{longest_stretch}
use Rattle.frame_spec.specs.Told.{told}
use Rattle.read_spec.specs.Sizes.{Sizes}
use Rattle.read_readings.specs.Readings.{Reading, readings}
use Rattle.read_call.specs.declared.Asked.{Asked}
use Rattle.read_call.specs.Answers.{longest_stream, judged_within}
use Rattle.demand_reading.specs.Promises as reading
use Rattle.demand_reading.specs.Promises.{Seen}
use Rattle.demand_reading.specs.Reaching.{Ended}
use Rattle.demand_joined.specs.Seeing.{seen_of, the_end, run-readings}
use Rattle.live_spec.specs.declared.Numbers.{Numbers}
use Rattle.live_spec.specs.Taking.{no_bytes}
use Rattle.live_reading.specs.Promises.{Given, given_of, Run, whole}

-- what `read` tells of what is given: all but the nonce
abbrev pub as_seen : Given → Seen
as_seen g = record {
  number = g.number;
  ended = false;
  first = g.first;
  closing = g.closing;
  calls = g.calls;
  edition = g.edition;
  job = g.job;
  line = g.line;
}
