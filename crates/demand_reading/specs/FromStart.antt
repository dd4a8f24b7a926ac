-- The buyer's demand 3, first half, for a press that reads from the start of the stream to its end, from the promises alone: two streams
-- that are equal from a mark on are seen alike behind it. Assumes nothing.
use Rattle.std.specs.Prelude.{ℕ, ◌-◌}
use Rattle.demand_reading.specs.Promises.{Seen}

-- with places counted from place i
abbrev pub counted_from : ℕ → Seen → Seen
counted_from i v = record {
  number = v.number;
  ended = v.ended;
  first = v.first - i;
  closing = v.closing - i;
  calls = v.calls;
  edition = v.edition;
  job = v.job;
  line = v.line;
}
