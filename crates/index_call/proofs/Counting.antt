-- As many entries are added as stretches are counted. Assumes nothing.
use mathlib.Core.Path.{◌≡◌, sym, ◌∙◌}
use mathlib.Core.List.{List}
use Prim.Native.Nat.{ℕ, ◌≤◌}
use lib.ListN.{length, length-map}
use Rattle.frame_spec.specs.Told.{Told}
use Rattle.read_spec.specs.Sizes.{Sizes}
use Rattle.read_spec.specs.Judged.{Judged}
use Rattle.read_readings.specs.Readings.{readings}
use Rattle.read_call.specs.Answers.{longest_stream}
use Rattle.index_spec.specs.Entries.{recorded, entries_from}
use Rattle.index_spec.specs.Updating.{judged_all, last_place, added}
use Rattle.index_count.specs.Counted.{stretches_from}
use Rattle.index_count.specs.Alike.{counted-alike}
use Rattle.index_call.specs.Steps.{Adding}

pub entries-count : (judge : List ℕ → Judged) (s : List ℕ) (from : ℕ) → length (entries_from judge s from) ≡ stretches_from s from
unfolding entries_from
entries-count judge s from = length-map (readings judge s from) recorded ∙ counted-alike judge s from

pub added-count : (t : Told) (editions : ℕ) (s table : List ℕ) (count : ℕ)
    → length (added t editions s table count) ≡ stretches_from s (last_place table count)
unfolding added
added-count t editions s table count = entries-count (judged_all t editions) s (last_place table count)

pub added-adding : (t : Told) (editions : ℕ) (s : List ℕ) (from n : ℕ) → Sizes t → length s ≤ longest_stream → from ≤ length s → n ≡ stretches_from s from
    → Adding t editions s from n
added-adding t editions s from n z h f e = record {
  sizes = z;
  short = h;
  inside = f;
  many = e ∙ sym (entries-count (judged_all t editions) s from);
}
