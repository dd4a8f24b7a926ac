-- A ceiling on the work for one stretch (order W5): a press gives the reader a beat, counted in calls of the permutation. Assumes nothing:
-- these are definitions.
use Rattle.std.specs.Prelude.{cond, ℕ, ◌+◌, ltb}
use Rattle.line_spec.specs.Lines.{longest}
use Rattle.frame_body.specs.declared.Edition.TheVariants.{Two}
use Rattle.frame_spec.specs.Lengths.{beside_line}
use Rattle.read_spec.specs.Judged.{Judged, work, calls_in}

-- 15 where the work that document 01's count gives for the stretch is more than is allowed. 7, 6 and 8 take none, so they come before it;
-- 5 and what follows it take the whole, so it comes before them.
unfoldable pub within : ℕ → Judged → Judged
within allowed j = cond (ltb allowed (calls_in j)) work j

-- all the work that a stretch can take: that of the longest line, in edition two
abbrev pub all_work : ℕ
all_work = longest + beside_line Two
