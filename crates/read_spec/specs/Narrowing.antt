-- A layout narrows (order W7): a stretch is found to be what it is with none named, or that was a line and is 17 now, with the same count; within
-- every ceiling on the work. Assumes nothing.
use Rattle.std.specs.Prelude.{Bool, true, false, not, cond, List, ℕ, ltb}
use Rattle.base_lists.specs.Buffers.{same}
use Rattle.frame_stuff_spec.specs.declared.UnstuffFault.{UnstuffFault}
use Rattle.frame_stuff_spec.specs.Stuffing.{unstuffed}
use Rattle.frame_stuff_spec.specs.Answers.{length_answer}
use Rattle.line_layout.specs.declared.Layout as layouts
use Rattle.line_layout.specs.declared.Layout.TheVariants.{Neither}
use Rattle.line_layout.specs.Layouts.{layout_rule}
use Rattle.line_layout.specs.Rule as ruled
use Rattle.ingage_spec.specs.Instances.{first}
use Rattle.ingage_spec.specs.Cipher.{Work, decrypted, accepted}
use Rattle.frame_body.specs.Fields.{Own, Fields, fields, no_body, fields_of, associated}
use Rattle.frame_spec.specs.Told.{Told}
use Rattle.frame_spec.specs.AnyLayout.{under}
use Rattle.read_spec.specs.Editions.{among}
use Rattle.read_spec.specs.Judged.{Judged, work, seal, font, layout, line}
use Rattle.read_spec.specs.Judging.{by_rule, judge_sealed, judge_fields, by_stuffing, judge}
use Rattle.read_spec.specs.Ceiling.{within}

-- what is found with a layout named, beside what is found with none
pub data Narrower : Judged → Judged → Type 0 where
  alike : (j : Judged) → Narrower j j
  narrowed : (own : Own) (l : List ℕ) (n : ℕ) → Narrower (layout n) (line own l n)
