-- `judge_items` meets its promise. The loop's invariant: no item passed is at fault, and what is left of the list decides. Assumes nothing.
use Rattle.frame_spec.specs.Told.{told}
use Rattle.desk_call.proofs.Judging.{Going}
use Rattle.desk_call.proofs.judge_items.Given as goal

abbrev pub invariant-loop-k : goal.invariant-loop-k
invariant-loop-k l = Going (told l.key l.font l.layout) l.editions l.stream l.table l.count l.list l.total l.k
