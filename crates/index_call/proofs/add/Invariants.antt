-- `add` meets its promise. The loop's invariant: the entries of the stretches passed stand in the table, and those left are the ones from the place
-- reached. Assumes nothing.
use Rattle.frame_spec.specs.Told.{told}
use Rattle.index_call.specs.Steps.{Adding}
use Rattle.index_call.proofs.Walking.{Walked}
use Rattle.index_call.proofs.add.Given as goal

abbrev pub invariant-loop-i : goal.invariant-loop-i
invariant-loop-i l =
    (k : Adding (told l.key l.font l.layout) l.editions l.stream l.from l.n) → Walked (told l.key l.font l.layout) l.editions l.stream l.from l.n k l.initial.table l.count l.table l.at l.i
