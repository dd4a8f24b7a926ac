-- `gathered` meets its promise. The invariant: the first k rows are those of the bundle (`Upto`). Assumes nothing.
use Prim.Native.Nat.{ℕ}
use lib.ListN.{get_or}
use Rattle.base_lists.specs.Upto.{Upto}
use Rattle.bundle_draw.specs.Answers.{row_place}
use Rattle.bundle_draw.proofs.gathered.Given as goal

abbrev pub invariant-loop-k : goal.invariant-loop-k
invariant-loop-k l = Upto (λ (m : ℕ). get_or l.bundle (row_place l.n m) 0) l.row-items l.k
