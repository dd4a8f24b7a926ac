-- `part` meets its promise, the part and where it stands. Assumes nothing.
use Rattle.std.proofs.Common.{◌≡◌, ℕ, ◌+◌, ap}
use Rattle.rows_case.specs.Laws.{part-past, part-crossed, part_held}
use Rattle.rows_case.proofs.part.Goals as goal

-- the address of a part from its start
placed : {a b : ℕ} (m n : ℕ) → a ≡ b → ◌≡◌ {A = ℕ × ℕ} (m, a + n) (m, b + n)
placed m n e = ap (λ (k : ℕ). (m, k + n)) e

pub returns-then-to-all-clause-result_value : goal.returns-then-to-all-clause-result_value
returns-then-to-all-clause-result_value c = (part-past _ _ _ c.if-to-all.true).0

pub returns-then-to-all-clause-ref_ptr_value : goal.returns-then-to-all-clause-ref_ptr_value
returns-then-to-all-clause-ref_ptr_value c = placed _ _ (part-past _ c.args.from _ c.if-to-all.true).1

pub returns-then-from-to-clause-result_value : goal.returns-then-from-to-clause-result_value
returns-then-from-to-clause-result_value c = (part-crossed _ _ _ c.if-to-all.false c.if-from-to.true).0

pub returns-then-from-to-clause-ref_ptr_value : goal.returns-then-from-to-clause-ref_ptr_value
returns-then-from-to-clause-ref_ptr_value c = placed _ _ (part-crossed _ _ _ c.if-to-all.false c.if-from-to.true).1

pub returns-clause-result_value : goal.returns-clause-result_value
returns-clause-result_value c = (part_held _ _ _ c.if-to-all.false c.if-from-to.false).0

pub returns-clause-ref_ptr_value : goal.returns-clause-ref_ptr_value
returns-clause-ref_ptr_value c = placed _ _ (part_held _ _ _ c.if-to-all.false c.if-from-to.false).1
