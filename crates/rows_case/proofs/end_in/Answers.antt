-- `end_in` meets its promise. Assumes nothing.
use Rattle.std.proofs.Common.{ℕ, ◌+◌, ◌%◌, ◌^◌, ap, ◌∙◌}
use Rattle.rows_case.specs.Cases.{end_in}
use Rattle.rows_case.proofs.end_in.Goals as goal

pub returns : goal.returns
unfolding end_in
returns c = c.wrapping_add_usize.ensures.value ∙ ap (λ (n : ℕ). (c.args.before + n) % 2 ^ 64) c.number_in.ensures
