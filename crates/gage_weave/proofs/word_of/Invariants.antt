-- `word_of` meets its promise. The invariant: the bytes behind those that are left are joined. Assumes nothing.
use Rattle.std.proofs.Common.{◌≡◌, List, ℕ, ◌++◌}
use Rattle.base_digits.specs.Joined.{joined}
use Rattle.gage_weave.proofs.word_of.Given as goal

abbrev pub invariant-loop-b : goal.invariant-loop-b
invariant-loop-b l = (done : List ℕ) × (l.block ≡ l.b-iterator.iter.rest.now ++ done) × (l.w ≡ joined done)
