-- The promise of `judge_asked`, as the check reads it (`Post`), admits a single answer. Assumes nothing.
use Rattle.std.specs.Prelude.{Option}
use mathlib.Core.Path.{◌≡◌, sym, ◌∙◌}
use contract.Lifetimes.{Lfts}
use denote.Triple.Clauses.{AtExit}
use borrow.Fn.Kinds.{Dens, ended_of}
use Rattle.read_bar.specs.declared.Bar.{Bar}
use Rattle.read_bar.proofs.judge_asked.Kinds as kinds
use Rattle.read_bar.proofs.judge_asked.Reads.{Post}

pub judge-asked-single : (κs : Lfts 2) (a : Dens κs kinds.ps) (r r' : Option Bar) (x x' : AtExit (ended_of 2 kinds.ps kinds.r) κs) → Post κs a r x → Post κs a r' x'
    → r ≡ r'
judge-asked-single κs a r r' x x' p q = p ∙ sym q
