-- The promises of `rule_takes`, `index_of` and `all_dotted`, as the check reads them (`Post`), admit a single answer. Assumes nothing.
use mathlib.Core.Path.{◌≡◌, sym, ◌∙◌}
use mathlib.Core.Bool.{Bool}
use Prim.Native.Nat.{ℕ}
use contract.Lifetimes.{Lfts}
use denote.Triple.Clauses.{AtExit}
use borrow.Fn.Kinds.{Dens, ended_of}
use Rattle.bundle_rules.proofs.rule_takes.Kinds as rule-kinds
use Rattle.bundle_rules.proofs.rule_takes.Reads as rule-reads
use Rattle.bundle_rules.proofs.index_of.Kinds as index-kinds
use Rattle.bundle_rules.proofs.index_of.Reads as index_Reads
use Rattle.bundle_rules.proofs.all_dotted.Kinds as dotted-kinds
use Rattle.bundle_rules.proofs.all_dotted.Reads as dotted-reads

pub rule-takes-single : (κs : Lfts 0) (a : Dens κs rule-kinds.ps) (r r' : Bool) (x x' : AtExit (ended_of 0 rule-kinds.ps rule-kinds.r) κs)
    → rule-reads.Post κs a r x → rule-reads.Post κs a r' x' → r ≡ r'
rule-takes-single κs a r r' x x' p q = p ∙ sym q

pub index-of-single : (κs : Lfts 0) (a : Dens κs index-kinds.ps) (r r' : ℕ) (x x' : AtExit (ended_of 0 index-kinds.ps index-kinds.r) κs)
    → index_Reads.Post κs a r x → index_Reads.Post κs a r' x' → r ≡ r'
index-of-single κs a r r' x x' p q = p ∙ sym q

pub all-dotted-single : (κs : Lfts 1) (a : Dens κs dotted-kinds.ps) (r r' : Bool) (x x' : AtExit (ended_of 1 dotted-kinds.ps dotted-kinds.r) κs)
    → dotted-reads.Post κs a r x → dotted-reads.Post κs a r' x' → r ≡ r'
all-dotted-single κs a r r' x x' p q = p ∙ sym q
