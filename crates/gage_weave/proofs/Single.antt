-- The promises of `weave`, `mix` and `tell`, as the check reads them (`Post`), admit a single answer. Assumes nothing.
use mathlib.Core.Path.{◌≡◌, sym, ◌∙◌}
use contract.Lifetimes.{Lfts}
use denote.Triple.Clauses.{AtExit}
use borrow.Fn.Kinds.{Dens, ended_of}
use Rattle.gage_planes_spec.specs.declared.State.{State}
use Rattle.gage_weave.proofs.weave.Kinds as weave-kinds
use Rattle.gage_weave.proofs.weave.Reads as weave-reads
use Rattle.gage_weave.proofs.mix.Kinds as mix-kinds
use Rattle.gage_weave.proofs.mix.Reads as mix-reads
use Rattle.gage_weave.proofs.tell.Kinds as tell-kinds
use Rattle.gage_weave.proofs.tell.Reads as tell-reads

pub weave-single : (κs : Lfts 1) (a : Dens κs weave-kinds.ps) (r r' : State) (x x' : AtExit (ended_of 1 weave-kinds.ps weave-kinds.r) κs)
    → weave-reads.Post κs a r x → weave-reads.Post κs a r' x' → r ≡ r'
weave-single κs a r r' x x' p q = p ∙ sym q

pub mix-single : (κs : Lfts 1) (a : Dens κs mix-kinds.ps) (r r' : State) (x x' : AtExit (ended_of 1 mix-kinds.ps mix-kinds.r) κs)
    → mix-reads.Post κs a r x → mix-reads.Post κs a r' x' → r ≡ r'
mix-single κs a r r' x x' p q = p.0 ∙ sym q.0

pub tell-single : (κs : Lfts 1) (a : Dens κs tell-kinds.ps) (r r' : Unit {0}) (x x' : AtExit (ended_of 1 tell-kinds.ps tell-kinds.r) κs)
    → tell-reads.Post κs a r x → tell-reads.Post κs a r' x' → x.1.0.now ≡ x'.1.0.now
tell-single κs a r r' x x' p q = p ∙ sym q
