-- The promises of `kind_of`, `rule_takes` and `event_at`, as the check reads them (`Post`), admit a single answer. Assumes nothing.
use mathlib.Core.Path.{◌≡◌, sym, ◌∙◌}
use mathlib.Core.Bool.{Bool}
use contract.Lifetimes.{Lfts}
use denote.Triple.Clauses.{AtExit}
use borrow.Fn.Kinds.{Dens, ended_of}
use Rattle.replay_spec.specs.declared.Kind.{Kind}
use Rattle.replay_spec.specs.declared.Event.{Event}
use Rattle.replay_event.proofs.kind_of.Kinds as kind-of-kinds
use Rattle.replay_event.proofs.kind_of.Reads as kind-of-reads
use Rattle.replay_event.proofs.rule_takes.Kinds as rule-takes-kinds
use Rattle.replay_event.proofs.rule_takes.Reads as rule-takes-reads
use Rattle.replay_event.proofs.event_at.Kinds as event-at-kinds
use Rattle.replay_event.proofs.event_at.Reads as event-at-reads

pub kind-of-single : (κs : Lfts 0) (a : Dens κs kind-of-kinds.ps) (r r' : Kind) (x x' : AtExit (ended_of 0 kind-of-kinds.ps kind-of-kinds.r) κs)
    → kind-of-reads.Post κs a r x → kind-of-reads.Post κs a r' x' → r ≡ r'
kind-of-single κs a r r' x x' p q = p ∙ sym q

pub rule-takes-single : (κs : Lfts 0) (a : Dens κs rule-takes-kinds.ps) (r r' : Bool) (x x' : AtExit (ended_of 0 rule-takes-kinds.ps rule-takes-kinds.r) κs)
    → rule-takes-reads.Post κs a r x → rule-takes-reads.Post κs a r' x' → r ≡ r'
rule-takes-single κs a r r' x x' p q = p ∙ sym q

pub event-at-single : (κs : Lfts 1) (a : Dens κs event-at-kinds.ps) (r r' : Event) (x x' : AtExit (ended_of 1 event-at-kinds.ps event-at-kinds.r) κs)
    → event-at-reads.Post κs a r x → event-at-reads.Post κs a r' x' → r ≡ r'
event-at-single κs a r r' x x' p q = p ∙ sym q
