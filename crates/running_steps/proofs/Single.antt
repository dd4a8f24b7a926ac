-- The promises of the steps by value, as the check reads them (`Post`), admit a single answer, and of `give` a single buffer.
-- Assumes nothing.
use Rattle.std.specs.Prelude.{Result, ⊤}
use mathlib.Core.Path.{◌≡◌, sym, ◌∙◌}
use Prim.Native.Nat.{ℕ}
use contract.Lifetimes.{Lfts}
use denote.Triple.Clauses.{AtExit}
use borrow.Fn.Kinds.{Dens, ended_of}
use Rattle.running_spec.specs.declared.Record.{Record}
use Rattle.running_spec.specs.declared.StartRefusal.{StartRefusal}
use Rattle.running_spec.specs.declared.FeedRefusal.{FeedRefusal}
use Rattle.running_spec.specs.declared.FinishRefusal.{FinishRefusal}
use Rattle.running_steps.proofs.start_answer.Kinds as start-answer-kinds
use Rattle.running_steps.proofs.start_answer.Reads as start-answer-reads
use Rattle.running_steps.proofs.after_start.Kinds as after-start-kinds
use Rattle.running_steps.proofs.after_start.Reads as after-start-reads
use Rattle.running_steps.proofs.feed_answer.Kinds as feed-answer-kinds
use Rattle.running_steps.proofs.feed_answer.Reads as feed-answer-reads
use Rattle.running_steps.proofs.after_feed.Kinds as after-feed-kinds
use Rattle.running_steps.proofs.after_feed.Reads as after-feed-reads
use Rattle.running_steps.proofs.give.Kinds as give-kinds
use Rattle.running_steps.proofs.give.Reads as give-reads
use Rattle.running_steps.proofs.after_finish.Kinds as after-finish-kinds
use Rattle.running_steps.proofs.after_finish.Reads as after-finish-reads
use Rattle.running_steps.proofs.start_number.Kinds as start-number-kinds
use Rattle.running_steps.proofs.start_number.Reads as start-number-reads
use Rattle.running_steps.proofs.feed_number.Kinds as feed-number-kinds
use Rattle.running_steps.proofs.feed_number.Reads as feed-number-reads
use Rattle.running_steps.proofs.finish_number.Kinds as finish-number-kinds
use Rattle.running_steps.proofs.finish_number.Reads as finish-number-reads
use Rattle.running_steps.proofs.finish_count.Kinds as finish-count-kinds
use Rattle.running_steps.proofs.finish_count.Reads as finish-count-reads

pub start-answer-single : (κs : Lfts 0) (a : Dens κs start-answer-kinds.ps) (r r' : Result ⊤ StartRefusal)
    (x x' : AtExit (ended_of 0 start-answer-kinds.ps start-answer-kinds.r) κs)
    → start-answer-reads.Post κs a r x → start-answer-reads.Post κs a r' x' → r ≡ r'
start-answer-single κs a r r' x x' p q = p ∙ sym q

pub after-start-single : (κs : Lfts 0) (a : Dens κs after-start-kinds.ps) (r r' : Record)
    (x x' : AtExit (ended_of 0 after-start-kinds.ps after-start-kinds.r) κs)
    → after-start-reads.Post κs a r x → after-start-reads.Post κs a r' x' → r ≡ r'
after-start-single κs a r r' x x' p q = p ∙ sym q

pub feed-answer-single : (κs : Lfts 1) (a : Dens κs feed-answer-kinds.ps) (r r' : Result ⊤ FeedRefusal) (x x' : AtExit (ended_of 1 feed-answer-kinds.ps feed-answer-kinds.r) κs)
    → feed-answer-reads.Post κs a r x → feed-answer-reads.Post κs a r' x' → r ≡ r'
feed-answer-single κs a r r' x x' p q = p ∙ sym q

pub after-feed-single : (κs : Lfts 1) (a : Dens κs after-feed-kinds.ps) (r r' : Record) (x x' : AtExit (ended_of 1 after-feed-kinds.ps after-feed-kinds.r) κs)
    → after-feed-reads.Post κs a r x → after-feed-reads.Post κs a r' x' → r ≡ r'
after-feed-single κs a r r' x x' p q = p ∙ sym q

pub give-single : (κs : Lfts 1) (a : Dens κs give-kinds.ps) (r r' : Result ℕ FinishRefusal) (x x' : AtExit (ended_of 1 give-kinds.ps give-kinds.r) κs)
    → give-reads.Post κs a r x → give-reads.Post κs a r' x' → (r ≡ r') × (x.1.0.now ≡ x'.1.0.now)
give-single κs a r r' x x' p q = (p.0 ∙ sym q.0, p.1 ∙ sym q.1)

pub after-finish-single : (κs : Lfts 0) (a : Dens κs after-finish-kinds.ps) (r r' : Record)
    (x x' : AtExit (ended_of 0 after-finish-kinds.ps after-finish-kinds.r) κs)
    → after-finish-reads.Post κs a r x → after-finish-reads.Post κs a r' x' → r ≡ r'
after-finish-single κs a r r' x x' p q = p ∙ sym q

pub start-number-single : (κs : Lfts 0) (a : Dens κs start-number-kinds.ps) (r r' : ℕ) (x x' : AtExit (ended_of 0 start-number-kinds.ps start-number-kinds.r) κs)
    → start-number-reads.Post κs a r x → start-number-reads.Post κs a r' x' → r ≡ r'
start-number-single κs a r r' x x' p q = p ∙ sym q

pub feed-number-single : (κs : Lfts 0) (a : Dens κs feed-number-kinds.ps) (r r' : ℕ) (x x' : AtExit (ended_of 0 feed-number-kinds.ps feed-number-kinds.r) κs)
    → feed-number-reads.Post κs a r x → feed-number-reads.Post κs a r' x' → r ≡ r'
feed-number-single κs a r r' x x' p q = p ∙ sym q

pub finish-number-single : (κs : Lfts 0) (a : Dens κs finish-number-kinds.ps) (r r' : ℕ) (x x' : AtExit
    (ended_of 0 finish-number-kinds.ps finish-number-kinds.r) κs)
    → finish-number-reads.Post κs a r x → finish-number-reads.Post κs a r' x' → r ≡ r'
finish-number-single κs a r r' x x' p q = p ∙ sym q

pub finish-count-single : (κs : Lfts 0) (a : Dens κs finish-count-kinds.ps) (r r' : ℕ) (x x' : AtExit (ended_of 0 finish-count-kinds.ps finish-count-kinds.r) κs)
    → finish-count-reads.Post κs a r x → finish-count-reads.Post κs a r' x' → r ≡ r'
finish-count-single κs a r r' x x' p q = p ∙ sym q
