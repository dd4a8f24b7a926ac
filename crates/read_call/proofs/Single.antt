-- The promises of `read`, `judge` and `fields_in`, as the check reads them (`Post`), admit a single answer and a single line buffer. Assumes nothing.
use Rattle.std.specs.Prelude.{Option, ℕ}
use mathlib.Core.Path.{◌≡◌, sym, ◌∙◌}
use contract.Lifetimes.{Lfts}
use denote.Triple.Clauses.{AtExit}
use borrow.Fn.Kinds.{Dens, ended_of}
use Rattle.frame_body.specs.declared.Edition.{Edition}
use Rattle.read_call.specs.declared.Reading.{Reading}
use Rattle.read_call.proofs.read.Kinds as kinds
use Rattle.read_call.proofs.read.Reads.{Post}
use Rattle.read_call.specs.declared.Verdict.{Verdict}
use Rattle.read_call.proofs.judge.Kinds as judge-kinds
use Rattle.read_call.proofs.judge.Reads as judge-reads
use Rattle.read_call.proofs.fields_in.Kinds as fields-kinds
use Rattle.read_call.proofs.fields_in.Reads as fields-reads

pub read-single : (κs : Lfts 4) (a : Dens κs kinds.ps) (r r' : Reading) (x x' : AtExit (ended_of 4 kinds.ps kinds.r) κs)
    → Post κs a r x → Post κs a r' x' → (r ≡ r') × (x.1.1.1.1.1.0.now ≡ x'.1.1.1.1.1.0.now)
read-single κs a r r' x x' p q = (p.0 ∙ sym q.0, p.1 ∙ sym q.1)

pub judge-single : (κs : Lfts 4) (a : Dens κs judge-kinds.ps) (r r' : Verdict) (x x' : AtExit (ended_of 4 judge-kinds.ps judge-kinds.r) κs)
    → judge-reads.Post κs a r x → judge-reads.Post κs a r' x' → (r ≡ r') × (x.1.1.1.1.0.now ≡ x'.1.1.1.1.0.now)
judge-single κs a r r' x x' p q = (p.0 ∙ sym q.0, p.1 ∙ sym q.1)

pub fields-in-single : (κs : Lfts 1) (a : Dens κs fields-kinds.ps) (r r' : Option (Edition × ℕ)) (x x' : AtExit (ended_of 1 fields-kinds.ps fields-kinds.r) κs)
    → fields-reads.Post κs a r x → fields-reads.Post κs a r' x' → r ≡ r'
fields-in-single κs a r r' x x' p q = p ∙ sym q
