-- The promises of `press_row`, `start` and `pressed_length`, as the check reads them (`Post`), admit a single answer, a single window and a single row
-- buffer. Assumes nothing.
use Rattle.std.proofs.Common.{◌≡◌, ℕ, sym, ◌∙◌}
use contract.Lifetimes.{Lfts}
use denote.Triple.Clauses.{AtExit}
use borrow.Fn.Kinds.{Dens, ended_of}
use Rattle.tool_press.specs.declared.Press.{Press}
use Rattle.tool_press.specs.declared.Turn.{Turn}
use Rattle.tool_press.proofs.press_row.Kinds as kinds
use Rattle.tool_press.proofs.press_row.Reads.{Post}
use Rattle.tool_press.proofs.start.Kinds as start-kinds
use Rattle.tool_press.proofs.start.Reads as start-reads
use Rattle.tool_press.proofs.pressed_length.Kinds as length-kinds
use Rattle.tool_press.proofs.pressed_length.Reads as length-reads

pub press-row-single : (κs : Lfts 5) (a : Dens κs kinds.ps) (r r' : Turn) (x x' : AtExit (ended_of 5 kinds.ps kinds.r) κs)
    → Post κs a r x → Post κs a r' x'
    → (r ≡ r') × (x.0.now ≡ x'.0.now) × (x.1.1.1.1.1.0.now ≡ x'.1.1.1.1.1.0.now)
press-row-single κs a r r' x x' p q = (p.0 ∙ sym q.0, p.1.0 ∙ sym q.1.0, p.1.1 ∙ sym q.1.1)

pub start-single : (κs : Lfts 0) (a : Dens κs start-kinds.ps) (r r' : Press) (x x' : AtExit (ended_of 0 start-kinds.ps start-kinds.r) κs)
    → start-reads.Post κs a r x → start-reads.Post κs a r' x' → r ≡ r'
start-single κs a r r' x x' p q = p ∙ sym q

pub pressed-length-single : (κs : Lfts 0) (a : Dens κs length-kinds.ps) (r r' : ℕ) (x x' : AtExit (ended_of 0 length-kinds.ps length-kinds.r) κs)
    → length-reads.Post κs a r x → length-reads.Post κs a r' x' → r ≡ r'
pressed-length-single κs a r r' x x' p q = p ∙ sym q
