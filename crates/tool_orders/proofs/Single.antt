-- The promises of `judge_order`, `order_number` and `nonce`, as the check reads them (`Post`), admit a single answer. Assumes nothing.
use Rattle.std.specs.Prelude.{Option}
use mathlib.Core.Path.{◌≡◌, sym, ◌∙◌}
use mathlib.Core.List.{List}
use Prim.Native.Nat.{ℕ}
use contract.Lifetimes.{Lfts}
use denote.Triple.Clauses.{AtExit}
use borrow.Fn.Kinds.{Dens, ended_of}
use Rattle.tool_orders.proofs.judge_order.Kinds as judge-kinds
use Rattle.tool_orders.proofs.judge_order.Reads as judge-reads
use Rattle.tool_orders.proofs.order_number.Kinds as number-kinds
use Rattle.tool_orders.proofs.order_number.Reads as number-reads
use Rattle.tool_orders.proofs.nonce.Kinds as nonce-kinds
use Rattle.tool_orders.proofs.nonce.Reads as nonce-reads

pub judge-order-single : (κs : Lfts 1) (a : Dens κs judge-kinds.ps) (r r' : Option ℕ) (x x' : AtExit (ended_of 1 judge-kinds.ps judge-kinds.r) κs)
    → judge-reads.Post κs a r x → judge-reads.Post κs a r' x' → r ≡ r'
judge-order-single κs a r r' x x' p q = p ∙ sym q

pub order-number-single : (κs : Lfts 0) (a : Dens κs number-kinds.ps) (r r' : ℕ) (x x' : AtExit (ended_of 0 number-kinds.ps number-kinds.r) κs)
    → number-reads.Post κs a r x → number-reads.Post κs a r' x' → r ≡ r'
order-number-single κs a r r' x x' p q = p ∙ sym q

pub nonce-single : (κs : Lfts 1) (a : Dens κs nonce-kinds.ps) (r r' : List ℕ) (x x' : AtExit (ended_of 1 nonce-kinds.ps nonce-kinds.r) κs)
    → nonce-reads.Post κs a r x → nonce-reads.Post κs a r' x' → r ≡ r'
nonce-single κs a r r' x x' p q = p ∙ sym q
