-- The contracts of `seal` and `open`, as the check reads them (`Post`), are `seal_named` and `open_named` at what the number names, and so
-- at a known instance `seal_call` and `open_call`: whatever a proved call gives, what specs/Exactly.antt states holds of it. Assumes nothing.
use Rattle.std.specs.Prelude.{Result}
use mathlib.Core.Path.{◌≡◌}
use mathlib.Core.List.{List}
use Prim.Native.Nat.{ℕ}
use contract.Lifetimes.{Lfts}
use denote.Triple.Clauses.{AtExit}
use borrow.Fn.Kinds.{Dens, ended_of}
use Rattle.ingage_spec.specs.Instances.{named}
use Rattle.ingage_answers.specs.declared.SealRefusal.{SealRefusal}
use Rattle.ingage_answers.specs.declared.OpenRefusal.{OpenRefusal}
use Rattle.ingage_answers.specs.Answers.{SealCall, seal_named, OpenCall, open_named}
use Rattle.ingage_call.proofs.seal.Kinds as seal-kinds
use Rattle.ingage_call.proofs.seal.Reads as seal-reads
use Rattle.ingage_call.proofs.open.Kinds as open-kinds
use Rattle.ingage_call.proofs.open.Reads as open-reads

-- an answer, and the buffers afterwards, are those of the definition
abbrev pub Seals : SealCall → Result ℕ SealRefusal → List ℕ → List ℕ → Type 0
Seals c r out seal = (r ≡ c.answer) × ((out ≡ c.out) × (seal ≡ c.seal))

abbrev pub Opens : OpenCall → Result ℕ OpenRefusal → List ℕ → Type 0
Opens c r out = (r ≡ c.answer) × (out ≡ c.out)

-- the arguments are instance, key, nonce, associated data, message, buffer and seal buffer
pub seal-promises : (κs : Lfts 6) (a : Dens κs seal-kinds.ps) (r : Result ℕ SealRefusal) (x : AtExit (ended_of 6 seal-kinds.ps seal-kinds.r) κs)
    → seal-reads.Post κs a r x
    → Seals (seal_named (named a.0) a.1.0.now a.1.1.0.now a.1.1.1.0.now a.1.1.1.1.0.now a.1.1.1.1.1.0.now
    a.1.1.1.1.1.1.0.now)
    r x.1.1.1.1.1.0.now x.1.1.1.1.1.1.0.now
seal-promises κs a r x p = p

-- the arguments are instance, key, nonce, associated data, ciphertext, seal and buffer
pub open-promises : (κs : Lfts 6) (a : Dens κs open-kinds.ps) (r : Result ℕ OpenRefusal) (x : AtExit (ended_of 6 open-kinds.ps open-kinds.r) κs)
    → open-reads.Post κs a r x
    → Opens (open_named (named a.0) a.1.0.now a.1.1.0.now a.1.1.1.0.now a.1.1.1.1.0.now a.1.1.1.1.1.0.now
    a.1.1.1.1.1.1.0.now)
    r x.1.1.1.1.1.1.0.now
open-promises κs a r x p = p
