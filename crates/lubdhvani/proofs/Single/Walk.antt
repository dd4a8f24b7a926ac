-- The promise of the walker's C call admits a single answer. Its contract is over a record lent, so it is read off here as a statement of its own;
-- `next-says`: the contract that is checked says exactly that. Assumes nothing.
use mathlib.Core.Path.{◌≡◌, refl, sym, ap, ◌∙◌}
use seplogic.Ra.Ura.{Ura}
use base.Logic.{SProp}
use prog.Memory.{Memory}
use prog.Routine.{Routine}
use types.Logic.{Logic}
use contract.Lifetimes.{Lfts}
use contract.Monad.{Fun, fact}
use denote.Triple.Entry.{Args}
use denote.Triple.Clauses.{AtExit}
use Rattle.line_layout.specs.Layouts.{layout_of}
use Rattle.frame_spec.specs.Told.{told}
use Rattle.read_call.specs.Answers.{read_answer, read_out}
use Rattle.lubdhvani.specs.Readings.{asked_of, reading_out}
use Rattle.lubdhvani.specs.declared.read.Reading.{Reading}
use Rattle.lubdhvani.specs.contracts.walk.lubdhvani_next as next

-- what the contract says of the parameters a, the reading r and the parameters at exit x
abbrev pub Next : (κs : Lfts 5) → Args next.signature κs → Reading → AtExit next.ended κs → Type 0
Next κs a r x =
    (r ≡ reading_out (read_answer (told a.1.0.now a.1.1.0.now (layout_of a.1.1.1.0.layout)) (asked_of a.1.1.1.0)
    a.0.now.stream.now a.0.now.at a.1.1.1.1.0.now))
    × (x.1.1.1.1.0.now ≡ read_out (told a.1.0.now a.1.1.0.now (layout_of a.1.1.1.0.layout)) (asked_of a.1.1.1.0)
    a.0.now.stream.now a.0.now.at a.1.1.1.1.0.now)
    × (x.0.now.stream ≡ a.0.now.stream)
    × (x.0.now.at ≡ r.closing)

module _ {M : Type 1} {𝓤 : Ura M} (𝓛 : Logic 𝓤) (mem : Memory → SProp 𝓤) (run : Routine → Fun 𝓤) where
  pub next-says : (κs : Lfts 5) (a : Args next.signature κs) (r : Reading) (x : AtExit next.ended κs)
      → (next.clauses 𝓛 mem run κs a).ensures tt r x ≡ fact 𝓤 (Next κs a r x)
  next-says κs a r x = refl

-- the reading, the walker and the line
pub lubdhvani-next-single : (κs : Lfts 5) (a : Args next.signature κs) (r r' : Reading) (x x' : AtExit next.ended κs) → Next κs a r x → Next κs a r' x'
    → (r ≡ r') × (x.0.now ≡ x'.0.now) × (x.1.1.1.1.0.now ≡ x'.1.1.1.1.0.now)
lubdhvani-next-single κs a r r' x x' p q =
    let e : r ≡ r' = p.0 ∙ sym q.0 in
    let at-is : x.0.now.at ≡ x'.0.now.at = p.3 ∙ ap (λ (y : Reading). y.closing) e ∙ sym q.3 in
    (e, λ i. record { stream = (p.2 ∙ sym q.2) i; at = at-is i }, p.1 ∙ sym q.1)
