-- The promises of `new`, `place`, `next` and `walked` admit a single answer: the same struct, the same place, the same reading, the same
-- walker and the same bytes left in the line buffer. `X-says`: the contract that is checked says exactly `X`; `X-single`: whatever meets it
-- is the same. Assumes nothing.
use mathlib.Core.Path.{◌≡◌, refl, sym, ap, ◌∙◌}
use Prim.Native.Nat.{ℕ}
use seplogic.Ra.Ura.{Ura}
use base.Logic.{SProp}
use prog.Memory.{Memory}
use prog.Routine.{Routine}
use types.Logic.{Logic}
use contract.Lifetimes.{Lfts}
use contract.Monad.{Fun, fact}
use denote.Triple.Entry.{Args}
use denote.Triple.Clauses.{AtExit}
use Rattle.frame_spec.specs.Told.{told}
use Rattle.read_call.specs.Answers.{read_out}
use Rattle.read_call.specs.declared.Reading.{Reading}
use Rattle.read_walk.specs.Steps.{step_of, Nexts}
use Rattle.read_walk.specs.declared.Step.{Step}
use Rattle.read_walk.specs.declared.Walker.{Walker}
use Rattle.read_walk.specs.contracts.new as new
use Rattle.read_walk.specs.contracts.place as place
use Rattle.read_walk.specs.contracts.next as next
use Rattle.read_walk.specs.contracts.walked as walked

-- what each contract says of the parameters a, the result r and the parameters at exit x
abbrev pub New : (κs : Lfts 1) → Args new.signature κs → Walker → Type 0
New κs a r = (r.stream ≡ a.0) × (r.at ≡ 0)

abbrev pub Place : (κs : Lfts 1) → Args place.signature κs → ℕ → Type 0
Place κs a r = r ≡ a.0.at

abbrev pub Next : (κs : Lfts 5) → Args next.signature κs → Reading → AtExit next.ended κs → Type 0
Next κs a r x = Nexts a.1.0.now a.1.1.0.now a.1.1.1.0 a.0.now a.1.1.1.1.0.now r x.0.now x.1.1.1.1.0.now

abbrev pub Walked : (κs : Lfts 4) → Args walked.signature κs → Step → AtExit walked.ended κs → Type 0
Walked κs a r x = (r ≡ step_of (told a.1.1.0.now a.1.1.1.0.now a.1.1.1.1.0.layout) a.1.1.1.1.0 a.0.now a.1.0
    a.1.1.1.1.1.0.now)
    × (x.1.1.1.1.1.0.now ≡ read_out (told a.1.1.0.now a.1.1.1.0.now a.1.1.1.1.0.layout) a.1.1.1.1.0 a.0.now a.1.0
    a.1.1.1.1.1.0.now)

module _ {M : Type 1} {𝓤 : Ura M} (𝓛 : Logic 𝓤) (mem : Memory → SProp 𝓤) (run : Routine → Fun 𝓤) where
  pub new-says : (κs : Lfts 1) (a : Args new.signature κs) (r : Walker) (x : AtExit new.ended κs)
      → (new.clauses 𝓛 mem run κs a).ensures tt r x ≡ fact 𝓤 (New κs a r)
  new-says κs a r x = refl

  pub place-says : (κs : Lfts 1) (a : Args place.signature κs) (r : ℕ) (x : AtExit place.ended κs)
      → (place.clauses 𝓛 mem run κs a).ensures tt r x ≡ fact 𝓤 (Place κs a r)
  place-says κs a r x = refl

  pub next-says : (κs : Lfts 5) (a : Args next.signature κs) (r : Reading) (x : AtExit next.ended κs)
      → (next.clauses 𝓛 mem run κs a).ensures tt r x ≡ fact 𝓤 (Next κs a r x)
  next-says κs a r x = refl

  pub walked-says : (κs : Lfts 4) (a : Args walked.signature κs) (r : Step) (x : AtExit walked.ended κs)
      → (walked.clauses 𝓛 mem run κs a).ensures tt r x ≡ fact 𝓤 (Walked κs a r x)
  walked-says κs a r x = refl

pub new-single : (κs : Lfts 1) (a : Args new.signature κs) (r r' : Walker) → New κs a r → New κs a r' → r ≡ r'
new-single κs a r r' p q = λ i. record { stream = (p.0 ∙ sym q.0) i; at = (p.1 ∙ sym q.1) i }

pub place-single : (κs : Lfts 1) (a : Args place.signature κs) (r r' : ℕ) → Place κs a r → Place κs a r' → r ≡ r'
place-single κs a r r' p q = p ∙ sym q

pub next-single : (κs : Lfts 5) (a : Args next.signature κs) (r r' : Reading) (x x' : AtExit next.ended κs) → Next κs a r x → Next κs a r' x'
    → (r ≡ r') × (x.0.now ≡ x'.0.now) × (x.1.1.1.1.0.now ≡ x'.1.1.1.1.0.now)
next-single κs a r r' x x' p q =
    let e : r ≡ r' = p.0 ∙ sym q.0 in
    let at-is : x.0.now.at ≡ x'.0.now.at = p.3 ∙ ap (λ (y : Reading). y.closing) e ∙ sym q.3 in
    (e, λ i. record { stream = (p.2 ∙ sym q.2) i; at = at-is i }, p.1 ∙ sym q.1)

pub walked-single : (κs : Lfts 4) (a : Args walked.signature κs) (r r' : Step) (x x' : AtExit walked.ended κs) → Walked κs a r x → Walked κs a r' x'
    → (r ≡ r') × (x.1.1.1.1.1.0.now ≡ x'.1.1.1.1.1.0.now)
walked-single κs a r r' x x' p q = (p.0 ∙ sym q.0, p.1 ∙ sym q.1)
