-- The promises of the C calls of the running digest admit a single answer. Their contracts are over a record lent, so they are read off here as
-- statements of their own; `X-says`: the contract that is checked says exactly that. Assumes nothing.
use mathlib.Core.Path.{◌≡◌, refl, sym, ◌∙◌}
use Prim.Native.Nat.{ℕ}
use seplogic.Ra.Ura.{Ura}
use base.Logic.{SProp}
use prog.Memory.{Memory}
use prog.Routine.{Routine}
use types.Logic.{Logic}
use contract.Lifetimes.{Lfts}
use contract.Monad.{Fun, fact}
use denote.Triple.Entry.{Args}
use denote.Triple.Clauses.{AtExit}
use Rattle.running_spec.specs.Running.{start_answer, start_record, start_number, feed_answer, feed_record, feed_number, finish_answer, finish_record, finish_out}
use Rattle.lubdhvani.specs.Answers.{finished}
use Rattle.lubdhvani.specs.declared.answers.Counted.{Counted}
use Rattle.lubdhvani.specs.contracts.running.lubdhvani_start as start
use Rattle.lubdhvani.specs.contracts.running.lubdhvani_feed as feed
use Rattle.lubdhvani.specs.contracts.running.lubdhvani_finish as finish

-- what the contracts say of the parameters a, the answer r and the parameters at exit x
abbrev pub Start : (κs : Lfts 1) → Args start.signature κs → ℕ → AtExit start.ended κs → Type 0
Start κs a r x = (r ≡ start_number (start_answer a.1.0)) × (x.0.now ≡ start_record a.0.now a.1.0)

abbrev pub Feed : (κs : Lfts 2) → Args feed.signature κs → ℕ → AtExit feed.ended κs → Type 0
Feed κs a r x = (r ≡ feed_number (feed_answer a.0.now a.1.0.now)) × (x.0.now ≡ feed_record a.0.now a.1.0.now)

abbrev pub Finish : (κs : Lfts 2) → Args finish.signature κs → Counted → AtExit finish.ended κs → Type 0
Finish κs a r x = (r ≡ finished (finish_answer a.0.now a.1.0.now)) × (x.0.now ≡ finish_record a.0.now a.1.0.now)
    × (x.1.0.now ≡ finish_out a.0.now a.1.0.now)

-- the contracts that are checked say exactly that
module _ {M : Type 1} {𝓤 : Ura M} (𝓛 : Logic 𝓤) (mem : Memory → SProp 𝓤) (run : Routine → Fun 𝓤) where
  pub start-says : (κs : Lfts 1) (a : Args start.signature κs) (r : ℕ) (x : AtExit start.ended κs)
      → (start.clauses 𝓛 mem run κs a).ensures tt r x ≡ fact 𝓤 (Start κs a r x)
  start-says κs a r x = refl

  pub feed-says : (κs : Lfts 2) (a : Args feed.signature κs) (r : ℕ) (x : AtExit feed.ended κs)
      → (feed.clauses 𝓛 mem run κs a).ensures tt r x ≡ fact 𝓤 (Feed κs a r x)
  feed-says κs a r x = refl

  pub finish-says : (κs : Lfts 2) (a : Args finish.signature κs) (r : Counted) (x : AtExit finish.ended κs)
      → (finish.clauses 𝓛 mem run κs a).ensures tt r x ≡ fact 𝓤 (Finish κs a r x)
  finish-says κs a r x = refl

-- number and record
pub lubdhvani-start-single : (κs : Lfts 1) (a : Args start.signature κs) (r r' : ℕ) (x x' : AtExit start.ended κs) → Start κs a r x → Start κs a r' x'
    → (r ≡ r') × (x.0.now ≡ x'.0.now)
lubdhvani-start-single κs a r r' x x' p q = (p.0 ∙ sym q.0, p.1 ∙ sym q.1)

pub lubdhvani-feed-single : (κs : Lfts 2) (a : Args feed.signature κs) (r r' : ℕ) (x x' : AtExit feed.ended κs) → Feed κs a r x → Feed κs a r' x'
    → (r ≡ r') × (x.0.now ≡ x'.0.now)
lubdhvani-feed-single κs a r r' x x' p q = (p.0 ∙ sym q.0, p.1 ∙ sym q.1)

-- number with count, record and buffer
pub lubdhvani-finish-single : (κs : Lfts 2) (a : Args finish.signature κs) (r r' : Counted) (x x' : AtExit finish.ended κs) → Finish κs a r x
    → Finish κs a r' x'
    → (r ≡ r') × (x.0.now ≡ x'.0.now) × (x.1.0.now ≡ x'.1.0.now)
lubdhvani-finish-single κs a r r' x x' p q = (p.0 ∙ sym q.0, p.1 ∙ sym q.1, p.2 ∙ sym q.2)
