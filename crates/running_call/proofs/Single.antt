-- The promises of `start`, `feed` and `finish` are `Starts`, `Feeds` and `Finishes`, of which specs/Cutting.antt of `running_spec` speaks (`X-says`: the
-- contract that is checked says exactly that), and admit a single answer, a single record and a single buffer (`X-single`). Assumes nothing.
use Rattle.std.specs.Prelude.{Result, ⊤, ℕ}
use mathlib.Core.Path.{◌≡◌, refl, sym, ◌∙◌}
use seplogic.Ra.Ura.{Ura}
use base.Logic.{SProp}
use prog.Memory.{Memory}
use prog.Routine.{Routine}
use types.Logic.{Logic}
use contract.Lifetimes.{Lfts}
use contract.Monad.{Fun, fact}
use denote.Triple.Entry.{Args}
use denote.Triple.Clauses.{AtExit}
use Rattle.running_spec.specs.Cutting.{Starts, Feeds, Finishes}
use Rattle.running_spec.specs.declared.StartRefusal.{StartRefusal}
use Rattle.running_spec.specs.declared.FeedRefusal.{FeedRefusal}
use Rattle.running_spec.specs.declared.FinishRefusal.{FinishRefusal}
use Rattle.running_call.specs.contracts.start as start
use Rattle.running_call.specs.contracts.feed as feed
use Rattle.running_call.specs.contracts.finish as finish

-- what each contract says of the parameters a, the answer r and the parameters at exit x
abbrev pub Start : (κs : Lfts 1) → Args start.signature κs → Result ⊤ StartRefusal → AtExit start.ended κs → Type 0
Start κs a r x = Starts a.0.now a.1.0 r x.0.now

abbrev pub Feed : (κs : Lfts 2) → Args feed.signature κs → Result ⊤ FeedRefusal → AtExit feed.ended κs → Type 0
Feed κs a r x = Feeds a.0.now a.1.0.now r x.0.now

abbrev pub Finish : (κs : Lfts 2) → Args finish.signature κs → Result ℕ FinishRefusal → AtExit finish.ended κs → Type 0
Finish κs a r x = Finishes a.0.now a.1.0.now r x.0.now x.1.0.now

module _ {M : Type 1} {𝓤 : Ura M} (𝓛 : Logic 𝓤) (mem : Memory → SProp 𝓤) (run : Routine → Fun 𝓤) where
  pub start-says : (κs : Lfts 1) (a : Args start.signature κs) (r : Result ⊤ StartRefusal) (x : AtExit start.ended κs)
      → (start.clauses 𝓛 mem run κs a).ensures tt r x ≡ fact 𝓤 (Start κs a r x)
  start-says κs a r x = refl

  pub feed-says : (κs : Lfts 2) (a : Args feed.signature κs) (r : Result ⊤ FeedRefusal) (x : AtExit feed.ended κs)
      → (feed.clauses 𝓛 mem run κs a).ensures tt r x ≡ fact 𝓤 (Feed κs a r x)
  feed-says κs a r x = refl

  pub finish-says : (κs : Lfts 2) (a : Args finish.signature κs) (r : Result ℕ FinishRefusal) (x : AtExit finish.ended κs)
      → (finish.clauses 𝓛 mem run κs a).ensures tt r x ≡ fact 𝓤 (Finish κs a r x)
  finish-says κs a r x = refl

pub start-single : (κs : Lfts 1) (a : Args start.signature κs) (r r' : Result ⊤ StartRefusal) (x x' : AtExit start.ended κs) → Start κs a r x → Start κs a r' x'
    → (r ≡ r') × (x.0.now ≡ x'.0.now)
start-single κs a r r' x x' p q = (p.0 ∙ sym q.0, p.1 ∙ sym q.1)

pub feed-single : (κs : Lfts 2) (a : Args feed.signature κs) (r r' : Result ⊤ FeedRefusal) (x x' : AtExit feed.ended κs) → Feed κs a r x → Feed κs a r' x'
    → (r ≡ r') × (x.0.now ≡ x'.0.now)
feed-single κs a r r' x x' p q = (p.0 ∙ sym q.0, p.1 ∙ sym q.1)

pub finish-single : (κs : Lfts 2) (a : Args finish.signature κs) (r r' : Result ℕ FinishRefusal) (x x' : AtExit finish.ended κs) → Finish κs a r x → Finish κs a r' x'
    → (r ≡ r') × (x.0.now ≡ x'.0.now) × (x.1.0.now ≡ x'.1.0.now)
finish-single κs a r r' x x' p q = (p.0 ∙ sym q.0, p.1 ∙ sym q.1, p.2 ∙ sym q.2)
