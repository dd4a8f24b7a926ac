-- Demand 3 for the walker, from the promise of `next` alone: calls of `next`, each of the walker that the one before left, are a run of read
-- calls over the walker's stream from the place reached. So what is proved of runs is said of a press that holds a walker. Assumes nothing.
use Rattle.std.specs.Prelude.{◌≡◌, List, ℕ}
use Rattle.std.proofs.Common.{ap, subst}
use Rattle.read_call.specs.declared.Asked.{Asked}
use Rattle.read_walk.specs.declared.Walker.{Walker}
use Rattle.read_walk.specs.Steps.{stream_of, place_of}
use Rattle.demand_reading.specs.Promises.{Seen, Run, none, next}
use Rattle.demand_reading.specs.Walking.{Walk, stays, moves}

pub walk-run : {key font : List ℕ} {asked : Asked} {w : Walker} {seen : List Seen} → Walk key font asked w seen
    → Run key font asked (stream_of w) 0 (place_of w) seen
walk-run stays = none
walk-run {key} {font} {asked} {w} (moves r w' l l' {rest} g p q) =
    let on : Run key font asked (stream_of w) 0 r.closing rest =
    subst (λ (s : List ℕ). Run key font asked s 0 r.closing rest) (ap (λ x. x.now) p.2)
    (subst (λ (n : ℕ). Run key font asked (stream_of w') 0 n rest) p.3 (walk-run q)) in
    next r l l' g (p.0, p.1) on

-- of a walker at the start of the stream s, as `new` makes it
pub walk-from-start : {key font : List ℕ} {asked : Asked} {s : List ℕ} {w : Walker} {seen : List Seen} → stream_of w ≡ s → place_of w ≡ 0
    → Walk key font asked w seen → Run key font asked s 0 0 seen
walk-from-start {key} {font} {asked} {s} {w} {seen} e f q =
    subst (λ (x : List ℕ). Run key font asked x 0 0 seen) e (subst (λ (n : ℕ). Run key font asked (stream_of w) 0 n seen) f (walk-run q))
