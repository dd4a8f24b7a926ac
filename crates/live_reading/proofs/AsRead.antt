-- `live-as-read`: of a stream within document 01's limit, a run of steps gives what a whole run of `read` sees from its start, reading by reading, and
-- the end is what `read` answers then. From the promises alone. Assumes nothing.
use Rattle.std.specs.Prelude.{◌≡◌, refl, false, List, [], ◌∷◌, ◌++◌, map, ℕ, ◌≤◌, length}
use Rattle.std.proofs.Common.{sym, ap, ◌∙◌, arith}
use Rattle.frame_stuff_spec.specs.Stuffing.{longest_stretch}
use Rattle.frame_spec.specs.Told.{told}
use Rattle.read_spec.specs.Sizes.{Sizes}
use Rattle.read_readings.specs.Readings.{Reading, readings}
use Rattle.read_call.specs.declared.Asked.{Asked}
use Rattle.read_call.specs.Answers.{longest_stream, judged_within}
use Rattle.demand_reading.specs.Promises as reading
use Rattle.demand_reading.specs.Promises.{Seen}
use Rattle.demand_reading.specs.Reaching.{Ended}
use Rattle.demand_joined.specs.Seeing.{seen_of, the_end, run-readings}
use Rattle.live_spec.specs.declared.Numbers.{Numbers}
use Rattle.live_spec.specs.Taking.{no_bytes}
use Rattle.live_reading.specs.Promises.{Given, given_of, Run, whole}
use Rattle.live_reading.proofs.Whole.{live-as-whole}
use Rattle.live_reading.specs.AsRead.{as_seen}

both : (l : List Reading) → map seen_of l ≡ map as_seen (map given_of l)
both [] = refl
both (r ∷ l) = ap (λ (x : List Seen). seen_of r ∷ x) (both l)

pub live-as-read : (key font : List ℕ) (asked : Asked) → Sizes (told key font asked.layout) → {w : List ℕ} → length w ≡ longest_stretch
    → (ps : List (List ℕ)) → length (whole ps) ≤ longest_stream
    → {g : List Given} {m : Numbers} {v : List ℕ} → Run key font asked no_bytes w ps g m v
    → {seen : List Seen} → reading.Run key font asked (whole ps) 0 0 seen → Ended seen
    → seen ≡ map as_seen g ++ (the_end (length (whole ps)) ∷ [])
live-as-read key font asked z h ps few run reads end =
    run-readings key font asked (whole ps) z few 0 (omega arith) reads end
    ∙ ap (λ (x : List Seen). x ++ (the_end (length (whole ps)) ∷ []))
    (both (readings (judged_within (told key font asked.layout) asked) (whole ps) 0)
    ∙ ap (map as_seen) (sym (live-as-whole key font asked z h ps (omega (arith, few)) run)))
