-- What a whole run of `read` sees, all the work allowed, is the readings that accepting goes by. Assumes nothing.
use Rattle.std.specs.Prelude.{◌≡◌, refl, List, [], ◌∷◌, map, ℕ, ◌-◌, ◌≤◌, length}
use Rattle.std.proofs.Common.{ap₂, ◌∙◌, arith}
use Rattle.std.proofs.Math.Path.{ap}
use Rattle.base_lists.specs.Below.{Below, below-take, below-drop}
use Rattle.read_stretch.specs.Stretches.{next_span, next_stretch}
use Rattle.frame_spec.specs.Told.{told}
use Rattle.read_spec.specs.Sizes.{Sizes}
use Rattle.read_spec.specs.Judging.{judge}
use Rattle.read_spec.specs.Ceiling.{all_work}
use Rattle.read_spec.proofs.Allowance.{all-allowed}
use Rattle.read_readings.specs.Readings.{Reading, readings}
use Rattle.read_call.specs.declared.Asked.{Asked}
use Rattle.read_call.specs.Answers.{longest_stream, judged_within}
use Rattle.demand_reading.specs.Promises.{Seen}
use Rattle.demand_reading.specs.Whole.{WholeRun}
use Rattle.demand_joined.specs.Seeing.{seen_of, seen_to, run-readings}
use Rattle.accept_spec.specs.Accepting.{read_all}
use Rattle.accept_spec.specs.Exactly.{Lines, nonces_of}
use Rattle.accept_spec.specs.Readings.{readings-by}
use Rattle.accept_runs.specs.Promises.{stretches_seen, nonce_seen, LinesSeen}

-- the bytes of a stretch are bytes
pub stretch-below : (s : List ℕ) (from : ℕ) → Below 256 s → Below 256 (next_stretch s from)
unfolding next_stretch
stretch-below s from b =
    let p = next_span s from in below-take 256 (p.closing - p.first) _ (below-drop 256 p.first s b)

without_end : (n : ℕ) (rs : List Reading) → stretches_seen (seen_to n rs) ≡ map seen_of rs
without_end n [] = refl
without_end n (r ∷ rs) = ap (λ (l : List Seen). seen_of r ∷ l) (without_end n rs)

module _ (key font : List ℕ) (asked : Asked) (enough : all_work ≤ asked.allowed) (s : List ℕ) (bytes : Below 256 s)
    (z : Sizes (told key font asked.layout)) (h : length s ≤ longest_stream) where
  pub whole-seen : (w : WholeRun key font asked s) → stretches_seen w.seen ≡ map seen_of (read_all (told key font asked.layout) asked.editions s)
  unfolding judged_within
  whole-seen w =
      let t = told key font asked.layout in
      ap stretches_seen (run-readings key font asked s z h 0 (omega arith) w.run w.ended)
      ∙ without_end (length s) (readings (judged_within t asked) s 0)
      ∙ ap (map seen_of) (readings-by (judged_within t asked) (judge t asked.editions) s
      (λ from. all-allowed t z asked.editions (next_stretch s from) (stretch-below s from bytes) asked.allowed enough) 0)

-- in the words of readings
pub lines-seen : (rs : List Reading) → Lines rs → LinesSeen (map seen_of rs)
lines-seen [] l = tt
lines-seen (r ∷ rs) l = (l.0, lines-seen rs l.1)

pub seen-lines : (rs : List Reading) → LinesSeen (map seen_of rs) → Lines rs
seen-lines [] l = tt
seen-lines (r ∷ rs) l = (l.0, seen-lines rs l.1)

pub nonces-seen : (s : List ℕ) (rs : List Reading) → map (nonce_seen s) (map seen_of rs) ≡ nonces_of s rs
nonces-seen s [] = refl
nonces-seen s (r ∷ rs) = ap₂ ◌∷◌ refl (nonces-seen s rs)
