-- `first-fault` (order W12), from the promises alone: where the number is none of 0, 2, 3 and 19, every stretch before the one named reads as a line and
-- their nonces differ, and the one named is refused with that number, or, with 22, reads as a line itself and repeats a nonce of theirs. Assumes nothing.
use Rattle.std.specs.Prelude.{◌≡◌, refl, List, [], ◌∷◌, ◌++◌, map, ℕ, ◌≤◌, length}
use Rattle.std.proofs.Common.{sym, ap, subst, ◌∙◌}
use Rattle.base_lists.specs.Below.{Below}
use Rattle.frame_spec.specs.Told.{Told, told}
use Rattle.read_spec.specs.Sizes.{Sizes}
use Rattle.read_spec.specs.Ceiling.{all_work}
use Rattle.read_readings.specs.Readings.{Reading}
use Rattle.read_call.specs.declared.Asked.{Asked}
use Rattle.read_call.specs.Answers.{longest_stream}
use Rattle.demand_reading.specs.Promises.{Seen}
use Rattle.demand_reading.specs.Whole.{WholeRun}
use Rattle.demand_joined.specs.Seeing.{seen_of}
use Rattle.accept_spec.specs.declared.Accepted.{Accepted}
use Rattle.accept_spec.specs.Nonces.{Occurs, AllDiffer}
use Rattle.accept_spec.specs.Accepting.{read_all, accept_answer, accept_number}
use Rattle.accept_spec.specs.Exactly as exactly
use Rattle.accept_spec.specs.Exactly.{Fault, all-good, at-fault}
use Rattle.accept_spec.proofs.Cases.{Case, sizes-wrong, long, many, judged, accept-case}
use Rattle.accept_runs.specs.Promises.{Accepts, stretches_seen, nonce_seen, LinesSeen}

-- none of the numbers that name no stretch
pub record NamesOne (n : ℕ) : Type 0 where
  pub not_yes : n ≡ 0 → ⊥
  pub not-sizes : n ≡ 2 → ⊥
  pub not-long : n ≡ 3 → ⊥
  pub not-many : n ≡ 19 → ⊥

-- why a stretch is named with a number, behind lines with these nonces
pub data Because (s : List ℕ) (before : List (List ℕ)) (v : Seen) : ℕ → Type 0 where
  refused : (v.number ≡ 0 → ⊥) → Because s before v v.number
  repeats : v.number ≡ 0 → Occurs (nonce_seen s v) before → Because s before v 22

-- the stretch named among those that a run sees
pub record Named (s : List ℕ) (r : Accepted) (seen : List Seen) : Type 0 where
  pub before : List Seen
  pub this : Seen
  pub behind : List Seen
  pub parts : seen ≡ before ++ (this ∷ behind)
  pub first-is : r.first ≡ this.first
  pub closing-is : r.closing ≡ this.closing
  pub lines : LinesSeen before
  pub differ : AllDiffer (map (nonce_seen s) before)
  pub because : Because s (map (nonce_seen s) before) this (accept_number r.answer)

-- the call could read the stream, and so it names a stretch of every whole run
pub record Faulted (key font : List ℕ) (asked : Asked) (s : List ℕ) (r : Accepted) : Type 0 where
  pub sizes : Sizes (told key font asked.layout)
  pub short : length s ≤ longest_stream
  pub named : (w : WholeRun key font asked s) → Named s r (stretches_seen w.seen)
