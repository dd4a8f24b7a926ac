-- What the steps of bringing up to date ask and give. Assumes nothing: these are definitions.
use Rattle.std.specs.Prelude.{◌≡◌, List, ℕ, ◌≤◌, length}
use Rattle.read_stretch.specs.Stretches.{next_span, next_stretch}
use Rattle.frame_spec.specs.Told.{Told}
use Rattle.read_spec.specs.Judged.{number_in}
use Rattle.read_spec.specs.Sizes.{Sizes}
use Rattle.read_call.specs.Answers.{longest_stream}
use Rattle.index_spec.specs.Entries.{entry_of, entries_from}
use Rattle.index_spec.specs.Updating.{judged_all}
use Rattle.index_call.specs.declared.Next.{Next}

-- a call of `read` from this place is not refused, and finds a stretch
pub record Ahead (t : Told) (s : List ℕ) (from : ℕ) : Type 0 where
  pub sizes : Sizes t
  pub short : length s ≤ longest_stream
  pub inside : from ≤ length s
  pub some : (next_span s from).first ≡ (next_span s from).closing → ⊥

abbrev pub next : ℕ → ℕ → Next
next entry closing = record { entry = entry; closing = closing }

-- the next stretch as an entry, and its closing mark
abbrev pub next_of : Told → ℕ → List ℕ → ℕ → Next
next_of t editions s from =
    next (entry_of (next_span s from).first (number_in (judged_all t editions (next_stretch s from)))) (next_span s from).closing

-- n entries are added from this place on
pub record Adding (t : Told) (editions : ℕ) (s : List ℕ) (from n : ℕ) : Type 0 where
  pub sizes : Sizes t
  pub short : length s ≤ longest_stream
  pub inside : from ≤ length s
  pub many : n ≡ length (entries_from (judged_all t editions) s from)
