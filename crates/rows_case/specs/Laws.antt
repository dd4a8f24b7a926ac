-- The cases of a head's number and of a part, one law for each return. Assumes nothing.
use Rattle.std.specs.Prelude.{◌≡◌, ℕ, ◌-◌, ◌*◌, ◌/◌, ◌<◌, ◌≤◌, List, [], length, take, drop}
use Rattle.std.proofs.Common.{le-leb, lt-ltb, le-ltb}
use Rattle.std.proofs.lemmas.Bool.{lt-leb}
use Rattle.rows_case.specs.Cases.{number_at, number_in, part_in, part_start}

pub number_past : (h : List ℕ) (i : ℕ) → length h / 4 ≤ i → 0 ≡ number_in h i
unfolding number_in
number_past h i p = rw (le-ltb i (length h / 4) p)

pub number-held : (h : List ℕ) (i : ℕ) → i < length h / 4 → number_at h (4 * i) ≡ number_in h i
unfolding number_in
number-held h i p = rw (lt-ltb i (length h / 4) p)

-- no part: its bytes and its start
abbrev pub NoPart : List ℕ → ℕ → ℕ → Type 0
NoPart s from to = ([] ≡ part_in s from to) × (0 ≡ part_start s from to)

pub part-past : (s : List ℕ) (from to : ℕ) → length s < to → NoPart s from to
unfolding part_in part_start
part-past s from to p = let no = lt-leb to (length s) p in (rw no, rw no)

pub part-crossed : (s : List ℕ) (from to : ℕ) → to ≤ length s → to < from → NoPart s from to
unfolding part_in part_start
part-crossed s from to p q =
    let in-it = le-leb to (length s) p in
    let no = lt-leb from to q in (rw (in-it, no), rw (in-it, no))

pub part_held : (s : List ℕ) (from to : ℕ) → to ≤ length s → from ≤ to
    → (take (to - from) (drop from s) ≡ part_in s from to) × (from ≡ part_start s from to)
unfolding part_in part_start
part_held s from to p q =
    let in-it = le-leb to (length s) p in
    let yes = le-leb from to q in (rw (in-it, yes), rw (in-it, yes))
