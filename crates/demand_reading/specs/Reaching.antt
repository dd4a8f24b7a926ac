-- Read calls made from an earlier place until the end of the stream come to every mark on their way: some of them close at the mark or
-- before it, and the others are calls made from the mark. From the promise of `read` alone. Assumes nothing.
use Rattle.std.specs.Prelude.{◌≡◌, true, false, List, [], ◌∷◌, ◌++◌, ℕ, ◌≤◌}
use Rattle.read_call.specs.declared.Asked.{Asked}
use Rattle.demand_reading.specs.Promises.{Seen, Run}

-- calls made until the end of the stream is answered: by the last call, and by none before it
pub data Ended : List Seen → Type 0 where
  at-end : {v : Seen} → v.ended ≡ true → Ended (v ∷ [])
  before-end : {v : Seen} {rest : List Seen} → v.ended ≡ false → Ended rest → Ended (v ∷ rest)

-- each closes at place i or before it, places counted from the start
abbrev pub ClosedBy : ℕ → List Seen → Type 0
ClosedBy i [] = Unit {0}
ClosedBy i (v ∷ l) = (v.closing ≤ i) × ClosedBy i l

-- some calls that close at place i or before it, and then calls from place i to the end
pub record Reaches (key font : List ℕ) (asked : Asked) (s : List ℕ) (i : ℕ) (seen : List Seen) : Type 0 where
  pub before : List Seen
  pub after : List Seen
  pub parts : seen ≡ before ++ after
  pub closed : ClosedBy i before
  pub run : Run key font asked s 0 i after
  pub ended : Ended after
