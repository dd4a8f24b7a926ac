-- What `desk` promises of one call, on plain lists (FromContracts.antt beside this has that it is its contract), and what the theorems speak of: an item
-- that chooses a line, and what is seen of it. Assumes nothing: these are definitions.
use Rattle.std.specs.Prelude.{◌≡◌, List, [], ◌∷◌, ℕ, ◌+◌, ◌-◌, ◌<◌, take, Result}
use Rattle.line_layout.specs.declared.Layout.{Layout}
use Rattle.read_stretch.specs.Stretches.{span, bytes_at}
use Rattle.frame_spec.specs.Told.{Told, told}
use Rattle.read_readings.specs.Readings.{reading}
use Rattle.demand_reading.specs.Promises.{Seen}
use Rattle.demand_joined.specs.Seeing.{seen_of}
use Rattle.index_spec.specs.Updating.{judged_all}
use Rattle.desk_spec.specs.declared.DeskRefusal.{DeskRefusal}
use Rattle.desk_spec.specs.Desk.{place_of, closing_of, desk_call, desk_out, desk_number, length_of}
use Rattle.desk_spec.specs.Chosen.{LineAt}

-- the desk, with this stream, table of so many entries, list and output o, under this key, font digest, editions and layout, may answer r and leave out
abbrev pub Desks : List ℕ → List ℕ → ℕ → Layout → List ℕ → List ℕ → ℕ → List ℕ → List ℕ → Result ℕ DeskRefusal → List ℕ → Type 0
Desks key font editions lay s table count list o r out =
    (r ≡ desk_call (told key font lay) editions s table count list o) × (out ≡ desk_out (told key font lay) editions s table count list o)

-- its number is 0
abbrev pub Done : Result ℕ DeskRefusal → Type 0
Done r = desk_number r ≡ 0

-- the new stream: as many bytes of the output as are answered
abbrev pub written : Result ℕ DeskRefusal → List ℕ → List ℕ
written r out = take (length_of r) out

-- an item below the count, at whose entry's place a stretch starts that reads as a line
pub record ItemLine (t : Told) (editions : ℕ) (s table : List ℕ) (count i : ℕ) : Type 0 where
  pub below : i < count
  pub closing : ℕ
  pub there : LineAt t editions s (place_of table i) closing

abbrev pub AllLines : Told → ℕ → List ℕ → List ℕ → ℕ → List ℕ → Type 0
AllLines t editions s table count [] = Unit {0}
AllLines t editions s table count (i ∷ list) = ItemLine t editions s table count i × AllLines t editions s table count list

-- what is seen of an item's stretch in the stream given
abbrev pub given_seen : Told → ℕ → List ℕ → List ℕ → ℕ → Seen
given_seen t editions s table i =
    seen_of (reading (span (place_of table i) (closing_of t editions s (place_of table i)))
    (judged_all t editions (bytes_at s (span (place_of table i) (closing_of t editions s (place_of table i))))))

-- the same, where its opening mark stands at a place
abbrev pub moved_to : ℕ → Seen → Seen
moved_to at v = record {
  number = v.number;
  ended = v.ended;
  first = at + 1;
  closing = at + 1 + (v.closing - v.first);
  calls = v.calls;
  edition = v.edition;
  job = v.job;
  line = v.line;
}

-- where the next one opens: marks are never shared
abbrev pub behind : ℕ → Seen → ℕ
behind at v = at + 1 + (v.closing - v.first) + 1

-- one after the other, the first opening at a place
abbrev pub moved_all : ℕ → List Seen → List Seen
moved_all at [] = []
moved_all at (v ∷ l) = moved_to at v ∷ moved_all (behind at v) l
