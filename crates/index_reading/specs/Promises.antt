-- What `update`, `entry_at` and `line_at` promise of one call, on plain lists (FromContracts.antt beside this has that it is their contracts), and what
-- the theorems speak of: a whole run of `read` without its end, and tables that were built. Assumes nothing: these are definitions.
use Rattle.std.specs.Prelude.{◌≡◌, cond, List, [], ◌∷◌, ◌++◌, ℕ}
use Rattle.line_layout.specs.declared.Layout.{Layout}
use Rattle.frame_spec.specs.Told.{told}
use Rattle.read_call.specs.declared.Asked.{Asked}
use Rattle.demand_reading.specs.Promises.{Seen}
use Rattle.index_spec.specs.declared.Updated.{Updated}
use Rattle.index_spec.specs.Entries.{entry_of}
use Rattle.index_spec.specs.Updating.{update_number, updated, updated_table}
use Rattle.index_entry.specs.declared.Entry.{Entry}
use Rattle.index_entry.specs.declared.Line.{Line}
use Rattle.index_entry.specs.Lookups.{entry_at, line_at}

-- bringing a table of so many entries up to date with the stream s, under this key, font digest, editions and layout, may answer r and leave table'
abbrev pub Updates : List ℕ → List ℕ → ℕ → Layout → List ℕ → List ℕ → ℕ → Updated → List ℕ → Type 0
Updates key font editions lay s table count r table' =
    (r ≡ updated (told key font lay) editions s table count) × (table' ≡ updated_table (told key font lay) editions s table count)

-- its number is 0
abbrev pub Done : Updated → Type 0
Done r = update_number r.answer ≡ 0

-- the look-ups of an entry and of a line in a table of so many entries may answer r
abbrev pub Finds : List ℕ → ℕ → ℕ → Entry → Type 0
Finds table count index r = r ≡ entry_at table count index

abbrev pub FindsLine : List ℕ → ℕ → ℕ → Line → Type 0
FindsLine table count k r = r ≡ line_at table count k

-- what `read` is asked, with so many calls of the permutation allowed
abbrev pub asking : ℕ → ℕ → Layout → Asked
asking editions allowed lay = record { editions = editions; allowed = allowed; layout = lay }

-- the stretches that a run sees: its readings without the end
abbrev pub stretches_seen : List Seen → List Seen
stretches_seen [] = []
stretches_seen (v ∷ l) = cond v.ended (stretches_seen l) (v ∷ stretches_seen l)

-- as an entry: its place and its number
abbrev pub entry_seen : Seen → ℕ
entry_seen v = entry_of v.first v.number

-- a table with its count, built fresh from a stream and brought up to date as bytes were added at its end, under one key, font, editions and
-- layout, each call done
pub data Built (key font : List ℕ) (editions : ℕ) (lay : Layout) : List ℕ → List ℕ → ℕ → Type 0 where
  fresh : (s table : List ℕ) (r : Updated) (table' : List ℕ) → Updates key font editions lay s table 0 r table' → Done r
      → Built key font editions lay s table' r.count
  grown : {s table : List ℕ} {count : ℕ} → Built key font editions lay s table count
      → (more : List ℕ) (r : Updated) (table' : List ℕ) → Updates key font editions lay (s ++ more) table count r table' → Done r
      → Built key font editions lay (s ++ more) table' r.count
