-- What the exported calls of orders W12 and W10 promise of one call, on plain lists (FromContracts.antt beside this has that it is their contracts), and what the
-- theorems speak of: a whole run of `lubdhvani_read`, and tables that were built. Assumes nothing: these are definitions.
use Rattle.std.specs.Prelude.{◌≡◌, List, ◌++◌, ℕ}
use Rattle.line_layout.specs.Layouts.{layout_of}
use Rattle.frame_spec.specs.Told.{told}
use Rattle.read_nonce.specs.declared.Nonce.{Nonce}
use Rattle.read_nonce.specs.Nonces.{nonce_answer}
use Rattle.demand_reading.specs.Promises.{Seen}
use Rattle.demand_reading.specs.Reaching.{Ended}
use Rattle.index_spec.specs.Updating.{updated, updated_table}
use Rattle.index_entry.specs.Lookups.{entry_at, line_at}
use Rattle.accept_spec.specs.Accepting.{accept_answer}
use Rattle.lubdhvani.specs.Accepting.{accepted_out}
use Rattle.lubdhvani.specs.Index.{updated_out, entry_out, line_out}
use Rattle.lubdhvani.specs.declared.accept.Accepted.{Accepted}
use Rattle.lubdhvani.specs.declared.index.Indexed.{Indexed}
use Rattle.lubdhvani.specs.declared.index.Entry.{Entry}
use Rattle.lubdhvani.specs.declared.index.EntryLine.{EntryLine}
use Rattle.lubdhvani.specs.declared.read.Asked.{Asked}
use Rattle.lubdhvani_demands.specs.Promises.{Run}

-- accepting the stream s under this key, font digest, editions and layout's number may answer r
abbrev pub Accepts : List ℕ → List ℕ → ℕ → ℕ → List ℕ → Accepted → Type 0
Accepts key font editions lay s r = r ≡ accepted_out (accept_answer (told key font (layout_of lay)) editions s)

-- the nonce of the bytes b may be answered to be n
abbrev pub Tells : List ℕ → Nonce → Type 0
Tells b n = n ≡ nonce_answer b

-- bringing a table of so many entries up to date with the stream s, under this key, font digest, editions and layout's number, may answer r and leave table'
abbrev pub Updates : List ℕ → List ℕ → ℕ → ℕ → List ℕ → List ℕ → ℕ → Indexed → List ℕ → Type 0
Updates key font editions lay s table count r table' =
    (r ≡ updated_out (updated (told key font (layout_of lay)) editions s table count))
    × (table' ≡ updated_table (told key font (layout_of lay)) editions s table count)

-- the look-ups of an entry and of a line in a table of so many entries may answer r
abbrev pub Finds : List ℕ → ℕ → ℕ → Entry → Type 0
Finds table count index r = r ≡ entry_out (entry_at table count index)

abbrev pub FindsLine : List ℕ → ℕ → ℕ → EntryLine → Type 0
FindsLine table count k r = r ≡ line_out (line_at table count k)

-- read calls from the stream's start to its end, and what is seen
pub record WholeRun (key font : List ℕ) (asked : Asked) (s : List ℕ) : Type 0 where
  pub seen : List Seen
  pub run : Run key font asked s 0 0 seen
  pub ended : Ended seen

-- a table with its count, built fresh from a stream and brought up to date as bytes were added at its end, under one key, font, editions and
-- layout, each call answering 0
pub data Built (key font : List ℕ) (editions lay : ℕ) : List ℕ → List ℕ → ℕ → Type 0 where
  fresh : (s table : List ℕ) (r : Indexed) (table' : List ℕ) → Updates key font editions lay s table 0 r table' → r.number ≡ 0
      → Built key font editions lay s table' r.count
  grown : {s table : List ℕ} {count : ℕ} → Built key font editions lay s table count
      → (more : List ℕ) (r : Indexed) (table' : List ℕ) → Updates key font editions lay (s ++ more) table count r table' → r.number ≡ 0
      → Built key font editions lay (s ++ more) table' r.count
