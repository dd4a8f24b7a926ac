-- `c-kept-and-added` (order W10 over the exported calls): for any table, where `lubdhvani_index_update` answers 0, the entries below the count are as they were
-- and those added are the stretches whose first byte stands after the last place, in order and with the numbers that `lubdhvani_read` gives. That the stream is
-- bytes is a premise; what the call is passed meets it by its type (Bytes.antt). Assumes nothing.
use Rattle.std.specs.Prelude.{◌≡◌, refl, List, [], ◌∷◌, ◌++◌, ℕ, ◌+◌, ◌≤◌, ◌<◌, length, take, drop}
use Rattle.std.proofs.Common.{sym, ap, subst, ◌∙◌}
use Rattle.base_lists.specs.Below.{Below}
use Rattle.line_spec.specs.Lines.{longest}
use Rattle.line_layout.specs.Layouts.{layout_of}
use Rattle.read_stretch.specs.Meaning.{Stretch}
use Rattle.read_stretch.specs.Places.{NoneFrom}
use Rattle.frame_spec.specs.Told.{Told, told}
use Rattle.read_spec.specs.Ceiling.{all_work}
use Rattle.read_call.specs.Answers.{read_answer}
use Rattle.index_spec.specs.Entries.{entry_place, entry_number}
use Rattle.index_spec.specs.Updating.{last_place, updated}
use Rattle.index_reading.proofs.Added as below
use Rattle.lubdhvani.specs.Readings.{asked_of}
use Rattle.lubdhvani.specs.declared.index.Indexed.{Indexed}
use Rattle.lubdhvani.specs.declared.read.Asked.{Asked}
use Rattle.lubdhvani.specs.declared.read.Reading.{Reading}
use Rattle.lubdhvani_demands.specs.Promises.{Reads}
use Rattle.lubdhvani_orders.specs.Promises.{Updates}

-- a stretch that starts after a place, and no other does before it; and a read call from that place, with room for a line, sees it there and gives it that
-- number
pub record After (key font : List ℕ) (asked : Asked) (s : List ℕ) (from place number : ℕ) : Type 0 where
  pub closing : ℕ
  pub stretch : Stretch s place closing
  pub later : from < place
  pub least : (b e : ℕ) → from < b → Stretch s b e → place ≤ b
  pub numbered : (l : List ℕ) (r : Reading) (l' : List ℕ) → longest ≤ length l → Reads key font asked s from l r l'
      → (r.first ≡ place) × (r.closing ≡ closing) × (r.number ≡ number)

-- the entries of all stretches that start after a place, one after the other
pub data AllAfter (key font : List ℕ) (asked : Asked) (s : List ℕ) : ℕ → List ℕ → Type 0 where
  no_more : {from : ℕ} → NoneFrom s from → AllAfter key font asked s from []
  one_more : {from : ℕ} (e : ℕ) {rest : List ℕ} → After key font asked s from (entry_place e) (entry_number e)
      → AllAfter key font asked s (entry_place e) rest → AllAfter key font asked s from (e ∷ rest)

-- the table after a call that answers 0: what stood below the count, the entries added, and what stood behind them
pub record KeptAndAdded (key font : List ℕ) (asked : Asked) (s table : List ℕ) (count : ℕ) (r : Indexed) (table' : List ℕ) : Type 0 where
  pub new : List ℕ
  pub count-is : r.count ≡ count + length new
  pub table_is : table' ≡ (take count table ++ new) ++ drop r.count table
  pub after_last : AllAfter key font asked s (last_place table count) new

module _ (key font : List ℕ) (asked : Asked) (s : List ℕ) where
  abbrev t : Told
  t = told key font (layout_of asked.layout)

  -- as a read call from C says it
  after-c : (from place number : ℕ) → below.After key font asked.editions asked.allowed (layout_of asked.layout) s from place number
      → After key font asked s from place number
  after-c from place number a = record {
    closing = a.closing;
    stretch = a.stretch;
    later = a.later;
    least = a.least;
    numbered = λ l r l' g p.
        let (x, y, z) = a.numbered l (read_answer t (asked_of asked) s from l) l' g (refl, p.1) in
        (ap (λ (o : Reading). o.first) p.0 ∙ x, ap (λ (o : Reading). o.closing) p.0 ∙ y, ap (λ (o : Reading). o.number) p.0 ∙ z);
  }

  all-after-c : {from : ℕ} {w : List ℕ} → below.AllAfter key font asked.editions asked.allowed (layout_of asked.layout) s from w
      → AllAfter key font asked s from w
  all-after-c (below.no_more n) = no_more n
  all-after-c {from} (below.one_more e {rest} a on) = one_more e {rest = rest} (after-c from (entry_place e) (entry_number e) a) (all-after-c on)

  pub c-kept-and-added : Below 256 s → all_work ≤ asked.allowed → (table : List ℕ) (count : ℕ) (r : Indexed) (table' : List ℕ)
      → Updates key font asked.editions asked.layout s table count r table' → r.number ≡ 0 → KeptAndAdded key font asked s table count r table'
  c-kept-and-added bytes all table count r table' p e =
      let n = updated t asked.editions s table count in
      let k = below.kept-and-added key font asked.editions asked.allowed (layout_of asked.layout) s table count n table' bytes all (refl, p.1)
      (sym (ap (λ (x : Indexed). x.number) p.0) ∙ e) in
      subst (λ (x : Indexed). KeptAndAdded key font asked s table count x table') (sym p.0) (record {
        new = k.new;
        count-is = k.count-is;
        table_is = k.table_is;
        after_last = all-after-c k.after_last;
      })
