-- `c-kth-line` and `c-entry-seen` (order W10 over the exported calls): in a table built from a stream `lubdhvani_index_line` finds the k-th line that a whole
-- run of `lubdhvani_read` gives, and `lubdhvani_index_entry` each stretch that it sees, by its place and number; and there is none exactly where there are
-- fewer. That the stream is bytes is a premise; what the call is passed meets it by its type (Bytes.antt). Assumes nothing.
use Rattle.std.specs.Prelude.{◌≡◌, refl, ℕ, ◌-◌, ◌≤◌, ◌<◌}
use Rattle.std.proofs.Math.Path.{sym, ap, subst}
use Rattle.std.proofs.Common.{◌∙◌, arith, lt-ltb, le-ltb}
use mathlib.Core.List.{List, map}
use Rattle.std.proofs.Math.ListN.{length, take, get_or, length-map, get_or-map}
use Rattle.std.proofs.Math.Seq.{take-take}
use Rattle.base_lists.specs.Below.{Below}
use Rattle.line_layout.specs.Layouts.{layout_of}
use Rattle.frame_spec.specs.Told.{told}
use Rattle.read_spec.specs.Ceiling.{all_work}
use Rattle.read_readings.specs.Readings.{readings}
use Rattle.demand_reading.specs.Promises.{Seen}
use Rattle.index_spec.specs.Entries.{most_entries, entry_place, entry_number}
use Rattle.index_spec.specs.Updating.{judged_all}
use Rattle.index_entry.specs.declared.Entry as found
use Rattle.index_entry.specs.Lookups.{looked_at, entry_is, entry_at, line_at}
use Rattle.index_entry.specs.Lookups as lookups
use Rattle.index_reading.specs.Promises.{stretches_seen, entry_seen}
use Rattle.index_reading.specs.Runs.{run-readings}
use Rattle.index_reading.proofs.Fresh.{AsRead, as_read}
use Rattle.index_reading.proofs.Growing.{built-current}
use Rattle.index_reading.proofs.Lines.{lines_seen, kth-line}
use Rattle.lubdhvani.specs.Index.{entry_out, line_out}
use Rattle.lubdhvani.specs.declared.index.Entry.{Entry}
use Rattle.lubdhvani.specs.declared.index.EntryLine.{EntryLine}
use Rattle.lubdhvani.specs.declared.read.Asked.{Asked}
use Rattle.lubdhvani_orders.specs.Promises.{Finds, FindsLine, WholeRun, Built}
use Rattle.lubdhvani_orders.specs.Whole.{c-whole}
use Rattle.lubdhvani_orders.specs.Growing.{c-built}

-- there is none: all 0
abbrev pub no_line : EntryLine
no_line = record { there = 0; index = 0; place = 0 }

abbrev pub no_entry : Entry
no_entry = record { there = 0; place = 0; number = 0 }

-- the look-up of the k-th line, against the lines that a run sees
pub record KthLine (seen : List Seen) (k : ℕ) (r : EntryLine) : Type 0 where
  pub there : 0 < k → k ≤ length (lines_seen (stretches_seen seen))
      → (r.there ≡ 1) × (r.place ≡ get_or (map (λ (v : Seen). v.first) (lines_seen (stretches_seen seen))) (k - 1) 0)
  pub none : length (lines_seen (stretches_seen seen)) < k → r ≡ no_line
  pub not-zero : k ≡ 0 → r ≡ no_line

-- the look-up of an entry, against the stretches that a run sees
pub record EntrySeen (seen : List Seen) (index : ℕ) (r : Entry) : Type 0 where
  pub there : index < length (stretches_seen seen)
      → (r.there ≡ 1)
      × (r.place ≡ get_or (map (λ (v : Seen). v.first) (stretches_seen seen)) index 0)
      × (r.number ≡ get_or (map (λ (v : Seen). v.number) (stretches_seen seen)) index 0)
  pub none : length (stretches_seen seen) ≤ index → r ≡ no_entry

module _ (key font : List ℕ) (asked : Asked) (s : List ℕ) (bytes : Below 256 s) (all : all_work ≤ asked.allowed) (u : WholeRun key font asked s)
    (table : List ℕ) (count : ℕ) (b : Built key font asked.editions asked.layout s table count) where
  pub c-kth-line : (k : ℕ) (r : EntryLine) → FindsLine table count k r → KthLine u.seen k r
  c-kth-line k r p =
      let z = kth-line key font asked.editions asked.allowed (layout_of asked.layout) s bytes all (c-whole u) table count
      (c-built key font asked.editions asked.layout b) k (line_at table count k) refl in
      subst (KthLine u.seen k) (sym p) (record {
        there = z.there;
        none = λ h. ap line_out (z.none h);
        not-zero = λ h. ap line_out (z.not-zero h);
      })

  -- the entries are what the run sees, and those alone are looked at
  built-read : AsRead u.seen count table × (looked_at table count ≡ take count table)
  unfolding looked_at
  built-read =
      let lay = layout_of asked.layout in
      let c = built-current key font asked.editions lay (c-built key font asked.editions asked.layout b) in
      let w = c-whole u in (
        as_read (readings (judged_all (told key font lay) asked.editions) s 0) u.seen
            (run-readings key font asked.editions asked.allowed lay s c.takes.sizes c.takes.short bytes all 0 (omega arith) w.run w.ended)
            count table c.many c.holds,
        take-take count most_entries table c.takes.few,
      )

  pub c-entry-seen : (index : ℕ) (r : Entry) → Finds table count index r → EntrySeen u.seen index r
  unfolding entry_at
  c-entry-seen index r p =
      let (z, looked) = built-read in
      let e = take count table in
      let many : length (looked_at table count) ≡ length (stretches_seen u.seen) =
      ap length (looked ∙ z.entries-are) ∙ length-map (stretches_seen u.seen) entry_seen in
      subst (EntrySeen u.seen index) (sym p) (record {
        there = λ h.
            let is : entry_at table count index ≡ entry_is (get_or e index 0) =
            rw (lt-ltb index (length (looked_at table count)) (omega (arith, h, many)), looked) in (
              ap (λ (o : found.Entry). o.there) is,
              ap (λ (o : found.Entry). o.place) is ∙ sym (get_or-map entry_place e index 0) ∙ ap (λ (l : List ℕ). get_or l index 0) z.places-are,
              ap (λ (o : found.Entry). o.number) is ∙ sym (get_or-map entry_number e index 0) ∙ ap (λ (l : List ℕ). get_or l index 0) z.numbers-are,
            );
        none = λ h.
            let is : entry_at table count index ≡ lookups.no_entry = rw (le-ltb index (length (looked_at table count)) (omega (arith, h, many))) in
            ap entry_out is;
      })
