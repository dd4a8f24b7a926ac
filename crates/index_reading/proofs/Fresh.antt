-- `fresh-as-read` (order W10): a fresh build that is done holds, in order, exactly the stretches that a whole run of `read` sees, each with its place
-- and its number. From the promises of `update` and `read` alone. Assumes nothing.
use Rattle.std.specs.Prelude.{◌≡◌, refl, List, [], ◌∷◌, ◌++◌, map, ℕ, ◌+◌, ◌≤◌, length, take, drop, Ok, Result, ⊤}
use Rattle.std.proofs.Common.{sym, ap, ap₂, ◌∙◌, arith, length-append, length-take, take_at}
use Rattle.std.proofs.lemmas.List.{length-map}
use Rattle.std.proofs.lemmas.List.Edits.{sets, sets-eq}
use Rattle.base_lists.specs.Below.{Below}
use Rattle.line_layout.specs.declared.Layout.{Layout}
use Rattle.frame_spec.specs.Told.{Told, told}
use Rattle.read_spec.specs.Ceiling.{all_work}
use Rattle.read_readings.specs.Readings.{Reading, readings}
use Rattle.demand_reading.specs.Promises.{Seen}
use Rattle.demand_reading.specs.Whole.{WholeRun}
use Rattle.index_spec.specs.declared.IndexRefusal.{IndexRefusal}
use Rattle.index_spec.specs.declared.Updated.{Updated}
use Rattle.index_spec.specs.Entries.{most_entries, entry_place, entry_number, recorded, entries_from}
use Rattle.index_spec.specs.Updating.{judged_all, last_place, added, update_answer, update_number, count_of, table_of, answered}
use Rattle.index_spec.specs.Recorded.{recorded-place, recorded-number}
use Rattle.index_spec.specs.Cases.{Takes, Case, bad-sizes, too_long, no_room, over, beyond, full, done, update-case}
use Rattle.index_reading.specs.Promises.{Updates, Done, asking, stretches_seen, entry_seen}
use Rattle.index_reading.specs.Runs.{seen_of, recorded-seen, run-readings}

-- what is known of a call that is done
pub record WasDone (t : Told) (editions : ℕ) (s table : List ℕ) (count : ℕ) (r : Updated) (table' : List ℕ) : Type 0 where
  pub takes : Takes t s table count
  pub inside : last_place table count ≤ length s
  pub fits : count + length (added t editions s table count) ≤ most_entries
  pub answer-is : r ≡ answered (Ok tt) (count + length (added t editions s table count))
  pub table_is : table' ≡ sets table count (added t editions s table count)

pub was-done : (key font : List ℕ) (editions : ℕ) (lay : Layout) (s table : List ℕ) (count : ℕ) (r : Updated) (table' : List ℕ)
    → Updates key font editions lay s table count r table' → Done r → WasDone (told key font lay) editions s table count r table'
was-done key font editions lay s table count r table' p h = go (update_answer t editions s table count) (update-case t editions s table count) p.0 p.1
  where
    t : Told
    t = told key font lay

    w : List ℕ
    w = added t editions s table count

    go : (a : Result ⊤ IndexRefusal) → Case t editions s table count a → r ≡ answered a (count_of a count w) → table' ≡ table_of a table count w
        → WasDone t editions s table count r table'
    go _ (bad-sizes n) e d = absurd (omega (arith, ap (λ (x : Updated). update_number x.answer) e, h))
    go _ (too_long z n) e d = absurd (omega (arith, ap (λ (x : Updated). update_number x.answer) e, h))
    go _ (no_room z l n) e d = absurd (omega (arith, ap (λ (x : Updated). update_number x.answer) e, h))
    go _ (over z l m n) e d = absurd (omega (arith, ap (λ (x : Updated). update_number x.answer) e, h))
    go _ (beyond k n) e d = absurd (omega (arith, ap (λ (x : Updated). update_number x.answer) e, h))
    go _ (full k l n) e d = absurd (omega (arith, ap (λ (x : Updated). update_number x.answer) e, h))
    go _ (done k l n) e d = record { takes = k; inside = l; fits = n; answer-is = e; table_is = d }

-- the entries below the new count
pub take-sets : (o w : List ℕ) (count : ℕ) → count + length w ≤ length o → take (count + length w) (sets o count w) ≡ take count o ++ w
take-sets o w count h =
    ap (take (count + length w)) (sets-eq w o count h)
    ∙ take_at (take count o ++ w) (drop (count + length w) o) (count + length w) (omega (arith, length-append (take count o) w, length-take count o))

-- a table's first entries are what a run saw
pub record AsRead (seen : List Seen) (count : ℕ) (table : List ℕ) : Type 0 where
  pub count-is : count ≡ length (stretches_seen seen)
  pub entries-are : take count table ≡ map entry_seen (stretches_seen seen)
  pub places-are : map entry_place (take count table) ≡ map (λ (v : Seen). v.first) (stretches_seen seen)
  pub numbers-are : map entry_number (take count table) ≡ map (λ (v : Seen). v.number) (stretches_seen seen)

places : (l : List Reading) → map entry_place (map recorded l) ≡ map (λ (v : Seen). v.first) (map seen_of l)
places [] = refl
places (r ∷ l) = ap₂ ◌∷◌ (recorded-place r) (places l)

numbers : (l : List Reading) → map entry_number (map recorded l) ≡ map (λ (v : Seen). v.number) (map seen_of l)
numbers [] = refl
numbers (r ∷ l) = ap₂ ◌∷◌ (recorded-number r) (numbers l)

-- entries that are a stream's readings are what a run to the end saw
pub as_read : (l : List Reading) (seen : List Seen) → stretches_seen seen ≡ map seen_of l
    → (count : ℕ) (table : List ℕ) → count ≡ length l → take count table ≡ map recorded l → AsRead seen count table
as_read l seen e count table n d = record {
  count-is = n ∙ sym (length-map l seen_of) ∙ ap length (sym e);
  entries-are = d ∙ sym (recorded-seen l) ∙ ap (map entry_seen) (sym e);
  places-are = ap (map entry_place) d ∙ places l ∙ ap (map (λ (v : Seen). v.first)) (sym e);
  numbers-are = ap (map entry_number) d ∙ numbers l ∙ ap (map (λ (v : Seen). v.number)) (sym e);
}

pub fresh-as-read : (key font : List ℕ) (editions a : ℕ) (lay : Layout) (s : List ℕ) → Below 256 s → all_work ≤ a
    → (u : WholeRun key font (asking editions a lay) s) (table : List ℕ) (r : Updated) (table' : List ℕ)
    → Updates key font editions lay s table 0 r table' → Done r → AsRead u.seen r.count table'
unfolding added last_place entries_from
fresh-as-read key font editions a lay s bytes all u table r table' p h =
    let t = told key font lay in
    let k = was-done key font editions lay s table 0 r table' p h in
    let l = readings (judged_all t editions) s 0 in
    let n : r.count ≡ length (map recorded l) = ap (λ (x : Updated). x.count) k.answer-is ∙ omega arith in
    as_read l u.seen (run-readings key font editions a lay s k.takes.sizes k.takes.short bytes all 0 (omega arith) u.run u.ended)
    r.count table' (n ∙ length-map l recorded)
    (ap₂ take (ap (λ (x : Updated). x.count) k.answer-is) k.table_is ∙ take-sets table (map recorded l) 0 (omega (arith, k.fits, k.takes.room)))
