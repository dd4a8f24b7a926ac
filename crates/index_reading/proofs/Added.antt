-- `kept-and-added` (order W10): for any table, where the call is done, the entries below the count are as they were and those added are the stretches
-- whose first byte stands after the last place, in order and with the numbers that `read` gives. From the promises of `update` and `read` alone.
-- Assumes nothing.
use Rattle.std.specs.Prelude.{◌≡◌, refl, List, [], ◌∷◌, ◌++◌, map, ℕ, zero, suc, ◌+◌, ◌≤◌, ◌<◌, length, take, drop}
use Rattle.std.proofs.Common.{sym, ap, ◌∙◌, arith, eq-eqb}
use Rattle.std.proofs.lemmas.List.Edits.{sets-eq}
use Rattle.base_lists.specs.Below.{Below}
use Rattle.line_spec.specs.Lines.{longest}
use Rattle.line_layout.specs.declared.Layout.{Layout}
use Rattle.read_stretch.specs.Stretches.{next_span, next_stretch}
use Rattle.read_stretch.specs.Meaning.{Stretch}
use Rattle.read_stretch.specs.Places.{NoneFrom, Found, Next, nothing, something}
use Rattle.read_stretch.proofs.Places.{next-cases}
use Rattle.frame_spec.specs.Told.{Told, told}
use Rattle.read_spec.specs.Ceiling.{all_work}
use Rattle.read_spec.specs.Sizes.{Sizes}
use Rattle.read_readings.specs.Readings.{reading, readings, readings-step}
use Rattle.read_readings.proofs.Joining.{found-step}
use Rattle.read_readings.proofs.Growing.{inside}
use Rattle.read_call.specs.declared.Reading.{Reading}
use Rattle.read_call.specs.Answers as reader
use Rattle.demand_reading.specs.Promises.{Reads, Seen}
use Rattle.index_spec.specs.declared.Updated.{Updated}
use Rattle.index_spec.specs.Entries.{entry_place, entry_number, recorded, entries_from}
use Rattle.index_spec.specs.Updating.{judged_all, last_place, added}
use Rattle.index_spec.specs.Recorded.{recorded-place, recorded-number}
use Rattle.index_reading.specs.Promises.{Updates, Done, asking}
use Rattle.index_reading.specs.Runs.{stretch-read}
use Rattle.index_reading.proofs.Fresh.{was-done}

-- a stretch that starts after a place, and no other does before it; and a call of `read` from that place, with room for a line, sees it there and gives
-- it that number
pub record After (key font : List ℕ) (editions a : ℕ) (lay : Layout) (s : List ℕ) (from place number : ℕ) : Type 0 where
  pub closing : ℕ
  pub stretch : Stretch s place closing
  pub later : from < place
  pub least : (b e : ℕ) → from < b → Stretch s b e → place ≤ b
  pub numbered : (l : List ℕ) (r : Reading) (l' : List ℕ) → longest ≤ length l → Reads key font (asking editions a lay) s from l r l'
      → (r.first ≡ place) × (r.closing ≡ closing) × (reader.answer_number r.answer ≡ number)

-- the entries of all stretches that start after a place, one after the other
pub data AllAfter (key font : List ℕ) (editions a : ℕ) (lay : Layout) (s : List ℕ) : ℕ → List ℕ → Type 0 where
  no_more : {from : ℕ} → NoneFrom s from → AllAfter key font editions a lay s from []
  one_more : {from : ℕ} (e : ℕ) {rest : List ℕ} → After key font editions a lay s from (entry_place e) (entry_number e)
      → AllAfter key font editions a lay s (entry_place e) rest → AllAfter key font editions a lay s from (e ∷ rest)

module _ (key font : List ℕ) (editions a : ℕ) (lay : Layout) (s : List ℕ) (z : Sizes (told key font lay)) (h : length s ≤ reader.longest_stream)
    (bytes : Below 256 s) (all : all_work ≤ a) where
  abbrev t : Told
  t = told key font lay

  found_after : (from : ℕ) → from ≤ length s → (f : Found s from (next_span s from))
      → After key font editions a lay s from (entry_place (recorded (reading (next_span s from) (judged_all t editions (next_stretch s from)))))
      (entry_number (recorded (reading (next_span s from) (judged_all t editions (next_stretch s from)))))
  found_after from i f =
      let r = reading (next_span s from) (judged_all t editions (next_stretch s from)) in
      rw (recorded-place r, recorded-number r) (record {
        closing = (next_span s from).closing;
        stretch = f.stretch;
        later = f.later;
        least = f.least;
        numbered = λ l o l' g p.
            let (c, e) = stretch-read key font editions a lay s z h bytes all from i f l o l' g p in
            let first : o.first ≡ (next_span s from).first = omega (arith, ap (λ (v : Seen). v.first) e) in
            (first, c, ap (λ (v : Seen). v.number) e);
      })

  on : (from : ℕ) → from ≤ length s → Next s from (next_span s from)
      → (Found s from (next_span s from) → AllAfter key font editions a lay s (next_span s from).first
      (map recorded (readings (judged_all t editions) s (next_span s from).first)))
      → AllAfter key font editions a lay s from (map recorded (readings (judged_all t editions) s from))
  on from i (nothing e n) k =
      let none : readings (judged_all t editions) s from ≡ [] = readings-step (judged_all t editions) s from ∙ rw (e, eq-eqb (length s) (length s) refl) in
      rw none (no_more n)
  on from i (something f) k =
      let r = reading (next_span s from) (judged_all t editions (next_stretch s from)) in
      let rest = map recorded (readings (judged_all t editions) s (next_span s from).first) in
      let on : AllAfter key font editions a lay s (entry_place (recorded r)) rest = rw (recorded-place r) (k f) in
      rw (found-step (judged_all t editions) s from f, ← inside (judged_all t editions) s (next_span s from).first (next_span s from).closing f.stretch)
      (one_more (recorded r) {rest = rest} (found_after from i f) on)

  walk : (n from : ℕ) → length s ≤ from + n → from ≤ length s → AllAfter key font editions a lay s from (map recorded (readings (judged_all t editions) s from))
  walk zero from g i = on from i (next-cases s from) (λ f. absurd (omega (arith, f.later, f.stretch.some, f.stretch.ends)))
  walk (suc n) from g i =
      on from i (next-cases s from) (λ f. walk n (next_span s from).first (omega (arith, f.later)) (omega (arith, f.stretch.some, f.stretch.ends)))

  -- the entries from a place on
  pub all_after : (from : ℕ) → from ≤ length s → AllAfter key font editions a lay s from (entries_from (judged_all t editions) s from)
  unfolding entries_from
  all_after from i = walk (length s) from (omega arith) i

-- the table after a call that is done: what stood below the count, the entries added, and what stood behind them
pub record KeptAndAdded (key font : List ℕ) (editions a : ℕ) (lay : Layout) (s table : List ℕ) (count : ℕ) (r : Updated) (table' : List ℕ) : Type 0 where
  pub new : List ℕ
  pub count-is : r.count ≡ count + length new
  pub table_is : table' ≡ (take count table ++ new) ++ drop r.count table
  pub after_last : AllAfter key font editions a lay s (last_place table count) new

pub kept-and-added : (key font : List ℕ) (editions a : ℕ) (lay : Layout) (s table : List ℕ) (count : ℕ) (r : Updated) (table' : List ℕ) → Below 256 s
    → all_work ≤ a
    → Updates key font editions lay s table count r table' → Done r → KeptAndAdded key font editions a lay s table count r table'
unfolding added
kept-and-added key font editions a lay s table count r table' bytes all p h =
    let k = was-done key font editions lay s table count r table' p h in
    let w = added (told key font lay) editions s table count in
    let n : r.count ≡ count + length w = ap (λ (x : Updated). x.count) k.answer-is in
    record {
      new = w;
      count-is = n;
      table_is = k.table_is ∙ sets-eq w table count (omega (arith, k.fits, k.takes.room)) ∙ ap (λ (m : ℕ). (take count table ++ w) ++ drop m table) (sym n);
      after_last = all_after key font editions a lay s k.takes.sizes k.takes.short bytes all (last_place table count) k.inside;
    }

-- where the count is 0 that is every stretch: no first byte stands at the stream's start
pub all-stretches : (s table : List ℕ) (p q : ℕ) → Stretch s p q → last_place table 0 < p
unfolding last_place
all-stretches s table p q x = x.behind
