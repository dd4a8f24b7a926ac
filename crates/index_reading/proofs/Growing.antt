-- `updated-as-fresh` and `update-again` (order W10): a table built from a shorter stream, brought up to date after bytes were added at its end, is what a
-- fresh build gives, and earlier entries keep their values; and with nothing more received nothing is changed. From the promise of `update` alone.
-- Assumes nothing.
use Rattle.std.specs.Prelude.{◌≡◌, not, cond, ℕ, ◌+◌, ◌≤◌, ltb, drop, Ok, Err}
use Rattle.std.proofs.Math.Path.{refl, sym, ap, ap₂}
use Rattle.std.proofs.Common.{◌∙◌, arith, length-take, take_at, le-ltb}
use mathlib.Core.List.{List, [], ◌++◌, map, append_assoc, map-append}
use Rattle.std.proofs.Math.ListN.{length, take, length-append, length-map}
use Rattle.std.proofs.lemmas.List.Edits.{sets-eq}
use Rattle.std.proofs.Math.Seq.{length-sets}
use Rattle.line_layout.specs.declared.Layout.{Layout}
use Rattle.frame_spec.specs.Told.{Told, told}
use Rattle.read_readings.specs.Readings.{Reading, readings}
use Rattle.read_readings.specs.Growing.{last_first}
use Rattle.read_readings.proofs.Growing.{grown}
use Rattle.read_call.specs.Answers.{longest_stream, sized_told}
use Rattle.index_spec.specs.declared.IndexRefusal.TheVariants as answer-is
use Rattle.index_spec.specs.declared.Updated.{Updated}
use Rattle.index_spec.specs.Entries.{most_entries, recorded, entries_from}
use Rattle.index_spec.specs.Updating.{judged_all, last_place, added, update_answer, update_number}
use Rattle.index_spec.specs.Cases.{Takes, refusal-keeps, told-sized}
use Rattle.index_reading.specs.Promises.{Updates, Done, Built, fresh}
use Rattle.index_reading.specs.Promises as promises
use Rattle.index_reading.specs.Last.{last-sets, last-inside, last_none, last-append}
use Rattle.index_reading.proofs.Fresh.{WasDone, was-done, take-sets}

-- the answer where the table has room, its count is no more than it keeps, and its last place is within the stream: what is left are 2, 3 and the
-- second 19
left-answer : (t : Told) (editions : ℕ) (s table : List ℕ) (count m : ℕ) → most_entries ≤ length table → count ≤ most_entries → last_place table count ≤ length s
    → count + length (added t editions s table count) ≡ m
    → update_answer t editions s table count
    ≡ cond (not (sized_told t)) (Err answer-is.Sizes)
    (cond (ltb longest_stream (length s)) (Err answer-is.TooLong)
    (cond (ltb most_entries m) (Err answer-is.Full) (Ok tt)))
unfolding update_answer
left-answer t editions s table count m r c i e =
    rw (le-ltb (length table) most_entries r, le-ltb most_entries count c, le-ltb (length s) (last_place table count) i, e)

module _ (key font : List ℕ) (editions : ℕ) (lay : Layout) where
  abbrev t : Told
  t = told key font lay

  -- the readings of a stream from a place on
  abbrev reads : List ℕ → ℕ → List Reading
  reads s from = readings (judged_all t editions) s from

  -- as many are added
  added-many : (s table : List ℕ) (count : ℕ) → length (added t editions s table count) ≡ length (reads s (last_place table count))
  unfolding added entries_from
  added-many s table count = length-map (reads s (last_place table count)) recorded

  -- a table that holds the entries of the whole stream, with their count
  pub record Current (s table : List ℕ) (count : ℕ) : Type 0 where
    pub takes : Takes t s table count
    pub holds : take count table ≡ map recorded (reads s 0)
    pub many : count ≡ length (reads s 0)
    pub last : last_place table count ≡ last_first 0 (reads s 0)

  -- what a call that is done leaves, where the entries there and those added are those of the whole stream
  whole : (s table : List ℕ) (count : ℕ) (r : Updated) (table' : List ℕ) (l : List Reading) → WasDone t editions s table count r table'
      → take count table ≡ map recorded l → count ≡ length l → last_place table count ≡ last_first 0 l → reads s 0 ≡ l ++ reads s (last_place table count)
      → Current s table' r.count
  unfolding added entries_from
  whole s table count r table' l k holds many last all =
      let new = reads s (last_place table count) in
      let n : r.count ≡ count + length (map recorded new) = ap (λ (x : Updated). x.count) k.answer-is in
      let f : count + length (map recorded new) ≤ length table = omega (arith, k.fits, k.takes.room) in
      record {
        takes = record {
          sizes = k.takes.sizes;
          short = k.takes.short;
          room = omega (arith, k.takes.room, ap length k.table_is ∙ length-sets table count (map recorded new));
          few = omega (arith, n, k.fits);
        };
        holds = ap₂ take n k.table_is ∙ take-sets table (map recorded new) count f ∙ ap (λ (x : List ℕ). x ++ map recorded new) holds
            ∙ sym (map-append recorded l new) ∙ ap (map recorded) (sym all);
        many = omega (arith, n, many, length-map new recorded, length-append l new, ap length all);
        last = ap₂ last_place k.table_is n ∙ last-sets new table count (omega (arith, f, length-map new recorded))
            ∙ ap (λ (d : ℕ). last_first d new) last ∙ last-append 0 l new ∙ ap (last_first 0) (sym all);
      }

  -- the longer stream's readings are those of the shorter and those from its last place
  more-read : (s more table : List ℕ) (count : ℕ) → Current s table count
      → reads (s ++ more) 0 ≡ reads s 0 ++ reads (s ++ more) (last_place table count)
  more-read s more table count c =
      (grown (judged_all t editions) s more 0).from_first ∙ ap (λ (d : ℕ). reads s 0 ++ reads (s ++ more) d) (sym c.last)

  pub built-current : {s table : List ℕ} {count : ℕ} → Built key font editions lay s table count → Current s table count
  unfolding last_place
  built-current (fresh s table r table' p h) =
      whole s table 0 r table' [] (was-done key font editions lay s table 0 r table' p h) refl refl refl refl
  built-current (promises.grown {s} {table} {count} b more r table' p h) =
      let c = built-current b in
      whole (s ++ more) table count r table' (reads s 0) (was-done key font editions lay (s ++ more) table count r table' p h)
      c.holds c.many c.last (more-read s more table count c)

  -- what both calls come to
  pub record AsFresh (table : List ℕ) (count : ℕ) (r : Updated) (table' : List ℕ) (f : Updated) (o' : List ℕ) : Type 0 where
    pub number_is : update_number r.answer ≡ update_number f.answer
    pub count-is : Done r → r.count ≡ f.count
    pub entries-are : Done r → take r.count table' ≡ take f.count o'
    pub kept : Done r → take count table' ≡ take count table
    pub unchanged : (Done r → ⊥) → (table' ≡ table) × (r.count ≡ count)

  -- the last place after a call that is done
  last-added : (s table : List ℕ) (count : ℕ) (r : Updated) (table' : List ℕ) → WasDone t editions s table count r table'
      → last_place table' r.count ≡ last_first (last_place table count) (reads s (last_place table count))
  unfolding added entries_from
  last-added s table count r table' k =
      let l = reads s (last_place table count) in
      ap₂ last_place k.table_is (ap (λ (x : Updated). x.count) k.answer-is)
      ∙ last-sets l table count (omega (arith, k.fits, k.takes.room, length-map l recorded))

  none-added : (s table : List ℕ) (count : ℕ) → reads s (last_place table count) ≡ [] → added t editions s table count ≡ []
  unfolding added entries_from
  none-added s table count e = ap (map recorded) e

  -- a call that is not done changes nothing
  undone : (s table : List ℕ) (count : ℕ) (r : Updated) (table' : List ℕ) → Updates key font editions lay s table count r table' → (Done r → ⊥)
      → (table' ≡ table) × (r.count ≡ count)
  undone s table count r table' p h =
      let k = refusal-keeps (update_answer t editions s table count) table (added t editions s table count) count
      (λ e. h (ap (λ (x : Updated). update_number x.answer) p.0 ∙ e)) in
      (p.1 ∙ k.0, ap (λ (x : Updated). x.count) p.0 ∙ k.1)

  -- entries below the count handed in are kept
  pub kept-below : (s table : List ℕ) (count : ℕ) (r : Updated) (table' : List ℕ) → WasDone t editions s table count r table'
      → take count table' ≡ take count table
  kept-below s table count r table' k =
      let w = added t editions s table count in
      let f : count + length w ≤ length table = omega (arith, k.fits, k.takes.room) in
      ap (take count) (k.table_is ∙ sets-eq w table count f ∙ append_assoc (take count table) w (drop (count + length w) table))
      ∙ take_at (take count table) (w ++ drop (count + length w) table) count (omega (arith, length-take count table))

  many : (s more table : List ℕ) (count : ℕ) (c : Current s table count)
      → count + length (added t editions (s ++ more) table count) ≡ length (reads (s ++ more) 0)
  many s more table count c =
      omega (
        arith,
        c.many,
        added-many (s ++ more) table count,
        ap length (more-read s more table count c),
        length-append (reads s 0)
            (reads (s ++ more) (last_place table count)),
      )

  fresh-many : (s o : List ℕ) → 0 + length (added t editions s o 0) ≡ length (reads s 0)
  unfolding last_place
  fresh-many s o = omega (arith, added-many s o 0)

  after-grown : (s table : List ℕ) (count : ℕ) → Built key font editions lay s table count
      → (more : List ℕ) (r : Updated) (table' : List ℕ) → Updates key font editions lay (s ++ more) table count r table' → Done r
      → Current (s ++ more) table' r.count
  after-grown s table count b more r table' p h = built-current (promises.grown b more r table' p h)

  after-fresh : (s o : List ℕ) (f : Updated) (o' : List ℕ) → Updates key font editions lay s o 0 f o' → Done f → Current s o' f.count
  after-fresh s o f o' q h = built-current (fresh s o f o' q h)

  current-one : {s x y : List ℕ} {n m : ℕ} → Current s x n → Current s y m → (n ≡ m) × (take n x ≡ take m y)
  current-one c d = (c.many ∙ sym d.many, c.holds ∙ sym d.holds)

  -- a table built from s, brought up to date for s ++ more, against a fresh build from s ++ more into any buffer with room
  pub updated-as-fresh : (s table : List ℕ) (count : ℕ) → Built key font editions lay s table count
      → (more : List ℕ) (r : Updated) (table' : List ℕ) → Updates key font editions lay (s ++ more) table count r table'
      → (o : List ℕ) → most_entries ≤ length o → (f : Updated) (o' : List ℕ) → Updates key font editions lay (s ++ more) o 0 f o'
      → AsFresh table count r table' f o'
  unfolding last_place
  updated-as-fresh s table count b more r table' p o room f o' q =
      let c = built-current b in
      let all = more-read s more table count c in
      let n : count + length (added t editions (s ++ more) table count) ≡ length (reads (s ++ more) 0) = many s more table count c in
      let inside : last_place table count ≤ length (s ++ more) =
      omega (arith, c.last, last-inside (judged_all t editions) s 0 (omega arith), length-append s more) in
      let same : update_answer t editions (s ++ more) table count ≡ update_answer t editions (s ++ more) o 0 =
      left-answer t editions (s ++ more) table count (length (reads (s ++ more) 0)) c.takes.room c.takes.few inside n
      ∙ sym (left-answer t editions (s ++ more) o 0 (length (reads (s ++ more) 0)) room (omega arith) (omega arith) (fresh-many (s ++ more) o)) in
      let number : update_number r.answer ≡ update_number f.answer =
      ap (λ (x : Updated). update_number x.answer) p.0 ∙ ap update_number same ∙ sym (ap (λ (x : Updated). update_number x.answer) q.0) in
      record {
        number_is = number;
        count-is = λ h. (current-one (after-grown s table count b more r table' p h) (after-fresh (s ++ more) o f o' q (sym number ∙ h))).0;
        entries-are = λ h. (current-one (after-grown s table count b more r table' p h) (after-fresh (s ++ more) o f o' q (sym number ∙ h))).1;
        kept = λ h. kept-below (s ++ more) table count r table' (was-done key font editions lay (s ++ more) table count r table' p h);
        unchanged = undone (s ++ more) table count r table' p;
      }

  -- with nothing more received nothing is changed, whatever the table
  pub update-again : (s table : List ℕ) (count : ℕ) (r : Updated) (table' : List ℕ) → Updates key font editions lay s table count r table' → Done r
      → (r₂ : Updated) (table₂ : List ℕ) → Updates key font editions lay s table' r.count r₂ table₂ → (r₂ ≡ r) × (table₂ ≡ table')
  update-again s table count r table' p h r₂ table₂ q =
      let k = was-done key font editions lay s table count r table' p h in
      let l = reads s (last_place table count) in
      let n : r.count ≡ count + length (added t editions s table count) = ap (λ (x : Updated). x.count) k.answer-is in
      let last : last_place table' r.count ≡ last_first (last_place table count) l = last-added s table count r table' k in
      let none : added t editions s table' r.count ≡ [] = none-added s table' r.count
      (ap (reads s) last ∙ last_none (judged_all t editions) s (last_place table count)) in
      let answer : update_answer t editions s table' r.count ≡ Ok tt =
      left-answer t editions s table' r.count r.count (omega (
        arith,
        ap length k.table_is ∙ length-sets table count (added t editions s table count),
        k.takes.room,
      ))
      (omega (arith, n, k.fits)) (omega (arith, last, last-inside (judged_all t editions) s (last_place table count) k.inside))
      (omega (arith, ap length none))
      ∙ rw (told-sized t k.takes.sizes, le-ltb longest_stream (length s) k.takes.short, le-ltb most_entries r.count (omega (arith, n, k.fits))) in
      let zero_more : r.count + 0 ≡ r.count = omega arith in (
        q.0 ∙ rw (answer, none, zero_more) (rw k.answer-is),
        q.1 ∙ rw (answer, none),
      )
