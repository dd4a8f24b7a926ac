-- `ten-exactly` and `nineteen-exactly` (order W10): 10 exactly where the last place recorded is beyond the stream, and 19 exactly where the count handed in
-- is over 512 or there would be more than 512 entries, each after the refusals before it. From the promises of `update` and `read` alone.
-- Assumes nothing.
use Rattle.std.specs.Prelude.{◌≡◌, refl, ◌⊎◌, List, ℕ, zero, suc, ◌+◌, ◌-◌, ◌≤◌, ◌<◌, length, get_or, Result, ⊤}
use Rattle.std.proofs.Common.{sym, ap, ◌∙◌, inl, inr, arith}
use Rattle.std.proofs.Math.ListN.{length-map}
use Rattle.base_lists.specs.Below.{Below}
use Rattle.line_layout.specs.declared.Layout.{Layout}
use Rattle.frame_spec.specs.Told.{Told, told}
use Rattle.read_spec.specs.Ceiling.{all_work}
use Rattle.read_spec.specs.Sizes.{Sizes}
use Rattle.read_readings.specs.Readings.{readings}
use Rattle.read_call.specs.Answers.{longest_stream}
use Rattle.demand_reading.specs.Promises.{Seen, Run}
use Rattle.demand_reading.specs.Reaching.{Ended}
use Rattle.index_spec.specs.declared.IndexRefusal.{IndexRefusal}
use Rattle.index_spec.specs.declared.Updated.{Updated}
use Rattle.index_spec.specs.Entries.{most_entries, entry_place, recorded, entries_from}
use Rattle.index_spec.specs.Updating.{judged_all, last_place, added, update_answer, update_number}
use Rattle.index_spec.specs.Cases.{Takes, Case, bad-sizes, too_long, no_room, over, beyond, full, done, update-case}
use Rattle.index_count.specs.Counted.{stretches_from}
use Rattle.index_count.specs.Alike.{counted-alike}
use Rattle.index_reading.specs.Promises.{Updates, asking, stretches_seen}
use Rattle.index_reading.specs.Runs.{seen_of, run-readings}

-- the stretches from a place on are as many as a run of `read` from there sees
pub stretches-seen : (key font : List ℕ) (editions a : ℕ) (lay : Layout) (s : List ℕ) → Sizes (told key font lay) → length s ≤ longest_stream → Below 256 s
    → all_work ≤ a
    → (from : ℕ) {seen : List Seen} → from ≤ length s → Run key font (asking editions a lay) s 0 from seen → Ended seen
    → length (stretches_seen seen) ≡ stretches_from s from
stretches-seen key font editions a lay s z h bytes all from i q e =
    let l = readings (judged_all (told key font lay) editions) s from in
    ap length (run-readings key font editions a lay s z h bytes all from i q e) ∙ length-map l seen_of ∙ counted-alike (judged_all (told key font lay) editions)
    s from

-- the last entry's place is beyond the stream
pub record TenWhen (t : Told) (s table : List ℕ) (count : ℕ) : Type 0 where
  pub takes : Takes t s table count
  pub some : 0 < count
  pub beyond-end : length s < entry_place (get_or table (count - 1) 0)

-- a count of more entries than a table keeps
pub record CountOver (t : Told) (s table : List ℕ) (count : ℕ) : Type 0 where
  pub sizes : Sizes t
  pub short : length s ≤ longest_stream
  pub room : most_entries ≤ length table
  pub more : most_entries < count

-- more entries with the stretches behind the last place
pub record WouldBeOver (t : Told) (s table : List ℕ) (count : ℕ) : Type 0 where
  pub takes : Takes t s table count
  pub last-inside : last_place table count ≤ length s
  pub more : most_entries < count + stretches_from s (last_place table count)

last-beyond : (s table : List ℕ) (count : ℕ) → length s < last_place table count → (0 < count) × (length s < entry_place (get_or table (count - 1) 0))
unfolding last_place
last-beyond s table zero h = absurd (omega (arith, h))
last-beyond s table (suc n) h = let e : suc n - 1 ≡ n = omega arith in (omega arith, rw e h)

beyond-last : (s table : List ℕ) (count : ℕ) → 0 < count → length s < entry_place (get_or table (count - 1) 0) → length s < last_place table count
unfolding last_place
beyond-last s table zero g h = absurd (omega arith)
beyond-last s table (suc n) g h = let e : suc n - 1 ≡ n = omega arith in rw e at h

module _ (key font : List ℕ) (editions : ℕ) (lay : Layout) (s table : List ℕ) (count : ℕ) (r : Updated) (table' : List ℕ)
    (p : Updates key font editions lay s table count r table') where
  abbrev t : Told
  t = told key font lay

  added-count : length (added t editions s table count) ≡ stretches_from s (last_place table count)
  unfolding added entries_from
  added-count =
      length-map (readings (judged_all t editions) s (last_place table count)) recorded ∙ counted-alike (judged_all t editions) s (last_place table count)

  number : update_number r.answer ≡ update_number (update_answer t editions s table count)
  number = ap (λ (x : Updated). update_number x.answer) p.0

  ten-to : (x : Result ⊤ IndexRefusal) → Case t editions s table count x → update_number x ≡ 10 → TenWhen t s table count
  ten-to _ (bad-sizes n) e = absurd (omega (arith, e))
  ten-to _ (too_long z n) e = absurd (omega (arith, e))
  ten-to _ (no_room z l n) e = absurd (omega (arith, e))
  ten-to _ (over z l m n) e = absurd (omega (arith, e))
  ten-to _ (beyond k n) e = let (some, far) = last-beyond s table count n in record { takes = k; some = some; beyond-end = far }
  ten-to _ (full k l n) e = absurd (omega (arith, e))
  ten-to _ (done k l n) e = absurd (omega (arith, e))

  ten-from : TenWhen t s table count → (x : Result ⊤ IndexRefusal) → Case t editions s table count x → update_number x ≡ 10
  ten-from w _ (bad-sizes n) = absurd (n w.takes.sizes)
  ten-from w _ (too_long z n) = absurd (omega (arith, n, w.takes.short))
  ten-from w _ (no_room z l n) = absurd (omega (arith, n, w.takes.room))
  ten-from w _ (over z l m n) = absurd (omega (arith, n, w.takes.few))
  ten-from w _ (beyond k n) = refl
  ten-from w _ (full k l n) = absurd (omega (arith, l, beyond-last s table count w.some w.beyond-end))
  ten-from w _ (done k l n) = absurd (omega (arith, l, beyond-last s table count w.some w.beyond-end))

  pub ten-exactly : (update_number r.answer ≡ 10 → TenWhen t s table count) × (TenWhen t s table count → update_number r.answer ≡ 10)
  ten-exactly = (
    λ e. ten-to (update_answer t editions s table count) (update-case t editions s table count) (sym number ∙ e),
    λ w. number ∙ ten-from w (update_answer t editions s table count) (update-case t editions s table count),
  )

  nineteen-to : (x : Result ⊤ IndexRefusal) → Case t editions s table count x → update_number x ≡ 19 → CountOver t s table count ⊎ WouldBeOver t s table count
  nineteen-to _ (bad-sizes n) e = absurd (omega (arith, e))
  nineteen-to _ (too_long z n) e = absurd (omega (arith, e))
  nineteen-to _ (no_room z l n) e = absurd (omega (arith, e))
  nineteen-to _ (over z l m n) e = inl (record { sizes = z; short = l; room = m; more = n })
  nineteen-to _ (beyond k n) e = absurd (omega (arith, e))
  nineteen-to _ (full k l n) e = inr (record { takes = k; last-inside = l; more = omega (arith, n, added-count) })
  nineteen-to _ (done k l n) e = absurd (omega (arith, e))

  count-from : CountOver t s table count → (x : Result ⊤ IndexRefusal) → Case t editions s table count x → update_number x ≡ 19
  count-from w _ (bad-sizes n) = absurd (n w.sizes)
  count-from w _ (too_long z n) = absurd (omega (arith, n, w.short))
  count-from w _ (no_room z l n) = absurd (omega (arith, n, w.room))
  count-from w _ (over z l m n) = refl
  count-from w _ (beyond k n) = absurd (omega (arith, w.more, k.few))
  count-from w _ (full k l n) = refl
  count-from w _ (done k l n) = absurd (omega (arith, w.more, k.few))

  full_from : WouldBeOver t s table count → (x : Result ⊤ IndexRefusal) → Case t editions s table count x → update_number x ≡ 19
  full_from w _ (bad-sizes n) = absurd (n w.takes.sizes)
  full_from w _ (too_long z n) = absurd (omega (arith, n, w.takes.short))
  full_from w _ (no_room z l n) = absurd (omega (arith, n, w.takes.room))
  full_from w _ (over z l m n) = refl
  full_from w _ (beyond k n) = absurd (omega (arith, n, w.last-inside))
  full_from w _ (full k l n) = refl
  full_from w _ (done k l n) = absurd (omega (arith, n, w.more, added-count))

  pub nineteen-exactly : (update_number r.answer ≡ 19 → CountOver t s table count ⊎ WouldBeOver t s table count)
      × ((CountOver t s table count → update_number r.answer ≡ 19) × (WouldBeOver t s table count → update_number r.answer ≡ 19))
  nineteen-exactly = (
    λ e. nineteen-to (update_answer t editions s table count) (update-case t editions s table count) (sym number ∙ e),
    (
      λ w. number ∙ count-from w (update_answer t editions s table count) (update-case t editions s table count),
      λ w. number ∙ full_from w (update_answer t editions s table count) (update-case t editions s table count),
    ),
  )
