-- `kth-line` (order W10): in a table built from a stream the entry of the k-th line has the place of the k-th line that a whole run of `read` gives, and
-- there is none exactly where there are fewer. From the promises of `update`, `line_at` and `read` alone. Assumes nothing.
use Rattle.std.specs.Prelude.{◌≡◌, refl, Bool, true, false, cond, List, [], ◌∷◌, map, ℕ, zero, suc, ◌+◌, ◌-◌, ◌≤◌, ◌<◌, eqb, length, take, get_or}
use Rattle.std.proofs.Common.{sym, ap, ◌∙◌, arith, take-take}
use Rattle.std.proofs.lemmas.List.{length-map}
use Rattle.base_lists.specs.Below.{Below}
use Rattle.line_layout.specs.declared.Layout.{Layout}
use Rattle.frame_spec.specs.Told.{told}
use Rattle.read_spec.specs.Ceiling.{all_work}
use Rattle.read_spec.specs.Judged.{number_in}
use Rattle.read_readings.specs.Readings.{Reading, readings}
use Rattle.demand_reading.specs.Promises.{Seen}
use Rattle.demand_reading.specs.Whole.{WholeRun}
use Rattle.index_spec.specs.Entries.{most_entries, entry_place, recorded}
use Rattle.index_spec.specs.Updating.{judged_all}
use Rattle.index_spec.specs.Recorded.{recorded-place, recorded-number}
use Rattle.index_entry.specs.declared.Line.{Line}
use Rattle.index_entry.specs.Lookups.{looked_at, no_line, line_is, or_later, line_from, line_at}
use Rattle.index_reading.specs.Promises.{FindsLine, asking, stretches_seen, Built}
use Rattle.index_reading.specs.Runs.{seen_of, run-readings}
use Rattle.index_reading.proofs.Growing.{built-current}

-- the lines among what is seen of stretches
abbrev pub lines_seen : List Seen → List Seen
lines_seen [] = []
lines_seen (v ∷ l) = cond (eqb v.number 0) (v ∷ lines_seen l) (lines_seen l)

-- the places of the lines among readings
abbrev line_places : List Reading → List ℕ
line_places [] = []
line_places (r ∷ l) = cond (eqb (number_in r.judged) 0) (r.place.first ∷ line_places l) (line_places l)

seen-lines : (l : List Reading) → map (λ (v : Seen). v.first) (lines_seen (map seen_of l)) ≡ line_places l
seen-lines [] = refl
seen-lines (r ∷ l) = go (eqb (number_in r.judged) 0) (seen-lines l)
  where
    go : (b : Bool) → map (λ (v : Seen). v.first) (lines_seen (map seen_of l)) ≡ line_places l
        → map (λ (v : Seen). v.first) (cond b (seen_of r ∷ lines_seen (map seen_of l)) (lines_seen (map seen_of l)))
        ≡ cond b (r.place.first ∷ line_places l) (line_places l)
    go true e = ap (λ (x : List ℕ). r.place.first ∷ x) e
    go false e = e

-- the line at a place of that list, or none behind its end
pub record LineOf (places : List ℕ) (left : ℕ) (r : Line) : Type 0 where
  pub there : left < length places → (r.there ≡ 1) × (r.place ≡ get_or places left 0)
  pub none : length places ≤ left → r ≡ no_line

no-places : (left : ℕ) → LineOf [] left no_line
no-places left = record { there = λ h. absurd (omega (arith, h)); none = λ h. refl }

-- the first line, and those behind it
first-line : (p : ℕ) (places : List ℕ) (left i e : ℕ) (later : ℕ → Line) → entry_place e ≡ p → ((n : ℕ) → LineOf places n (later n))
    → LineOf (p ∷ places) left (or_later left (line_is i e) later)
unfolding or_later
first-line p places zero i e later q k = record { there = λ h. (refl, q); none = λ h. absurd (omega (arith, h)) }
first-line p places (suc n) i e later q k = record {
  there = λ h. (k n).there (omega (arith, h));
  none = λ h. (k n).none (omega (arith, h));
}

line-from : (l : List Reading) (i left : ℕ) → LineOf (line_places l) left (line_from i left (map recorded l))
unfolding line_from
line-from [] i left = no-places left
line-from (r ∷ l) i left = rw (recorded-number r) (go (eqb (number_in r.judged) 0) (λ n. line-from l (i + 1) n))
  where
    go : (b : Bool) → ((n : ℕ) → LineOf (line_places l) n (line_from (i + 1) n (map recorded l)))
        → LineOf (cond b (r.place.first ∷ line_places l) (line_places l)) left
        (cond b (or_later left (line_is i (recorded r)) (λ n. line_from (i + 1) n (map recorded l))) (line_from (i + 1) left (map recorded l)))
    go true k = first-line r.place.first (line_places l) left i (recorded r) (λ n. line_from (i + 1) n (map recorded l)) (recorded-place r) k
    go false k = k left

-- the look-up of the k-th line, against the lines that a run sees
pub record KthLine (seen : List Seen) (k : ℕ) (r : Line) : Type 0 where
  pub there : 0 < k → k ≤ length (lines_seen (stretches_seen seen))
      → (r.there ≡ 1) × (r.place ≡ get_or (map (λ (v : Seen). v.first) (lines_seen (stretches_seen seen))) (k - 1) 0)
  pub none : length (lines_seen (stretches_seen seen)) < k → r ≡ no_line
  pub not-zero : k ≡ 0 → r ≡ no_line

kth : (l : List Reading) (seen : List Seen) → stretches_seen seen ≡ map seen_of l → (table : List ℕ) (count : ℕ) → looked_at table count ≡ map recorded l
    → (k : ℕ) (r : Line) → FindsLine table count k r → KthLine seen k r
unfolding line_at
kth l seen e table count d zero r p = record { there = λ h g. absurd (omega (arith, h)); none = λ h. p; not-zero = λ h. p }
kth l seen e table count d (suc k) r p =
    let f = line-from l 0 k in
    let places : map (λ (v : Seen). v.first) (lines_seen (stretches_seen seen)) ≡ line_places l =
    ap (λ (x : List Seen). map (λ (v : Seen). v.first) (lines_seen x)) e ∙ seen-lines l in
    let many : length (lines_seen (stretches_seen seen)) ≡ length (line_places l) = sym (length-map (lines_seen (stretches_seen seen)) (λ (v : Seen). v.first)) ∙
    ap length places in
    let is : r ≡ line_from 0 k (map recorded l) = p ∙ ap (line_from 0 k) d in
    let one : suc k - 1 ≡ k = omega arith in
    record {
      there = λ h g.
          let (x, y) = f.there (omega (arith, g, many)) in
          (ap (λ (o : Line). o.there) is ∙ x, ap (λ (o : Line). o.place) is ∙ y ∙ rw (places, one));
      none = λ h. is ∙ f.none (omega (arith, h, many));
      not-zero = λ h. absurd (omega (arith, h));
    }

pub kth-line : (key font : List ℕ) (editions a : ℕ) (lay : Layout) (s : List ℕ) → Below 256 s → all_work ≤ a
    → (u : WholeRun key font (asking editions a lay) s) (table : List ℕ) (count : ℕ) → Built key font editions lay s table count
    → (k : ℕ) (r : Line) → FindsLine table count k r → KthLine u.seen k r
unfolding looked_at
kth-line key font editions a lay s bytes all u table count b =
    let c = built-current key font editions lay b in
    let l = readings (judged_all (told key font lay) editions) s 0 in
    let few : take count (take most_entries table) ≡ take count table = take-take count most_entries table c.takes.few in
    kth l u.seen (run-readings key font editions a lay s c.takes.sizes c.takes.short bytes all 0 (omega arith) u.run u.ended)
    table count (few ∙ c.holds)
