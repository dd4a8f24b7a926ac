-- `built-fault` (order W14): with a table that W10 built from this very stream under the same key, font, editions and layout, an item below the count is
-- at fault exactly if its entry's number is not 0. From the promises of `update` and `desk` alone. Assumes nothing.
use Rattle.std.specs.Prelude.{◌≡◌, List, [], ◌∷◌, map, ℕ, zero, suc, ◌<◌, length, get_or}
use Rattle.std.proofs.Common.{sym, ap, subst, ◌∙◌, not-suc-le-zero, le_of_suc-le-suc, arith, get_or-take}
use Rattle.line_layout.specs.declared.Layout.{Layout}
use Rattle.read_stretch.specs.Stretches.{span, bytes_at}
use Rattle.read_stretch.specs.Meaning.{Stretch}
use Rattle.read_stretch.proofs.Places.{stretch-closing}
use Rattle.frame_spec.specs.Told.{Told, told}
use Rattle.read_spec.specs.Judged.{Judged, number_in}
use Rattle.read_readings.specs.Readings.{Reading, readings}
use Rattle.index_spec.specs.Entries.{entry_place, entry_number, recorded}
use Rattle.index_spec.specs.Recorded.{recorded-place, recorded-number}
use Rattle.index_spec.specs.Updating.{judged_all}
use Rattle.index_reading.specs.Promises.{Built}
use Rattle.index_reading.proofs.Growing.{built-current}
use Rattle.desk_spec.specs.Desk.{place_of}
use Rattle.desk_reading.specs.Promises.{ItemLine}
use Rattle.desk_reading.specs.Lines.{Right, AllRight, all_right, line_at}

-- an entry at whose place a stretch starts, with its number
pub record EntryOf (judge : List ℕ → Judged) (s : List ℕ) (e : ℕ) : Type 0 where
  pub closing : ℕ
  pub stretch : Stretch s (entry_place e) closing
  pub number_is : entry_number e ≡ number_in (judge (bytes_at s (span (entry_place e) closing)))

-- of a reading
entry_of : (judge : List ℕ → Judged) (s : List ℕ) (r : Reading) → Right judge s r → EntryOf judge s (recorded r)
entry_of judge s r x =
    let at = recorded-place r in
    record {
      closing = r.place.closing;
      stretch = subst (λ (k : ℕ). Stretch s k r.place.closing) (sym at) x.stretch;
      number_is = recorded-number r ∙ ap number_in x.judged-is ∙ ap (λ (k : ℕ). number_in (judge (bytes_at s (span k r.place.closing)))) (sym at);
    }

entry_at : (judge : List ℕ → Judged) (s : List ℕ) (l : List Reading) → AllRight judge s l → (i : ℕ) → i < length l
    → EntryOf judge s (get_or (map recorded l) i 0)
entry_at judge s [] x i h = absurd (not-suc-le-zero h)
entry_at judge s (r ∷ l) x zero h = entry_of judge s r x.0
entry_at judge s (r ∷ l) x (suc i) h = entry_at judge s l x.1 i (le_of_suc-le-suc h)

module _ (key digest : List ℕ) (editions : ℕ) (lay : Layout) (s table : List ℕ) (count : ℕ) (b : Built key digest editions lay s table count) where
  abbrev t : Told
  t = told key digest lay

  -- each of its entries is one of the stream's
  built-entry : (i : ℕ) → i < count → EntryOf (judged_all t editions) s (get_or table i 0)
  built-entry i h =
      let c = built-current key digest editions lay b in
      let l = readings (judged_all t editions) s 0 in
      let e : get_or (map recorded l) i 0 ≡ get_or table i 0 = ap (λ (x : List ℕ). get_or x i 0) (sym c.holds) ∙ get_or-take count table i 0 h in
      subst (EntryOf (judged_all t editions) s) e
      (entry_at (judged_all t editions) s l (all_right (judged_all t editions) s) i (omega (arith, h, c.many)))

  -- an item below the count chooses a line exactly if its entry's number is 0; else it is at fault
  pub built-fault : (i : ℕ) → i < count
      → (ItemLine t editions s table count i → entry_number (get_or table i 0) ≡ 0) × (entry_number (get_or table i 0) ≡ 0 → ItemLine t editions s table count i)
  built-fault i h =
      let x = built-entry i h in
      let p = place_of table i in (
        λ y.
            let same : x.closing ≡ y.closing =
            omega (
              arith,
              stretch-closing s p x.closing y.closing x.stretch y.there.stretch-is,
              stretch-closing s p y.closing x.closing
                  y.there.stretch-is x.stretch,
            ) in
            x.number_is ∙ ap (λ (c : ℕ). number_in (judged_all t editions (bytes_at s (span p c)))) same ∙ ap number_in y.there.judged,
        λ z. record { below = h; closing = x.closing; there = line_at t editions s p x.closing x.stretch (sym x.number_is ∙ z) },
      )
