-- `c-updated-as-fresh` and `c-update-again` (order W10 over the exported calls): a table built by `lubdhvani_index_update` from a shorter stream, brought up to
-- date after bytes were added at its end, is what a fresh build gives, and earlier entries keep their values; and with nothing more received nothing is
-- changed. Assumes nothing.
use Rattle.std.specs.Prelude.{◌≡◌, refl, List, ◌++◌, ℕ, ◌≤◌, length, take}
use Rattle.std.proofs.Common.{sym, ap, subst, ◌∙◌}
use Rattle.line_layout.specs.Layouts.{layout_of}
use Rattle.frame_spec.specs.Told.{Told, told}
use Rattle.index_spec.specs.Entries.{most_entries}
use Rattle.index_spec.specs.Updating.{updated}
use Rattle.index_reading.specs.Promises as below
use Rattle.index_reading.proofs.Growing.{updated-as-fresh, update-again}
use Rattle.lubdhvani.specs.Index.{updated_out}
use Rattle.lubdhvani.specs.declared.index.Indexed.{Indexed}
use Rattle.lubdhvani_orders.specs.Promises.{Updates, Built, fresh, grown}

-- what a call and a fresh build come to
pub record AsFresh (table : List ℕ) (count : ℕ) (r : Indexed) (table' : List ℕ) (f : Indexed) (o' : List ℕ) : Type 0 where
  pub number_is : r.number ≡ f.number
  pub count-is : r.number ≡ 0 → r.count ≡ f.count
  pub entries-are : r.number ≡ 0 → take r.count table' ≡ take f.count o'
  pub kept : r.number ≡ 0 → take count table' ≡ take count table
  pub unchanged : (r.number ≡ 0 → ⊥) → (table' ≡ table) × (r.count ≡ count)

module _ (key font : List ℕ) (editions lay : ℕ) where
  abbrev t : Told
  t = told key font (layout_of lay)

  -- built by the calls below
  pub c-built : {s table : List ℕ} {count : ℕ} → Built key font editions lay s table count → below.Built key font editions (layout_of lay) s table count
  c-built (fresh s table r table' p e) =
      subst (λ (x : Indexed). below.Built key font editions (layout_of lay) s table' x.count) (sym p.0)
      (below.fresh s table (updated t editions s table 0) table' (refl, p.1) (sym (ap (λ (x : Indexed). x.number) p.0) ∙ e))
  c-built (grown {s} {table} {count} b more r table' p e) =
      subst (λ (x : Indexed). below.Built key font editions (layout_of lay) (s ++ more) table' x.count) (sym p.0)
      (below.grown (c-built b) more (updated t editions (s ++ more) table count) table' (refl, p.1) (sym (ap (λ (x : Indexed). x.number) p.0) ∙ e))

  pub c-updated-as-fresh : (s table : List ℕ) (count : ℕ) → Built key font editions lay s table count
      → (more : List ℕ) (r : Indexed) (table' : List ℕ) → Updates key font editions lay (s ++ more) table count r table'
      → (o : List ℕ) → most_entries ≤ length o → (f : Indexed) (o' : List ℕ) → Updates key font editions lay (s ++ more) o 0 f o'
      → AsFresh table count r table' f o'
  c-updated-as-fresh s table count b more r table' p o room f o' q =
      let n = updated t editions (s ++ more) table count in
      let m = updated t editions (s ++ more) o 0 in
      let z = updated-as-fresh key font editions (layout_of lay) s table count (c-built b) more n table' (refl, p.1) o room m o' (refl, q.1) in
      subst (λ (x : Indexed). AsFresh table count x table' f o') (sym p.0)
      (subst (λ (x : Indexed). AsFresh table count (updated_out n) table' x o') (sym q.0) (record {
        number_is = z.number_is;
        count-is = z.count-is;
        entries-are = z.entries-are;
        kept = z.kept;
        unchanged = z.unchanged;
      }))

  -- with nothing more received nothing is changed, whatever the table
  pub c-update-again : (s table : List ℕ) (count : ℕ) (r : Indexed) (table' : List ℕ) → Updates key font editions lay s table count r table' → r.number ≡ 0
      → (r₂ : Indexed) (table₂ : List ℕ) → Updates key font editions lay s table' r.count r₂ table₂ → (r₂ ≡ r) × (table₂ ≡ table')
  c-update-again s table count r table' p e r₂ table₂ q =
      let n = updated t editions s table count in
      let on : Updates key font editions lay s table' n.count r₂ table₂ =
      subst (λ (x : Indexed). Updates key font editions lay s table' x.count r₂ table₂) p.0 q in
      let z = update-again key font editions (layout_of lay) s table count n table' (refl, p.1) (sym (ap (λ (x : Indexed). x.number) p.0) ∙ e)
      (updated t editions s table' n.count) table₂ (refl, on.1) in
      (on.0 ∙ ap updated_out z.0 ∙ sym p.0, z.1)
