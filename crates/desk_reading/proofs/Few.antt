-- `desk-entry-twice`, `desk-empty` and `desk-keeps` (order W14): an entry asked for twice is copied twice, an empty list gives an empty stream, and on a
-- refusal the output stays as it was. From the promises of `desk` and `read` alone. Assumes nothing.
use Rattle.std.specs.Prelude.{◌≡◌, ℕ, ◌≤◌, Ok, Result}
use Rattle.std.proofs.Common.{sym, ◌∙◌}
use Rattle.std.proofs.Math.Path.{ap}
use mathlib.Core.List.{List, [], ◌∷◌}
use native.Mathlib.Omega.{arith}
use Rattle.base_lists.specs.Below.{Below}
use Rattle.line_layout.specs.declared.Layout.{Layout}
use Rattle.frame_spec.specs.Told.{Told, told}
use Rattle.read_spec.specs.Ceiling.{all_work}
use Rattle.demand_reading.specs.Whole.{WholeRun}
use Rattle.demand_joined.specs.Seeing.{the_end}
use Rattle.index_spec.specs.Cases.{Takes}
use Rattle.index_reading.specs.Promises.{asking}
use Rattle.desk_spec.specs.declared.DeskRefusal.{DeskRefusal}
use Rattle.desk_spec.specs.Desk.{new_stream, out_of, length_of}
use Rattle.desk_spec.specs.Kept.{refusal-keeps}
use Rattle.desk_reading.specs.Promises.{Desks, Done, written, given_seen, moved_to, behind}
use Rattle.desk_reading.specs.Done.{desk-done}
use Rattle.desk_reading.proofs.ReadsLaws.{desk-reads}

module _ (key font : List ℕ) (editions a : ℕ) (lay : Layout) (s table : List ℕ) (count : ℕ) where
  abbrev t : Told
  t = told key font lay

  -- the same line at two places
  pub desk-entry-twice : Below 256 s → all_work ≤ a → (i : ℕ) (o : List ℕ) (r : Result ℕ DeskRefusal) (out : List ℕ)
      → Desks key font editions lay s table count (i ∷ i ∷ []) o r out → Done r
      → (u : WholeRun key font (asking editions a lay) (written r out))
      → u.seen ≡ moved_to 0 (given_seen t editions s table i) ∷ moved_to (behind 0 (given_seen t editions s table i)) (given_seen t editions s table i) ∷ the_end
      (length_of r) ∷ []
  desk-entry-twice bytes all i o r out p d u = desk-reads key font editions a lay s table count bytes all (i ∷ i ∷ []) o r out p d u

  -- an empty stream, whatever the output's room, and the output as it was
  pub desk-empty : Takes t s table count → (o : List ℕ) (r : Result ℕ DeskRefusal) (out : List ℕ) → Desks key font editions lay s table count [] o r out
      → (r ≡ Ok 0) × (out ≡ o)
  unfolding new_stream
  desk-empty w o r out p =
      let e : r ≡ Ok 0 =
      (desk-done key font editions lay s table count [] o r out p).1 (record { takes = w; lines = tt; short = omega arith; fits = omega arith }) in
      (e, p.1 ∙ ap (λ (x : Result ℕ DeskRefusal). out_of x [] o) (sym p.0 ∙ e))

  -- whatever is refused, nothing is written, and no length is answered
  pub desk-keeps : (list o : List ℕ) (r : Result ℕ DeskRefusal) (out : List ℕ) → Desks key font editions lay s table count list o r out → (Done r → ⊥)
      → (out ≡ o) × (length_of r ≡ 0)
  desk-keeps list o r out p n =
      let k = refusal-keeps r (new_stream t editions s table list) o n in
      (p.1 ∙ ap (λ (x : Result ℕ DeskRefusal). out_of x (new_stream t editions s table list) o) (sym p.0) ∙ k.0, k.1)
