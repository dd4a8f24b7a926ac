-- The new stream as frames joined (order W13): each chosen stretch is a run free of marks, between marks of its own and with no filler. Assumes nothing.
use Rattle.std.specs.Prelude.{◌≡◌, ℕ, zero, suc, ◌+◌, ◌-◌, ◌<◌, length, get_or, drop}
use Rattle.std.proofs.Math.Path.{refl, ap}
use Rattle.std.proofs.Common.{sym, ap₂, ◌∙◌, arith, length-take, length-drop, get_or-take, get_or-drop}
use mathlib.Core.List.{List, [], ◌∷◌, ◌++◌, map}
use Rattle.base_lists.specs.Free.{Free}
use Rattle.frame_stuff_spec.specs.Stuffing.{mark}
use Rattle.read_stretch.specs.Stretches.{span, bytes_at}
use Rattle.read_stretch.specs.Meaning.{Stretch}
use Rattle.frame_spec.specs.Told.{Told}
use Rattle.read_spec.specs.Judged.{Judged}
use Rattle.read_readings.specs.Readings.{Reading, reading}
use Rattle.read_readings.specs.Joined.{Piece, joined, filler_read, pieces_read}
use Rattle.desk_spec.specs.Desk.{chosen, new_stream}

-- a list whose every element is no m
free_all : (m : ℕ) (l : List ℕ) → ((k : ℕ) → k < length l → get_or l k 0 ≡ m → ⊥) → Free m l
free_all m [] h = tt
free_all m (x ∷ l) h = (h zero (omega arith), free_all m l (λ k g. h (suc k) (omega (arith, g))))

-- the bytes of a stretch
pub stretch-long : (s : List ℕ) (p c : ℕ) → Stretch s p c → length (bytes_at s (span p c)) ≡ c - p
stretch-long s p c x = simp (length-take, length-drop) (omega (arith, x.some, x.ends))

pub stretch-free : (s : List ℕ) (p c : ℕ) → Stretch s p c → Free mark (bytes_at s (span p c))
stretch-free s p c x = free_all mark (bytes_at s (span p c)) (λ k h e.
    let l : k < c - p = omega (arith, h, stretch-long s p c x) in
    x.clear (p + k) (omega arith) (omega (arith, l)) (sym (get_or-take (c - p) (drop p s) k 0 l ∙ get_or-drop p s k 0) ∙ e))

module _ (t : Told) (editions : ℕ) (s table : List ℕ) where
  abbrev pub piece : ℕ → Piece
  piece i = record { run = chosen t editions s table i; filler = [] }

  pub joined-new : (list : List ℕ) → joined (map piece list) ≡ new_stream t editions s table list
  unfolding new_stream
  joined-new [] = refl
  joined-new (i ∷ list) = ap (λ (x : List ℕ). mark ∷ (chosen t editions s table i ++ (mark ∷ x))) (joined-new list)

  -- what is read of them, the first opening at a place
  abbrev pub chosen_read : (List ℕ → Judged) → ℕ → List ℕ → List Reading
  chosen_read judge at [] = []
  chosen_read judge at (i ∷ list) =
      reading (span (at + 1) (at + 1 + length (chosen t editions s table i))) (judge (chosen t editions s table i))
      ∷ chosen_read judge (at + 1 + length (chosen t editions s table i) + 1) list

  no-filler : (judge : List ℕ → Judged) (k : ℕ) (ps : List Piece) → filler_read judge k [] ps ≡ []
  no-filler judge k [] = refl
  no-filler judge k (q ∷ ps) = refl

  pub pieces-read : (judge : List ℕ → Judged) (at : ℕ) (list : List ℕ) → pieces_read judge at (map piece list) ≡ chosen_read judge at list
  pieces-read judge at [] = refl
  pieces-read judge at (i ∷ list) =
      let b = chosen t editions s table i in
      let z : at + 1 + length b + 1 + 0 ≡ at + 1 + length b + 1 = omega arith in
      ap (λ (l : List Reading). reading (span (at + 1) (at + 1 + length b)) (judge b) ∷ l)
      (ap₂ ◌++◌ (no-filler judge (at + 1 + length b + 1) (map piece list)) (ap (λ (k : ℕ). pieces_read judge k (map piece list)) z ∙ pieces-read judge
      (at + 1 + length b + 1) list))
