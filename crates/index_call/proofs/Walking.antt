-- The walk that adds entries: those of the stretches passed stand in the table, and what is left of them are those from the place reached.
-- Assumes nothing.
use mathlib.Core.Path.{◌≡◌, refl, sym, ap, ◌∙◌}
use mathlib.Core.List.{List, ◌∷◌, head-eq_of_cons-eq, tail-eq_of_cons-eq}
use Prim.Native.Nat.{ℕ, suc, ◌+◌, ◌≤◌, ◌<◌}
use native.Mathlib.Numerals.{add-one}
use native.Mathlib.Omega.{arith}
use lib.ListN.{length, set, get_or, drop}
use lib.Seq.{sets, sets-eq, paste, paste-zero, paste-suc, length-paste, take_all}
use Rattle.base_lists.specs.Walk.{at}
use Rattle.read_stretch.specs.Stretches.{next_span}
use Rattle.read_stretch.proofs.Places.{next-within}
use Rattle.frame_spec.specs.Told.{Told}
use Rattle.index_spec.specs.Entries.{entries_from}
use Rattle.index_spec.specs.Updating.{judged_all}
use Rattle.index_spec.specs.Recorded.{entries_none, entries-one}
use Rattle.index_call.specs.Steps.{Ahead, next_of, Adding}

module _ (t : Told) (editions : ℕ) (s : List ℕ) (from n : ℕ) (a : Adding t editions s from n) (o : List ℕ) (count : ℕ) where
  -- the entries added
  abbrev x : List ℕ
  x = entries_from (judged_all t editions) s from

  -- i of them stand in the table, and the others are those from the place reached
  pub record Walked (out : List ℕ) (place i : ℕ) : Type 0 where
    pub turns : i ≤ n
    pub put : out ≡ paste o count x i
    pub left : drop i x ≡ entries_from (judged_all t editions) s place
    pub inside : place ≤ length s

  pub walked_none : Walked o from 0
  walked_none = record { turns = omega arith; put = paste-zero o count x; left = refl; inside = a.inside }

  pub walked-length : count + n ≤ length o → (out : List ℕ) (place i : ℕ) → Walked out place i → length out ≡ length o
  walked-length h out place i w =
      ap length w.put ∙ length-paste o count x i (omega (arith, w.turns)) (omega (arith, w.turns, a.many))

  module _ (out : List ℕ) (place i : ℕ) (w : Walked out place i) (h : i < n) where
    -- what is left starts with the next entry
    abbrev is-next : get_or x i 0 ∷ drop (i + 1) x ≡ entries_from (judged_all t editions) s place
    is-next = sym (at x i (omega (arith, a.many))) ∙ w.left

    not_end : (next_span s place).first ≡ (next_span s place).closing → ⊥
    not_end e =
        let z : suc (length (drop (i + 1) x)) ≡ 0 = ap length (is-next ∙ entries_none (judged_all t editions) s place e) in
        omega (arith, z)

    pub ahead : Ahead t s place
    ahead = record { sizes = a.sizes; short = a.short; inside = w.inside; some = not_end }

    pub walked_more : count + n ≤ length o → Walked (set out (count + i) (next_of t editions s place).entry) (next_of t editions s place).closing (i + 1)
    walked_more g =
        let e = is-next ∙ entries-one (judged_all t editions) s place not_end in
        let v : (next_of t editions s place).entry ≡ get_or x i 0 = sym (head-eq_of_cons-eq e) in
        record {
          turns = omega arith;
          put = rw (w.put, v, add-one) (paste-suc o count x i 0 (omega arith) (omega (arith, a.many)));
          left = tail-eq_of_cons-eq e;
          inside = (next-within s place).inside;
        }

  pub walked_all : count + n ≤ length o → (out : List ℕ) (place i : ℕ) → Walked out place i → n ≤ i → out ≡ sets o count x
  walked_all g out place i w h =
      let e : i ≡ length x = omega (arith, w.turns, a.many) in
      w.put ∙ rw (e, take_all (length x) x (omega arith)) (sym (sets-eq x o count (omega (arith, a.many))))
