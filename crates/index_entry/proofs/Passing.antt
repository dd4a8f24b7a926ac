-- Passing over the entries on the way to the k-th line, one index a turn. Assumes nothing.
use mathlib.Core.Path.{◌≡◌, refl, sym, ap, ◌∙◌}
use mathlib.Core.List.{List, ◌∷◌}
use Prim.Native.Nat.{ℕ, zero, suc, ◌+◌, ◌-◌, ◌≤◌, ◌<◌, min}
use native.Mathlib.Omega.{arith}
use lib.ListN.{length, take, drop, get_or, length-take, drop_of_length-le}
use lib.Seq.{take_all}
use Rattle.std.proofs.Math.Decide.{dec_le}
use Rattle.std.proofs.lemmas.List.{take-take}
use borrow.Author.Tests.{eq-eqb, ne_eqb}
use Rattle.base_lists.specs.Walk.{at}
use Rattle.index_spec.specs.Entries.{most_entries, entry_number}
use Rattle.index_entry.specs.declared.Line.{Line}
use Rattle.index_entry.specs.Lookups.{looked_at, no_line, line_is, or_later, line_from, line_at}

module _ (table : List ℕ) (count : ℕ) where
  -- those below the count, 512 and the table's length
  pub seen : (n m : ℕ) → m ≡ min count most_entries → n ≡ min m (length table) → take n table ≡ looked_at table count
  unfolding looked_at
  seen n m p q = elim (dec_le m (length table)) [
    | yes h ↦ elim (dec_le count most_entries) [
      | yes g ↦ let e : n ≡ count = omega (arith, h, g) in rw e (sym (take-take count most_entries table g))
      | no g ↦
          let e : n ≡ most_entries = omega (arith, h, g) in
          rw e (sym (take_all count (take most_entries table) (omega (arith, g, length-take most_entries table))))
    ]
    | no h ↦
        let a : length table ≤ n = omega (arith, h) in
        let b : length table ≤ most_entries = omega (arith, h) in
        let d : length table ≤ count = omega (arith, h) in
        let e : take most_entries table ≡ table = take_all most_entries table b in
        take_all n table a ∙ sym (ap (take count) e ∙ take_all count table d)
  ]

  pub seen_below : length (looked_at table count) ≤ most_entries
  unfolding looked_at
  seen_below = omega (arith, length-take count (take most_entries table), length-take most_entries table)

  -- the line behind `left` others from index i on is the one asked for
  pub record Passed (k i left : ℕ) : Type 0 where
    pub turns : i ≤ length (looked_at table count)
    pub same : line_from i left (drop i (looked_at table count)) ≡ line_at table count k

  pub passed_none : (k : ℕ) → 0 < k → Passed k 0 (k - 1)
  unfolding line_at
  passed_none zero h = absurd (omega arith)
  passed_none (suc k) h =
      let e : suc k - 1 ≡ k = omega arith in
      record { turns = omega arith; same = ap (λ (n : ℕ). line_from 0 n (looked_at table count)) e }

  one_less : (i left : ℕ) (here goal : Line) (l : List ℕ) → 0 < left → or_later left here (λ n. line_from (i + 1) n l) ≡ goal
      → line_from (i + 1) (left - 1) l ≡ goal
  unfolding or_later
  one_less i zero here goal l g x = absurd (omega arith)
  one_less i (suc m) here goal l g x = let q : suc m - 1 ≡ m = omega arith in ap (λ (n : ℕ). line_from (i + 1) n l) q ∙ x

  module _ (k i left : ℕ) (p : Passed k i left) (h : i < length (looked_at table count)) where
    step : line_from i left (get_or (looked_at table count) i 0 ∷ drop (i + 1) (looked_at table count)) ≡ line_at table count k
    step =
        ap (line_from i left) (sym (at (looked_at table count) i h)) ∙ p.same

    pub passed-refused : (entry_number (get_or (looked_at table count) i 0) ≡ 0 → ⊥) → Passed k (i + 1) left
    unfolding line_from
    passed-refused n = record { turns = omega arith; same = rw (ne_eqb (entry_number (get_or (looked_at table count) i 0)) 0 n) at step }

    pub passed-line : entry_number (get_or (looked_at table count) i 0) ≡ 0 → 0 < left → Passed k (i + 1) (left - 1)
    unfolding line_from
    passed-line e g = record {
      turns = omega arith;
      same = one_less i left (line_is i (get_or (looked_at table count) i 0)) (line_at table count k) (drop (i + 1) (looked_at table count)) g
          (rw (eq-eqb (entry_number (get_or (looked_at table count) i 0)) 0 e) at step);
    }

    pub passed_here : entry_number (get_or (looked_at table count) i 0) ≡ 0 → left ≡ 0 → line_is i (get_or (looked_at table count) i 0) ≡ line_at table count k
    unfolding line_from or_later
    passed_here e z = rw (eq-eqb (entry_number (get_or (looked_at table count) i 0)) 0 e, z) at step

  pub passed-all : (k i left : ℕ) → Passed k i left → length (looked_at table count) ≤ i → no_line ≡ line_at table count k
  unfolding line_from
  passed-all k i left p h = rw (drop_of_length-le (looked_at table count) {i = i} h) at p.same

  pub none-of-zero : no_line ≡ line_at table count 0
  unfolding line_at
  none-of-zero = refl
