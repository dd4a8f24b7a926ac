-- The loop of the inverse, a byte at a time. Assumes nothing.
use mathlib.Core.Path.{◌≡◌, refl, sym, ap, ◌∙◌}
use mathlib.Core.List.{List, ◌∷◌, ◌++◌, append-nil}
use Prim.Native.Nat.{ℕ, suc, ◌+◌, ◌*◌, ◌/◌, ◌≤◌, ◌<◌, ◌%◌}
use native.Mathlib.Numerals.{add-one}
use native.Mathlib.Omega.{arith}
use lib.ListN.{length, get_or, take, drop, set, drop_of_length-le}
use lib.Seq.{drop-cons, length-take-le}
use Rattle.std.proofs.lemmas.List.{get_or_at}
use Rattle.base_lists.specs.Fill.{Filled, filled_none, filled_more, filled-all}
use Rattle.gage_cells.specs.Cells.{table, star, cells, bytes, recover, restore}
use Rattle.gage_cells.specs.States.{length-restore}

-- after i bytes of the inverse: what is left is restored from p on
pub record Restored (leader : ℕ) (s out : List ℕ) (p i : ℕ) : Type 0 where
  pub cell : p < 4
  pub rest : drop i (restore table leader s) ≡ restore table p (drop i s)
  pub filled : Filled (restore table leader s) s out i

module _ (leader : ℕ) (s : List ℕ) where
  back_long : length (restore table leader s) ≡ length s
  back_long = length-restore table leader s

  pub back_none : leader < 4 → Restored leader s s leader 0
  back_none h = record { cell = h; rest = refl; filled = filled_none _ s (omega (arith, back_long)) }

  -- what is not restored yet stays
  here-is : (out : List ℕ) (p i : ℕ) → Restored leader s out p i → i < length s → get_or out i 0 ≡ get_or s i 0
  here-is out p i inv h =
      let put : out ≡ take i (restore table leader s) ++ drop i s = inv.filled.put in
      ap (λ (l : List ℕ). get_or l i 0) (put ∙ ap (λ (l : List ℕ). take i (restore table leader s) ++ l) (drop-cons s i 0 h))
      ∙ get_or_at (take i (restore table leader s)) _ _ 0 i (length-take-le i (restore table leader s) (rw back_long (omega arith)))

  pub back_more : (out : List ℕ) (p i a c d e v : ℕ) → Restored leader s out p i → i < length s
      → a ≡ star table p (get_or out i 0 / 64) → c ≡ star table a (get_or out i 0 / 16 % 4) → d ≡ star table c (get_or out i 0 / 4 % 4)
      → e ≡ star table d (get_or out i 0 % 4) → e < 4 → v ≡ a * 64 + c * 16 + d * 4 + e → Restored leader s (set out i v) e (i + 1)
  unfolding restore cells bytes recover
  back_more out p i a c d e v inv h ea ec ed ee small sum =
      let x : List ℕ = restore table leader s in
      let lx : i < length x = rw back_long h in
      let here : get_or out i 0 ≡ get_or s i 0 = here-is out p i inv h in
      let both : get_or x i 0 ∷ drop (suc i) x ≡ (a * 64 + c * 16 + d * 4 + e) ∷ restore table e (drop (suc i) s) =
      sym (drop-cons x i 0 lx) ∙ inv.rest ∙ rw (drop-cons s i 0 h, ← here, ee, ed, ec, ea) in
      record {
        cell = small;
        rest = rw add-one (cc both);
        filled = filled_more v inv.filled lx (sum ∙ (cc both));
      }

  -- all of them
  pub back-all : (out : List ℕ) (p i : ℕ) → Restored leader s out p i → length s ≤ i → out ≡ restore table leader s
  back-all out p i inv h =
      filled-all inv.filled (rw back_long h) ∙ rw (drop_of_length-le s {i = length (restore table leader s)} (omega (arith, back_long)), append-nil)
