-- The substitution of bytes y 0, y 1, .. one after the other, as loops over wide states work it out: each byte after the last cell of the one
-- before it. The first n bytes are the definition's, whatever stands behind them. Assumes nothing.
use Rattle.std.specs.Prelude.{◌≡◌, refl, List, [], ◌∷◌, ℕ, zero, suc, ◌+◌, ◌≤◌, ◌<◌, ◌%◌, length, get_or, take, set}
use Rattle.std.proofs.Common.{sym, ap, ◌∙◌, not-suc-le-zero, le_of_suc-le-suc, add-one, arith, length-take-le, get_or-take, ext_get_or}
use Rattle.base_lists.specs.Upto.{Upto, upto-none, upto-more}
use Rattle.gage_cells.specs.Cells.{table, cells, bytes, follow, substitute, substituted_byte}
use Rattle.gage_cells.specs.States.{length-substitute}

-- the cell before byte i, the first one's being the leader l
abbrev pub before : ℕ → (ℕ → ℕ) → ℕ → ℕ
before l y zero = l
before l y (suc i) = y i % 4

-- byte i of the substitution
unfoldable pub substituted_at : ℕ → (ℕ → ℕ) → ℕ → ℕ
substituted_at l y i = substituted_byte table (before l y i) (y i)

-- after i bytes: they stand in out, and p is a byte whose last cell is the one before the next
pub record Substituting (l : ℕ) (y : ℕ → ℕ) (out : List ℕ) (p i : ℕ) : Type 0 where
  pub last : p % 4 ≡ before l y i
  pub done : Upto (substituted_at l y) out i

pub substituting-none : (y : ℕ → ℕ) (out : List ℕ) (p : ℕ) → Substituting (p % 4) y out p 0
substituting-none y out p = record { last = refl; done = upto-none _ out }

-- one more byte, b
pub substituting-more : {l : ℕ} {y : ℕ → ℕ} {out : List ℕ} {p i : ℕ} (b v : ℕ) → Substituting l y out p i → i < length out → b ≡ y i
    → v ≡ substituted_byte table (p % 4) b → Substituting l y (set out i v) b (i + 1)
unfolding substituted_at
substituting-more {l} {y} {out} {p} {i} b v inv h same e = record {
  last = rw (add-one, same);
  done = upto-more (substituted_at l y) out i v (i + 1) inv.done h (e ∙ rw (same, inv.last)) refl;
}

-- byte i of a list's substitution
pub substitute-at : (l : ℕ) (s : List ℕ) (i : ℕ) → i < length s
    → get_or (substitute table l s) i 0 ≡ substituted_byte table (before l (λ k. get_or s k 0) i) (get_or s i 0)
unfolding substitute cells bytes follow substituted_byte
substitute-at l [] i h = absurd (not-suc-le-zero h)
substitute-at l (b ∷ r) zero h = refl
substitute-at l (b ∷ r) (suc zero) h = substitute-at (b % 4) r zero (le_of_suc-le-suc h)
substitute-at l (b ∷ r) (suc (suc i)) h = substitute-at (b % 4) r (suc i) (le_of_suc-le-suc h)

before_same : (l : ℕ) (y z : ℕ → ℕ) (n i : ℕ) → i < n → ((k : ℕ) → k < n → y k ≡ z k) → before l y i ≡ before l z i
before_same l y z n zero h e = refl
before_same l y z n (suc i) h e = ap (λ (x : ℕ). x % 4) (e i (omega arith))

-- where the first n are a list's, they are the list's substitution
pub substituted-first : {l : ℕ} {y : ℕ → ℕ} {out : List ℕ} {p i : ℕ} (n : ℕ) (x : List ℕ) → Substituting l y out p i → n ≤ i → n ≤ length out
    → length x ≡ n → ((k : ℕ) → k < n → y k ≡ get_or x k 0) → take n out ≡ substitute table l x
unfolding substituted_at
substituted-first {l} {y} {out} {p} {i} n x inv h g long e =
    ext_get_or 0 (take n out) (substitute table l x) (length-take-le n out g ∙ sym long ∙ sym (length-substitute table l x))
    (λ k q.
    let m : k < n = rw (length-take-le n out g) at q in
    get_or-take n out k 0 m
    ∙ inv.done.at k (omega arith)
    ∙ rw (before_same l y (λ j. get_or x j 0) n k m e, e k m) (sym (substitute-at l x k (rw long m))))
