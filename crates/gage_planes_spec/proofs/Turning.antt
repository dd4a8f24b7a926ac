-- One turn of a state in planes: the substitution of the state that they hold, after its shuffle. Assumes nothing.
use Rattle.std.specs.Prelude.{◌≡◌, refl, List, ℕ, zero, suc, ◌+◌, ◌/◌, ◌%◌, ◌≤◌, ◌<◌}
use Rattle.std.proofs.Math.Path.{sym}
use Rattle.std.proofs.Common.{◌∙◌, mod-lt, mod-eq_of_lt, arith}
use Rattle.std.proofs.Math.ListN.{length, get_or}
use Rattle.base_lists.specs.Below.{Below, below_at}
use Rattle.gage_cells.specs.Cells.{table, substitute, substituted_byte}
use Rattle.gage_cells.specs.States.{length-substitute}
use Rattle.gage_cells.specs.Wide.{before, substitute-at}
use Rattle.gage_shuffle.specs.Shuffling.{bit, shuffle}
use Rattle.gage_shuffle.specs.States.{length-shuffle, shuffle-below}
use Rattle.base_digits.specs.Held.{Held, WORD, held_same}
use Rattle.gage_planes_spec.specs.declared.Planes.{Planes}
use Rattle.gage_planes_spec.specs.Planes.{led, products, substituted, turned, turned_around, slid, rolled_all}
use Rattle.gage_planes_spec.specs.Columns.{column, Holds}
use Rattle.gage_planes_spec.specs.Products.{upper-held, lower-held, byte0, byte1, byte2, byte3, byte4, byte5, byte6, byte7}
use Rattle.gage_planes_spec.specs.Leading.{first, ahead, led-held, one-held}
use Rattle.gage_planes_spec.proofs.Moving.{slid-holds, rolled-holds}
use Rattle.gage_planes_spec.specs.Turning.{prior}

-- the cell before a byte: its bits, and that it is a cell
pub ahead_upper : (l : ℕ) (f : ℕ → ℕ) (m : ℕ) → l < 4 → ahead (l / 2 % 2) (λ k. bit 6 (f k)) m ≡ before l f m / 2
ahead_upper l f zero h = omega arith
ahead_upper l f (suc m) h = omega arith

pub ahead_lower : (l : ℕ) (f : ℕ → ℕ) (m : ℕ) → l < 4 → ahead (l % 2) (λ k. bit 7 (f k)) m ≡ before l f m % 2
ahead_lower l f zero h = refl
ahead_lower l f (suc m) h = omega arith

before-cell : (l : ℕ) (f : ℕ → ℕ) (m : ℕ) → l < 4 → before l f m < 4
before-cell l f zero h = h
before-cell l f (suc m) h = omega arith

-- the substitution of planes that begin at byte o, y and z being the bits of the cells before each byte
module _ (o v l y z : ℕ) (p : Planes) (s : List ℕ) (some : 0 < length s) (fits : v ≤ WORD) (cell : l < 4) (small : Below 256 s)
    (y-held : Held v y (λ i. prior l s (o + i) / 2)) (z-held : Held v z (λ i. prior l s (o + i) % 2)) (a : Holds o v p s) where
  cell-before : (i : ℕ) → prior l s i < 4
  unfolding prior
  cell-before i = before-cell l (λ k. get_or s k 0) (i % length s) cell

  byte : (i : ℕ) → get_or s (i % length s) 0 < 256
  byte i = below_at 256 s (i % length s) small (mod-lt i some)

  new : (b i : ℕ) → column b (substitute table l s) i ≡ bit b (substituted_byte table (prior l s i) (get_or s (i % length s) 0))
  unfolding column prior
  new b i = rw (length-substitute, substitute-at l s (i % length s) (mod-lt i some))

  pub products-hold : Holds o v (products y z p) (substitute table l s)
  unfolding column
  products-hold = record {
    plane0 = held_same (upper-held y-held z-held a.plane0 a.plane1) (λ i. column 0 (substitute table l s) (o + i))
        (λ i h. sym (new 0 (o + i) ∙ byte0 (prior l s (o + i)) _ (cell-before (o + i)) (byte (o + i))));
    plane1 = held_same (lower-held y-held z-held a.plane0 a.plane1 fits) (λ i. column 1 (substitute table l s) (o + i))
        (λ i h. sym (new 1 (o + i) ∙ byte1 (prior l s (o + i)) _ (cell-before (o + i)) (byte (o + i))));
    plane2 = held_same (upper-held a.plane0 a.plane1 a.plane2 a.plane3) (λ i. column 2 (substitute table l s) (o + i))
        (λ i h. sym (new 2 (o + i) ∙ byte2 (prior l s (o + i)) _ (cell-before (o + i)) (byte (o + i))));
    plane3 = held_same (lower-held a.plane0 a.plane1 a.plane2 a.plane3 fits) (λ i. column 3 (substitute table l s) (o + i))
        (λ i h. sym (new 3 (o + i) ∙ byte3 (prior l s (o + i)) _ (cell-before (o + i)) (byte (o + i))));
    plane4 = held_same (upper-held a.plane2 a.plane3 a.plane4 a.plane5) (λ i. column 4 (substitute table l s) (o + i))
        (λ i h. sym (new 4 (o + i) ∙ byte4 (prior l s (o + i)) _ (cell-before (o + i)) (byte (o + i))));
    plane5 = held_same (lower-held a.plane2 a.plane3 a.plane4 a.plane5 fits) (λ i. column 5 (substitute table l s) (o + i))
        (λ i h. sym (new 5 (o + i) ∙ byte5 (prior l s (o + i)) _ (cell-before (o + i)) (byte (o + i))));
    plane6 = held_same (upper-held a.plane4 a.plane5 a.plane6 a.plane7) (λ i. column 6 (substitute table l s) (o + i))
        (λ i h. sym (new 6 (o + i) ∙ byte6 (prior l s (o + i)) _ (cell-before (o + i)) (byte (o + i))));
    plane7 = held_same (lower-held a.plane4 a.plane5 a.plane6 a.plane7 fits) (λ i. column 7 (substitute table l s) (o + i))
        (λ i h. sym (new 7 (o + i) ∙ byte7 (prior l s (o + i)) _ (cell-before (o + i)) (byte (o + i))));
  }

-- planes that begin where a state does
module _ (v starts l : ℕ) (p : Planes) (s : List ℕ) (some : 0 < length s) (fits : v ≤ WORD) (cell : l < 4) (small : Below 256 s)
    (beginning : Held v starts (λ i. first ((0 + i) % length s))) (a : Holds 0 v p s) where
  y-held : Held v (led p.g starts (l / 2 % 2)) (λ i. prior l s (0 + i) / 2)
  unfolding prior
  y-held =
      held_same (led-held 0 v p.g starts (l / 2 % 2) 6 s some fits (omega arith) a.plane6 beginning (mod-eq_of_lt some)) (λ i. prior l s (0 + i) / 2)
      (λ i h. ahead_upper l (λ k. get_or s k 0) ((0 + i) % length s) cell)

  z-held : Held v (led p.h starts (l % 2)) (λ i. prior l s (0 + i) % 2)
  unfolding prior
  z-held =
      held_same (led-held 0 v p.h starts (l % 2) 7 s some fits (omega arith) a.plane7 beginning (mod-eq_of_lt some)) (λ i. prior l s (0 + i) % 2)
      (λ i h. ahead_lower l (λ k. get_or s k 0) ((0 + i) % length s) cell)

  pub substituted-holds : Holds 0 v (substituted p starts l) (substitute table l s)
  substituted-holds = products-hold 0 v l (led p.g starts (l / 2 % 2)) (led p.h starts (l % 2)) p s some fits cell small y-held z-held a

-- seven digits fewer are held after a turn
pub turned-holds : (v starts l : ℕ) (p : Planes) (s : List ℕ) → 0 < length s → 7 + v ≤ WORD → l < 4
    → Held v starts (λ i. first ((0 + i) % length s)) → Holds 0 (7 + v) p s → Holds 0 v (turned p starts l) (substitute table l (shuffle s))
turned-holds v starts l p s some fits cell beginning a =
    let long : length (shuffle s) ≡ length s = length-shuffle s in
    substituted-holds v starts l (slid p) (shuffle s) (rw long some) (omega arith) cell (shuffle-below s) (rw long beginning) (slid-holds s some 0 v a)

-- and as many where the planes are as wide as a number
pub around-holds : (s : List ℕ) → length s ≡ WORD → (l : ℕ) (p : Planes) → l < 4 → Holds 0 WORD p s
    → Holds 0 WORD (turned_around p l) (substitute table l (shuffle s))
around-holds s long l p cell a =
    let same : length (shuffle s) ≡ WORD = length-shuffle s ∙ long in
    substituted-holds WORD 1 l (rolled_all p) (shuffle s) (omega arith) (omega arith) cell (shuffle-below s) (rw same (one-held WORD WORD (omega arith)))
    (rolled-holds s long a)
