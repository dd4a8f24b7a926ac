-- A state stays a state: substitution and its inverse keep its length and give bytes, at every size and for all leaders. Assumes nothing.
use Rattle.std.specs.Prelude.{◌≡◌, refl, ℕ, suc, ◌+◌, ◌*◌, ◌/◌, ◌<◌, ◌%◌, length}
use Rattle.std.proofs.Common.{ap, arith}
use mathlib.Core.List.{List, [], ◌∷◌}
use Rattle.base_lists.specs.Below.{Below}
use Rattle.gage_cells.specs.Cells.{star, Closed, cells, bytes, follow, recover, substitute, restore}

pub length-substitute : (t : List (List ℕ)) (l : ℕ) (s : List ℕ) → length (substitute t l s) ≡ length s
unfolding substitute cells bytes follow
length-substitute t l [] = refl
length-substitute t l (b ∷ r) = ap suc (length-substitute t (b % 4) r)

pub length-restore : (t : List (List ℕ)) (l : ℕ) (s : List ℕ) → length (restore t l s) ≡ length s
unfolding restore cells bytes recover
length-restore t l [] = refl
length-restore t l (b ∷ r) = ap suc (length-restore t (star t (star t (star t (star t l (b / 64)) (b / 16 % 4)) (b / 4 % 4)) (b % 4)) r)

module _ (t : List (List ℕ)) (closed : Closed t) where
  -- four products make a byte
  four : (w x y z a b c d : ℕ) → star t w a * 64 + star t x b * 16 + star t y c * 4 + star t z d < 256
  four w x y z a b c d = omega (arith, closed.below w a, closed.below x b, closed.below y c, closed.below z d)

  pub substitute-below : (l : ℕ) (s : List ℕ) → Below 256 (substitute t l s)
  unfolding substitute cells bytes follow
  substitute-below l [] = tt
  substitute-below l (x ∷ r) =
      (four l (x / 64) (x / 16 % 4) (x / 4 % 4) (x / 64) (x / 16 % 4) (x / 4 % 4) (x % 4), substitute-below (x % 4) r)

  pub restore-below : (l : ℕ) (s : List ℕ) → Below 256 (restore t l s)
  unfolding restore cells bytes recover
  restore-below l [] = tt
  restore-below l (x ∷ r) = (four l _ _ _ (x / 64) (x / 16 % 4) (x / 4 % 4) (x % 4), restore-below (star t (star t (star t (star t l (x / 64)) (x / 16 % 4)) (x / 4 % 4)) (x % 4)) r)
