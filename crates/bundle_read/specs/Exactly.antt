-- The reader accepts exactly what the writer can make: bundles of a name and rows that fit, no two glyphs alike. Assumes nothing.
use Rattle.std.specs.Prelude.{◌≡◌, false, List, ℕ, length}
use Rattle.bundle_spec.specs.Bundles.{bundle_of, alike}
use Rattle.bundle_spec.specs.Lengths.{Fitting}

-- b is the bundle of a name of n bytes and rows that the writer takes
pub record Bundled (b : List ℕ) (n : ℕ) : Type 0 where
  pub name : List ℕ
  pub rows : List ℕ
  pub is : b ≡ bundle_of name rows
  pub fits : Fitting name rows
  pub unlike : alike rows ≡ false
  pub long : length name ≡ n
