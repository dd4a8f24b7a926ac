-- One turn of a state in planes: the substitution of the state that they hold, after its shuffle. Assumes nothing.
use Rattle.std.specs.Prelude.{◌≡◌, refl, List, ℕ, zero, suc, ◌+◌, ◌/◌, ◌%◌, ◌≤◌, ◌<◌}
use Rattle.std.proofs.Math.Path.{sym}
use Rattle.std.proofs.Common.{◌∙◌, mod-lt, mod-eq_of_lt, arith}
use Rattle.std.proofs.Math.ListN.{length, get_or}
use Rattle.base_lists.specs.Below.{Below, below_at}
use Rattle.gage_cells.specs.Cells.{table, substitute, substituted_byte}
use Rattle.gage_cells.specs.States.{length-substitute}
use Rattle.gage_cells.specs.Wide.{before, substitute-at}
use Rattle.gage_shuffle.specs.Shuffling.{bit, shuffle}
use Rattle.gage_shuffle.specs.States.{length-shuffle, shuffle-below}
use Rattle.base_digits.specs.Held.{Held, WORD, held_same}
use Rattle.gage_planes_spec.specs.declared.Planes.{Planes}
use Rattle.gage_planes_spec.specs.Planes.{led, products, substituted, turned, turned_around, slid, rolled_all}
use Rattle.gage_planes_spec.specs.Columns.{column, Holds}
use Rattle.gage_planes_spec.specs.Products.{upper-held, lower-held, byte0, byte1, byte2, byte3, byte4, byte5, byte6, byte7}
use Rattle.gage_planes_spec.specs.Leading.{first, ahead, led-held, one-held}

-- the cell before byte i, around
unfoldable pub prior : ℕ → List ℕ → ℕ → ℕ
prior l s i = before l (λ k. get_or s k 0) (i % length s)
