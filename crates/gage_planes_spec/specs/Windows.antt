-- Two windows: a state wider than a number, of h + h bytes, held by the planes that begin at its first byte and by those that begin at byte h. A turn, drawing
-- out, the windows of a state in planes, and the state in planes that windows hold. Assumes nothing.
use Rattle.std.specs.Prelude.{◌≡◌, List, take, drop}
use Rattle.std.proofs.Math.Path.{refl, sym, ap, ap₂}
use Rattle.std.proofs.Common.{◌∙◌, subst, mod-lt, div-one, lt_of_lt_of_le, pow_mono, pow_pos, shr_lt, length-take-le, take_all, get_or-take, lt-ltb, le-ltb}
use Prim.Native.Nat.{ℕ, zero, suc, ◌+◌, ◌-◌, ◌*◌, ◌/◌, ◌%◌, ◌^◌, ◌≤◌, ◌<◌, min}
use Rattle.std.proofs.Math.Nat.{mod-eq_of_lt, add-mod_left, min-zero, min-eq_left}
use Rattle.std.proofs.Math.Decide.{dec_lt}
use native.Mathlib.Omega.{arith}
use Rattle.std.specs.Int.Bits.{bit_and, differ, mask_lt, xor_lt}
use Rattle.std.proofs.lemmas.Nat.{and_mask}
use Rattle.std.proofs.Math.ListN.{length, get_or, length-drop}
use Rattle.std.proofs.Math.Seq.{get_or-drop}
use Rattle.base_lists.specs.Below.{Below}
use Rattle.gage_cells.specs.Cells.{table, substitute}
use Rattle.gage_shuffle.specs.Shuffling.{bit, shuffle}
use Rattle.gage_shuffle.specs.States.{length-shuffle, shuffle-below}
use Rattle.base_digits.specs.Digits.{digit, differ-none, digit-below, digit-xor, digit_and, digit-shr}
use Rattle.base_digits.specs.Digits.{digit-mod, digit-high, digit-shl-low, digit-shl-high, digits_same}
use Rattle.base_digits.specs.Held.{Held, WORD, ONES, ones-digit, held_same}
use Rattle.gage_planes_spec.specs.declared.State.{State}
use Rattle.gage_planes_spec.specs.declared.Windows.{Windows}
use Rattle.gage_planes_spec.specs.Planes.{slid, beside, drawn_out, led_from}
use Rattle.gage_planes_spec.specs.Planes.{substituted_both, turned_both, drawn_both, behind, second_of, rejoined}
use Rattle.gage_planes_spec.specs.Columns.{column, column-around, Holds, holds-fewer, drawn-out-holds}
use Rattle.gage_planes_spec.specs.Leading.{first, ahead, digit-one, one-held, carried-held}
use Rattle.gage_planes_spec.specs.Turning.{prior}
use Rattle.gage_planes_spec.specs.Told.{LOW, ROOM, worth, digit_at, plane, rest_of, state_of}
use Rattle.gage_planes_spec.specs.Bytes.{Woven, digit-plane, plane-below}
use Rattle.gage_planes_spec.specs.Exact.{same-planes, same-states, column-digit}

pub record HoldBoth (h v : ℕ) (w : Windows) (s : List ℕ) : Type 0 where
  pub front : Holds 0 v w.first s
  pub back : Holds h v w.second s
