-- Numbers and window after some bytes, a byte at a time: they are those of the bytes received, what was given is what is read of them, and what is
-- still to come is read from the mark before the unfinished stretch. Over any way to judge a stretch's bytes. Assumes nothing.
use Rattle.std.specs.Prelude.{◌≡◌, refl, cond, eqb, take, drop}
use Rattle.std.proofs.Common.{sym, ◌∙◌, length-append, take-suc-set}
use Rattle.std.proofs.Math.Path.{ap}
use Rattle.std.proofs.Math.Bool.{true, false}
use mathlib.Core.List.{List, [], ◌∷◌, ◌++◌, append_assoc, append-nil}
use Prim.Native.Nat.{ℕ, suc, ◌+◌, ◌-◌, ◌≤◌, ◌<◌}
use native.Mathlib.Omega.{arith}
use Rattle.std.proofs.Math.Dec.{ltb}
use Rattle.std.proofs.Math.ListN.{length, get_or, get_or-append}
use Rattle.std.proofs.lemmas.List.{drop-append-le}
use Rattle.std.proofs.Math.Seq.{get_or-append_seam}
use borrow.Author.Tests.{eq-eqb, ne_eqb, lt-ltb, le-leb, ltb-true, ltb-false}
use Rattle.base_lists.specs.Never.{never}
use Rattle.frame_stuff_spec.specs.Stuffing.{mark, longest_stretch}
use Rattle.read_stretch.specs.Stretches.{span}
use Rattle.read_stretch.specs.Meaning.{NoMark, Stretch}
use Rattle.read_spec.specs.Judged.{Judged}
use Rattle.read_readings.specs.Readings.{Reading, reading, readings}
use Rattle.read_readings.specs.Resync.{Mark}
use Rattle.live_spec.specs.declared.Numbers.{Numbers}
use Rattle.live_spec.specs.Taking.{no_bytes, possible, unfinished, closes, behind_mark, behind_byte, kept}
use Rattle.live_spec.specs.Ends.{before_first, since_mark, behind_last, ends_of, ends_answer}
use Rattle.live_spec.specs.Marks.{clear-more, stands, clear-end, passed, opened, unclosed, closed-bytes, ends_from, ends-byte, ends-mark}

-- no mark came
pub record Unmarked (s : List ℕ) (n : Numbers) : Type 0 where
  pub no-mark : n.marked ≡ 0
  pub no_place : n.mark ≡ 0
  pub no-first : n.first ≡ 0
  pub clear : NoMark s 0 (length s)

-- one came, and the unfinished stretch starts behind the last; while it is not over-long the window holds all of it
pub record Marked (s : List ℕ) (n : Numbers) (w : List ℕ) : Type 0 where
  pub one-mark : n.marked ≡ 1
  pub behind : n.mark < n.first
  pub within : n.first ≤ length s
  pub opens : get_or s (n.first - 1) 0 ≡ mark
  pub clear : NoMark s n.first (length s)
  pub held : length s - n.first ≤ longest_stretch → take (length s - n.first) w ≡ drop n.first s

pub data State (s : List ℕ) (n : Numbers) (w : List ℕ) : Type 0 where
  unmarked : Unmarked s n → State s n w
  marked : Marked s n w → State s n w

-- after the bytes s these are numbers and window, and g was read of them
pub record After (judge : List ℕ → Judged) (s : List ℕ) (n : Numbers) (w : List ℕ) (g : List Reading) : Type 0 where
  pub received_is : n.received ≡ length s
  pub room : length w ≡ longest_stretch
  pub state : State s n w
  pub reads : (more : List ℕ) → readings judge (s ++ more) 0 ≡ g ++ readings judge (s ++ more) (n.first - 1)
  pub ends : (more : List ℕ) → ends_of (s ++ more) ≡ ends_from n more
