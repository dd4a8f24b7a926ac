-- The one pass over a line a byte at a time, as the loop of `judge_line` goes. Assumes nothing.
use Rattle.std.specs.Prelude.{Err}
use mathlib.Core.Path.{◌≡◌}
use mathlib.Core.Bool.{true, false}
use mathlib.Core.List.{List}
use Prim.Native.Nat.{ℕ, ◌+◌, ◌≤◌, ◌<◌}
use lib.ListN.{length, get_or, drop, drop_of_length-le}
use Rattle.base_lists.specs.Walk.{at}
use Rattle.line_spec.specs.declared.TradeFault.TheVariants.{Unlisted}
use Rattle.line_judge.specs.declared.Met.{Met}
use Rattle.line_spec.specs.Lines.{is_listed}
use Rattle.line_judge.specs.Passing.{passing, judged_by, passed}

module _ (m : Met) (s : List ℕ) (i : ℕ) where
  pub pass_on : i < length s → is_listed (get_or s i 0) ≡ true → passed m (drop i s) ≡ passed (passing m (get_or s i 0)) (drop (i + 1) s)
  unfolding passed
  pass_on h e = rw (at s i h, e)

  pub pass-stop : i < length s → is_listed (get_or s i 0) ≡ false → passed m (drop i s) ≡ Err Unlisted
  unfolding passed
  pass-stop h e = rw (at s i h, e)

  pub pass-end : length s ≤ i → passed m (drop i s) ≡ judged_by m
  unfolding passed
  pass-end h = rw (drop_of_length-le s {i = i} h)
