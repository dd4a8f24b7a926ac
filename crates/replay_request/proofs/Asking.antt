-- A request by what it is told: refused, or read on. Assumes nothing.
use mathlib.Core.Path.{◌≡◌}
use mathlib.Core.Bool.{true, false}
use mathlib.Core.List.{List}
use Prim.Native.Nat.{ℕ, ◌≤◌, ◌<◌}
use lib.ListN.{length}
use borrow.Author.Tests.{lt-ltb, le-ltb}
use Rattle.frame_spec.specs.Told.{Told}
use Rattle.read_call.specs.Answers.{longest_stream, sized_told}
use Rattle.replay_spec.specs.Press.{nothing, met, request}
use Rattle.replay_spec.specs.Answers.{judging}
use Rattle.replay_request.specs.Requests.{requested}

module _ (t : Told) (ed : ℕ) (s : List ℕ) (from : ℕ) where
  pub unsized : sized_told t ≡ false → requested t ed s from ≡ met nothing from
  unfolding requested
  unsized e = rw e

  pub too_long : sized_told t ≡ true → longest_stream < length s → requested t ed s from ≡ met nothing from
  unfolding requested
  too_long e h = rw (e, lt-ltb longest_stream (length s) h)

  pub reads_on : sized_told t ≡ true → length s ≤ longest_stream → requested t ed s from ≡ request (judging t ed) s from
  unfolding requested
  reads_on e h = rw (e, le-ltb longest_stream (length s) h)
