-- What a read of n bytes into a window makes of a digest: more than the window has, or that part of it. Assumes nothing.
use Rattle.std.specs.Prelude.{Result, ⊤}
use mathlib.Core.Path.{◌≡◌, ◌∙◌}
use mathlib.Core.List.{List}
use Prim.Native.Nat.{ℕ, ◌-◌, ◌≤◌, ◌<◌}
use native.Mathlib.Omega.{arith}
use borrow.Author.Tests.{lt-ltb, le-ltb}
use lib.ListN.{length, take, drop}
use Rattle.tool_files.specs.declared.Heard.{Heard}
use Rattle.tool_files.specs.declared.Heard.TheVariants as heard
use Rattle.running_spec.specs.Running.{feed_answer, feed_record}
use Rattle.running_spec.specs.declared.Record.{Record}
use Rattle.running_spec.specs.declared.FeedRefusal.{FeedRefusal}
use Rattle.tool_sums.specs.Sums.{sum_of, part_answer, part_record}
use Rattle.tool_sums.specs.declared.Sum.{Sum}
use Rattle.tool_sums.specs.declared.Sum.TheVariants as sum

module _ (r : Record) (h : Heard) (w : List ℕ) (n : ℕ) (e : h ≡ heard.Some n) where
  pub past-answer : length w < n → sum.Unread ≡ part_answer r h w
  unfolding part_answer
  past-answer l = rw (e, lt-ltb (length w) n l)

  pub past-record : length w < n → r ≡ part_record r h w
  unfolding part_record
  past-record l = rw (e, lt-ltb (length w) n l)

  whole : take (n - 0) (drop 0 w) ≡ take n w
  whole = let none : n - 0 ≡ n = omega arith in rw none

  pub fed-answer : {s : Sum} {a : Result ⊤ FeedRefusal} → n ≤ length w → a ≡ feed_answer r (take (n - 0) (drop 0 w)) → s ≡ sum_of a → s ≡ part_answer r h w
  unfolding part_answer
  fed-answer l a-is s-is = s-is ∙ rw (e, le-ltb (length w) n l, a-is, whole)

  pub fed-record : {z : Record} → n ≤ length w → z ≡ feed_record r (take (n - 0) (drop 0 w)) → z ≡ part_record r h w
  unfolding part_record
  fed-record l z-is = z-is ∙ rw (e, le-ltb (length w) n l, whole)
