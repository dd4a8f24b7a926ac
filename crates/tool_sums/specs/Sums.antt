-- Which instance a word names, and what becomes of a running digest after a read. Assumes nothing: these are definitions.
use Rattle.std.specs.Prelude.{ℕ, ◌-◌, cond, List, [], ◌∷◌, eqb, ltb, length, get_or, take, replicate, Ok, Err, Some, None, Result, Option, ⊤}
use Rattle.base_lists.specs.Buffers.{same}
use Rattle.gage_spec.specs.Permutation.{LARGEST}
use Rattle.gage_sponge.specs.Padding.{LARGEST-RATE}
use Rattle.tool_files.specs.declared.Heard.{Heard}
use Rattle.tool_files.specs.declared.Heard.TheVariants as heard
use Rattle.running_spec.specs.Running.{feed_answer, feed_record}
use Rattle.running_spec.specs.declared.Record.{Record}
use Rattle.running_spec.specs.declared.FeedRefusal.{FeedRefusal}
use Rattle.running_spec.specs.declared.FeedRefusal.TheVariants as fed-is
use Rattle.tool_sums.specs.declared.Sum.{Sum}
use Rattle.tool_sums.specs.declared.Sum.TheVariants as sum

-- a digit from 1 to 9 is that instance
unfoldable pub digit_named : ℕ → Option ℕ
digit_named d = cond (ltb d 0x31) None (cond (ltb 0x39 d) None (Some (d - 0x30)))

-- `10`, or one such digit
unfoldable pub named_by : List ℕ → Option ℕ
named_by w =
    cond (same w (0x31 ∷ 0x30 ∷ [])) (Some 10)
    (cond (eqb (length w) 1) (digit_named (get_or w 0 0)) None)

-- a record before its start
abbrev pub blank : Record
blank = record { total = 0; instance = 0; finished = 0; state = replicate LARGEST 0; block = replicate LARGEST-RATE 0 }

-- what a feed's answer says of the input
abbrev pub sum_of : Result ⊤ FeedRefusal → Sum
sum_of (Ok tt) = sum.On
sum_of (Err fed-is.AfterFinish) = sum.Unread
sum_of (Err fed-is.Unknown) = sum.Unread
sum_of (Err fed-is.TooLong) = sum.TooLong

-- n bytes at the start of the window w are fed; more than it has were not read
unfoldable pub part_answer : Record → Heard → List ℕ → Sum
part_answer r (heard.Some n) w = cond (ltb (length w) n) sum.Unread (sum_of (feed_answer r (take n w)))
part_answer r heard.Again w = sum.On
part_answer r heard.End w = sum.End
part_answer r heard.Failed w = sum.Unread

unfoldable pub part_record : Record → Heard → List ℕ → Record
part_record r (heard.Some n) w = cond (ltb (length w) n) r (feed_record r (take n w))
part_record r heard.Again w = r
part_record r heard.End w = r
part_record r heard.Failed w = r
