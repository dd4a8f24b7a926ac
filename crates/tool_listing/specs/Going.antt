-- Where nothing is against a row, a call goes by whether the last row was given, and else by whether a stretch is left. Assumes nothing.
use Rattle.std.specs.Prelude.{◌≡◌, ℕ, Bool, cond, List, length, Ok, None}
use Rattle.std.proofs.Common.{ap, le-ltb}
use Rattle.read_stretch.specs.Stretches.{next_span}
use Rattle.frame_spec.specs.Told.{Told}
use Rattle.read_readings.specs.Readings.{ends}
use Rattle.read_call.specs.Answers.{longest_stream}
use Rattle.demand_reading.proofs.GivenWritten.{told-sized}
use Rattle.tool_row.specs.Rows.{row_room, last_row_text}
use Rattle.tool_listing.specs.Steps.{refusal, row_given, ended_at, next_reading, reading_given, next_given, given, Ready}
use Rattle.tool_listing.specs.declared.Cursor.{Cursor}

pub given_is : (t : Told) (ed : ℕ) (s : List ℕ) (c : Cursor) (room : ℕ) → Ready t s c room → (b : Bool) → c.ended ≡ b
    → given t ed s c room ≡ cond b (refusal (Ok None) c) (next_given t ed s c)
unfolding given
given_is t ed s c room y b e =
    rw (
      told-sized t y.sizes.key-is y.sizes.font-is,
      le-ltb longest_stream (length s) y.short,
      le-ltb room row_room y.roomy,
      le-ltb (length s) c.place y.inside,
    )
    (ap (λ (x : Bool). cond x (refusal (Ok None) c) (next_given t ed s c)) e)

pub next-is : (t : Told) (ed : ℕ) (s : List ℕ) (c : Cursor) (b : Bool) → ends (next_span s c.place) ≡ b
    → next_given t ed s c ≡ cond b (row_given (last_row_text c.lines c.refused) (ended_at c (length s))) (reading_given c (next_reading t ed s c.place))
unfolding next_given
next-is t ed s c b e =
    ap (λ (x : Bool). cond x (row_given (last_row_text c.lines c.refused) (ended_at c (length s))) (reading_given c (next_reading t ed s c.place))) e
