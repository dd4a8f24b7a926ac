-- One call of `press_row` after some bytes of a link: what it writes are the rows of what is read with the bytes that it takes, and they are counted. From
-- its promise alone. Assumes nothing.
use Rattle.std.specs.Prelude.{◌≡◌, Bool, cond, List, [], ◌∷◌, map, ℕ, ◌+◌, ◌≤◌, ◌<◌, eqb, take}
use Rattle.std.proofs.Math.Path.{refl, sym, ap, ap₂}
use Rattle.std.proofs.Common.{◌∙◌, append-nil, mod-eq_of_lt}
use Rattle.std.proofs.Math.Bool.{true, false}
use native.Mathlib.Omega.{arith}
use Rattle.std.proofs.Math.ListN.{length}
use borrow.Author.Tests.{le-ltb}
use Rattle.base_lists.specs.Buffers.{over}
use Rattle.base_lists.specs.Over.{take-over}
use Rattle.line_spec.specs.Lines.{longest}
use Rattle.line_layout.specs.declared.Layout.TheVariants.{Neither}
use Rattle.frame_spec.specs.Told.{Told, told}
use Rattle.read_spec.specs.Editions.{one_alone}
use Rattle.read_spec.specs.Judged.{number_in, line_in, Judged, shape, stuffing, font, work, seal, unlisted, trade, layout, line}
use Rattle.read_spec.specs.Sizes.{Sizes}
use Rattle.read_readings.specs.Readings.{Reading, reading, ends}
use Rattle.read_call.specs.declared.Asked.{Asked}
use Rattle.read_call.specs.Answers as read-answers
use Rattle.read_call.specs.Answers.{answer_of, line_over, length_of}
use Rattle.demand_reading.proofs.GivenWritten.{told-sized}
use Rattle.tool_row.specs.Rows.{row_text, row_room}
use Rattle.tool_listing.specs.Listing.{reading_row, row_number, zeros_in, others_in, joined, all_asked}
use Rattle.tool_listing.specs.Steps.{one_more}
use Rattle.live_spec.specs.declared.Numbers.{Numbers}
use Rattle.live_spec.specs.Taking.{Taken, taken_in}
use Rattle.live_spec.specs.Steps.{most_bytes, judged_in, Found, waits, closed, found_in, found, step_of, window_of, line_of}
use Rattle.live_spec.specs.After.{After}
use Rattle.live_spec.proofs.After.{possible-is}
use Rattle.live_spec.proofs.Pieces.{its, new_of}
use Rattle.tool_press.specs.declared.Press.{Press}
use Rattle.tool_press.specs.declared.Turn.{Turn}
use Rattle.tool_press.specs.Pressing.{press_at, counted, row_of, rowed, own, pressed, press_window, press_row, pressed_length}

-- a call with this key and font, over how far the listing is, the window w and the piece p, with the row buffer o before it, may answer r and leave w' and o'
abbrev pub Presses : List ℕ → List ℕ → Press → List ℕ → List ℕ → List ℕ → Turn → List ℕ → List ℕ → Type 0
Presses key digest c w p o r w' o' =
    (r ≡ pressed key digest c w p (length o))
    × ((w' ≡ press_window key digest c w p (length o)) × (o' ≡ over (press_row key digest c w p (length o)) o))

-- what is written of it
abbrev pub written : Turn → List ℕ → List ℕ
written r o' = take (pressed_length r.answer) o'

-- what a call comes to, with these readings new
pub record Turned (c : Press) (k : Taken) (new : List Reading) (r : Turn) (w' o' : List ℕ) : Type 0 where
  pub press-is : r.press ≡ press_at k.behind (c.lines + zeros_in (map row_number new)) (c.refused + others_in (map row_number new))
  pub took-is : r.took ≡ k.took
  pub window-is : w' ≡ k.window
  pub rows_are : written r o' ≡ joined (map reading_row new)
