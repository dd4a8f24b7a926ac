-- `press-listing`: with key and font digest of their sizes and room for every row, from the start and any window, for every cutting of fewer than 2^64 bytes
-- into pieces: what is written of a run of calls, and then the last row, is the listing of the whole (tool_listing/specs/Listing.antt). From the promise of
-- `press_row` alone. Assumes nothing.
use Rattle.std.specs.Prelude.{◌≡◌, Bool, true, false, cond, ℕ, suc, ◌+◌, ◌≤◌, ◌<◌, eqb, length, take, drop}
use Rattle.std.proofs.Math.Path.{refl, sym, ap}
use Rattle.std.proofs.Common.{◌∙◌, arith, length-append, length-take-le}
use mathlib.Core.List.{List, [], ◌∷◌, ◌++◌, map, map-append, append_assoc, append-nil}
use Rattle.std.proofs.lemmas.List.{length-map}
use Rattle.frame_stuff_spec.specs.Stuffing.{longest_stretch}
use Rattle.line_layout.specs.declared.Layout.TheVariants.{Neither}
use Rattle.frame_spec.specs.Told.{told}
use Rattle.read_spec.specs.Editions.{one_alone}
use Rattle.read_spec.specs.Sizes.{Sizes}
use Rattle.read_readings.specs.Readings.{Reading, ends}
use Rattle.tool_row.specs.Rows.{row_room, last_row_text}
use Rattle.tool_listing.specs.Listing.{reading_row, row_number, zeros_in, others_in, joined, listing_of, all_asked, listing}
use Rattle.live_spec.specs.Taking.{taken_in}
use Rattle.live_spec.specs.Steps.{most_bytes}
use Rattle.live_spec.specs.After.{After}
use Rattle.live_spec.proofs.After.{after_none, read_all}
use Rattle.live_spec.proofs.Pieces.{its, new_of, Took, took_in}
use Rattle.live_reading.specs.Promises.{whole}
use Rattle.live_reading.proofs.Whole.{cut, fewer, still-few}
use Rattle.tool_press.specs.declared.Press.{Press}
use Rattle.tool_press.specs.declared.Turn.{Turn}
use Rattle.tool_press.specs.Pressing.{start_press}
use Rattle.tool_pressing.specs.Turns.{Presses, written, Turned}

-- a run of calls over pieces: one as long as bytes of a piece are left, none over an empty rest; what is written, and how far the listing is at its end
pub data Run (key digest : List ℕ) : Press → List ℕ → List (List ℕ) → List ℕ → Press → Type 0 where
  over-all : {c : Press} {w : List ℕ} → Run key digest c w [] [] c
  rest : {c d : Press} {w : List ℕ} {ps : List (List ℕ)} {out : List ℕ} → Run key digest c w ps out d → Run key digest c w ([] ∷ ps) out d
  turn : {c d : Press} {w : List ℕ} {ps : List (List ℕ)} {out : List ℕ} (p o : List ℕ) (r : Turn) (w' o' : List ℕ)
      → 0 < length p → row_room ≤ length o → Presses key digest c w p o r w' o'
      → Run key digest r.press w' (drop r.took p ∷ ps) out d → Run key digest c w (p ∷ ps) (written r o' ++ out) d
