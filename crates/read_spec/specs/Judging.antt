-- What a stretch's bytes are found to be (document 01, 'Numbers returned', order of a stretch; orders W2, W6 and W7): 7 for its length, 6, 7 for
-- its fields or their edition, 8, 5, 9, 13, 17, else its line. Assumes nothing: these are definitions.
use Rattle.std.specs.Prelude.{not, cond, List, ℕ, Ok, Err, Result, ⊤}
use Rattle.base_lists.specs.Buffers.{same}
use Rattle.frame_stuff_spec.specs.declared.UnstuffFault.{UnstuffFault}
use Rattle.frame_stuff_spec.specs.declared.UnstuffFault.TheVariants as unstuffed-is
use Rattle.frame_stuff_spec.specs.Stuffing.{unstuffed}
use Rattle.frame_stuff_spec.specs.Answers.{length_answer}
use Rattle.line_layout.specs.declared.Layout as layouts
use Rattle.line_layout.specs.declared.LineFault.{LineFault}
use Rattle.line_layout.specs.declared.LineFault.TheVariants.{Unlisted, Trade, Layout}
use Rattle.line_layout.specs.Layouts.{layout_rule}
use Rattle.ingage_spec.specs.Instances.{first}
use Rattle.ingage_spec.specs.Cipher.{Work, decrypted, accepted}
use Rattle.frame_body.specs.Fields.{Own, Fields, fields, no_body, fields_of, associated}
use Rattle.frame_spec.specs.Told.{Told}
use Rattle.read_spec.specs.Editions.{among}
use Rattle.read_spec.specs.Judged.{Judged, shape, stuffing, font, seal, unlisted, trade, layout, line}

-- by the rule of a line and its layout: 9, 13, 17
abbrev pub by_rule : Result ⊤ LineFault → Own → Work → Judged
by_rule (Err Unlisted) own w = unlisted w.calls
by_rule (Err Trade) own w = trade w.calls
by_rule (Err Layout) own w = layout w.calls
by_rule (Ok tt) own w = line own w.text w.calls

-- what opening finds under the seal T: 5, then 9, 13 and 17
abbrev pub judge_work : layouts.Layout → Own → Work → List ℕ → Judged
judge_work l own w T =
    cond (not (accepted w.seal T)) (seal w.calls)
    (by_rule (layout_rule l w.text) own w)

-- sealed fields are opened under the first instance with the frame's nonce
unfoldable pub judge_sealed : layouts.Layout → Own → List ℕ → List ℕ → List ℕ → List ℕ → Judged
judge_sealed l own key A cipher T = judge_work l own (decrypted first key own.nonce A cipher) T

-- what a body's fields hold: 7, then 8
abbrev pub judge_fields : Told → Fields → Judged
judge_fields t no_body = shape
judge_fields t (fields own digest cipher T) =
    cond (not (same digest t.font)) font
    (judge_sealed t.layout own t.key (associated own.edition digest own.job) cipher T)

-- what the unstuffed length is found to be: 7 for the stretch's length, then 6 (there is no buffer, so room never lacks)
abbrev pub by_stuffing : Result ℕ UnstuffFault → Judged → Judged
by_stuffing (Err unstuffed-is.TooLong) j = shape
by_stuffing (Err unstuffed-is.NoRoom) j = shape
by_stuffing (Err unstuffed-is.Bad) j = stuffing
by_stuffing (Ok n) j = j

-- a stretch: 7 for its length, 6, then what its body's fields hold, if their edition is allowed
unfoldable pub judge : Told → ℕ → List ℕ → Judged
judge t ed s = by_stuffing (length_answer s) (judge_fields t (among ed (fields_of (unstuffed s))))

-- the fields that a stretch holds: none where it is too long or badly stuffed
abbrev pub held_by : Result ℕ UnstuffFault → Fields → Fields
held_by (Err unstuffed-is.TooLong) f = no_body
held_by (Err unstuffed-is.NoRoom) f = no_body
held_by (Err unstuffed-is.Bad) f = no_body
held_by (Ok n) f = f

unfoldable pub held : List ℕ → Fields
held s = held_by (length_answer s) (fields_of (unstuffed s))
