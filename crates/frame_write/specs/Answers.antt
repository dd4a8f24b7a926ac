-- What a writer of either edition answers, and what the lent buffer then holds: document 01's order of refusals, with those of orders W2
-- and W7 behind 9 (2, 3, 9, 13, 17, 4), one line each. Assumes nothing: these are definitions.
use Rattle.std.specs.Prelude.{Bool, false, not, cond, List, ℕ, eqb, leb, ltb, length, Ok, Err, Result, ⊤}
use Rattle.base_lists.specs.Buffers.{over}
use Rattle.line_spec.specs.Lines.{longest}
use Rattle.line_layout.specs.Layouts.{layout_rule}
use Rattle.line_layout.specs.declared.LineFault.{LineFault}
use Rattle.line_layout.specs.declared.LineFault.TheVariants as line-is
use Rattle.frame_body.specs.declared.Edition.{Edition}
use Rattle.frame_body.specs.Fields.{nonce_length, digest_length, shortest, job_size, Own}
use Rattle.frame_write.specs.declared.Written.{Written}
use Rattle.frame_write.specs.declared.FrameRefusal.{FrameRefusal}
use Rattle.frame_write.specs.declared.FrameRefusal.TheVariants as written_is
use Rattle.frame_spec.specs.Told.{Told, key_length}
use Rattle.frame_spec.specs.Frames.{sealed_line, frame_of}
use Rattle.frame_spec.specs.Lengths.{frame_room}

-- number 2: key, nonce and font digest of 16, 12 and 32 bytes, in edition two a job of 4
unfoldable pub sizes_right : Told → Own → Bool
sizes_right t own =
    cond (eqb (length t.key) key_length)
    (cond (eqb (length own.nonce) nonce_length)
    (cond (eqb (length own.job) (job_size own.edition))
    (eqb (length t.font) digest_length) false) false) false

-- number 3: a line of 1 to 65 bytes
unfoldable pub length_right : List ℕ → Bool
length_right line = cond (leb shortest (length line)) (leb (length line) longest) false

-- a frame of that length, with so many calls of the permutation
abbrev pub frame_made : ℕ → ℕ → Result Written FrameRefusal
frame_made n k = Ok (record { length = n; calls = k })

-- the answer, and the buffer afterwards
pub record WriteCall : Type 0 where
  pub answer : Result Written FrameRefusal
  pub frame : List ℕ

-- a refusal leaves the buffer as it was
abbrev pub refused : Result Written FrameRefusal → List ℕ → WriteCall
refused r frame = record { answer = r; frame = frame }

-- what a line that is refused comes to: numbers 9, 13 and 17
abbrev pub refusal_of : LineFault → FrameRefusal
refusal_of line-is.Unlisted = written_is.Unlisted
refusal_of line-is.Trade = written_is.Trade
refusal_of line-is.Layout = written_is.Layout

-- by the line's rule and its layout
abbrev pub by_rule : Result ⊤ LineFault → WriteCall → List ℕ → WriteCall
by_rule (Ok tt) go frame = go
by_rule (Err fault) go frame = refused (Err (refusal_of fault)) frame

-- number 4
abbrev pub by_room : Edition → List ℕ → WriteCall → WriteCall
by_room e frame go = cond (ltb (length frame) (frame_room e)) (refused (Err written_is.NoRoom) frame) go

-- the frame over the start of the buffer, its length and the calls of the permutation
unfoldable pub framed_call : Told → Own → List ℕ → List ℕ → WriteCall
framed_call t own line frame = record {
  answer = frame_made (length (frame_of t own line)) (sealed_line t own line).calls;
  frame = over (frame_of t own line) frame;
}

unfoldable pub write_call : Told → Own → List ℕ → List ℕ → WriteCall
write_call t own line frame =
    cond (not (sizes_right t own)) (refused (Err written_is.Sizes) frame)
    (cond (not (length_right line)) (refused (Err written_is.TooLong) frame)
    (by_rule (layout_rule t.layout line) (by_room own.edition frame (framed_call t own line frame)) frame))

-- the number of each answer (document 01, 'Numbers returned'; orders W2 and W7)
abbrev pub write_number : Result Written FrameRefusal → ℕ
write_number (Ok w) = 0
write_number (Err written_is.Sizes) = 2
write_number (Err written_is.TooLong) = 3
write_number (Err written_is.Unlisted) = 9
write_number (Err written_is.Trade) = 13
write_number (Err written_is.Layout) = 17
write_number (Err written_is.NoRoom) = 4

-- the frame's length, 0 on a refusal
abbrev pub length_of : Result Written FrameRefusal → ℕ
length_of (Ok w) = w.length
length_of (Err r) = 0

-- the count, 0 on a refusal
abbrev pub count_of : Result Written FrameRefusal → ℕ
count_of (Ok w) = w.calls
count_of (Err r) = 0
