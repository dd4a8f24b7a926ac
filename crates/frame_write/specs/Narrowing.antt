-- `layout-narrows` of the writer (order W7): with a layout named a call comes to what it does with none, or that was done or 4 and now it is 17
-- and the buffer is as it was. Assumes nothing.
use Rattle.std.specs.Prelude.{◌≡◌, refl, Bool, true, false, cond, List, ℕ, ltb, length, Err, Result}
use Rattle.line_layout.specs.declared.Layout.TheVariants.{Neither}
use Rattle.line_layout.specs.Rule as ruled
use Rattle.frame_body.specs.Fields.{Own}
use Rattle.frame_spec.specs.Told.{Told}
use Rattle.frame_spec.specs.Frames.{sealed_line, sealed_body, frame_of}
use Rattle.frame_spec.specs.Lengths.{frame_room}
use Rattle.frame_spec.specs.AnyLayout.{under}
use Rattle.frame_write.specs.declared.Written.{Written}
use Rattle.frame_write.specs.declared.FrameRefusal.{FrameRefusal}
use Rattle.frame_write.specs.declared.FrameRefusal.TheVariants as written_is
use Rattle.frame_write.specs.Answers.{frame_made, sizes_right, length_right, WriteCall, refused, by_room, framed_call, write_call}

-- the answers for a line that the rule accepts
pub data Accepting : Result Written FrameRefusal → Type 0 where
  done : (n calls : ℕ) → Accepting (frame_made n calls)
  no_room : Accepting (Err written_is.NoRoom)

pub data Narrowed (t : Told) (own : Own) (line o : List ℕ) : Type 0 where
  as-without : write_call t own line o ≡ write_call (under Neither t) own line o → Narrowed t own line o
  not-laid : Accepting (write_call (under Neither t) own line o).answer → write_call t own line o ≡ refused (Err written_is.Layout) o → Narrowed t own line o

pub layout-narrows : (t : Told) (own : Own) (line o : List ℕ) → Narrowed t own line o
unfolding write_call framed_call sizes_right frame_of sealed_body sealed_line
layout-narrows t own line o = by-sizes (sizes_right t own) refl (length_right line) refl
  where
    go : WriteCall
    go = by_room own.edition o (framed_call t own line o)

    accepting : (b : Bool) → Accepting (cond b (refused (Err written_is.NoRoom) o) (framed_call t own line o)).answer
    accepting true = no_room
    accepting false = done _ _

    by-rule : ruled.Narrowed t.layout line → sizes_right t own ≡ true → length_right line ≡ true → Narrowed t own line o
    by-rule (ruled.as-without e) p q = as-without (rw (p, q, e))
    by-rule (ruled.not-laid e f) p q =
        not-laid (rw (p, q, e) (accepting (ltb (length o) (frame_room own.edition)))) (rw (p, q, f))

    by-sizes : (x : Bool) → sizes_right t own ≡ x → (y : Bool) → length_right line ≡ y → Narrowed t own line o
    by-sizes true p true q = by-rule (ruled.rule-narrows t.layout line) p q
    by-sizes true p false q = as-without (rw (p, q))
    by-sizes false p y q = as-without (rw p)
