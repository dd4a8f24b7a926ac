-- A call's answer and its buffer, read off what it comes to. Assumes nothing.
use Rattle.std.specs.Prelude.{Ok, Result}
use mathlib.Core.Path.{◌≡◌, sym, ap, ◌∙◌}
use mathlib.Core.List.{List}
use Prim.Native.Nat.{ℕ, ◌+◌, ◌*◌, ◌≤◌}
use native.Mathlib.Omega.{arith}
use lib.ListN.{length, take}
use Rattle.base_lists.specs.Buffers.{over}
use Rattle.base_lists.specs.Over.{take-over}
use Rattle.line_layout.specs.Layouts.{layout_rule}
use Rattle.frame_body.specs.Fields.{Own}
use Rattle.frame_body.specs.Lengths.{beside_cipher}
use Rattle.frame_write.specs.Outcomes.{write_done}
use Rattle.frame_write.specs.declared.Written.{Written}
use Rattle.frame_write.specs.declared.FrameRefusal.{FrameRefusal}
use Rattle.line_layout.specs.declared.Layout.{Layout}
use Rattle.frame_spec.specs.Told.{Told}
use Rattle.frame_spec.specs.AnyLayout.{under, body-under}
use Rattle.frame_spec.specs.Frames.{sealed_body, framed, frame_of}
use Rattle.frame_spec.specs.Lengths.{Sealable, beside_line, length-sealed-body, sealed-body-lengths, write-calls, frame_room}
use Rattle.frame_write.specs.Answers.{frame_made, WriteCall, framed_call, write_call}

pub met : {x : WriteCall} {r : Result Written FrameRefusal} {o : List ℕ} → x ≡ record { answer = r; frame = o } → (r ≡ x.answer) × (o ≡ x.frame)
met e = (sym (ap (λ (x : WriteCall). x.answer) e), sym (ap (λ (x : WriteCall). x.frame) e))

module _ {t : Told} {own : Own} {line : List ℕ} (z : Sealable t own line) where
  -- the body is the first bytes of its scratch, which is sealed whatever the layout
  pub scratch-holds : (l : Layout) (o x : List ℕ) → x ≡ over (sealed_body (under l t) own line) o → (n : ℕ) → n ≡ beside_cipher own.edition + length line
      → take n x ≡ sealed_body t own line
  scratch-holds l o x g n e = rw (g, body-under l t own line) (take-over (sealed_body t own line) o n (omega (arith, length-sealed-body z)))

  -- a frame's room is enough for what stuffing asks and two marks
  pub frame-fits : (b : List ℕ) → b ≡ sealed_body t own line → 2 * length b + 2 ≤ frame_room own.edition
  frame-fits b e = omega (arith, ap length e, sealed-body-lengths z)

  -- the frame of that body is the writer's
  pub framed-met : (r : layout_rule t.layout line ≡ Ok tt) (o : List ℕ) → frame_room own.edition ≤ length o → (b out : List ℕ) (n k : ℕ)
      → b ≡ sealed_body t own line → n ≡ length (framed b) → k ≡ length line + beside_line own.edition → out ≡ over (framed b) o
      → (frame_made n k ≡ (write_call t own line o).answer) × (out ≡ (write_call t own line o).frame)
  unfolding framed_call frame_of
  framed-met r o h b out n k e l i w =
      let m = met (write_done t own line o z r h) in (rw (l, i, ← write-calls z, e) m.0, w ∙ rw e m.1)
