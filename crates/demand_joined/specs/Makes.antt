-- A write call that is done, from the writer's promise alone: the frame that it left at its buffer's start, and that it is the frame of what the
-- call was told. Every done call is one (`done-makes`), and for what the writer accepts there is one (`accepted-makes`). Assumes nothing.
use Rattle.std.specs.Prelude.{◌≡◌, refl, List, ℕ, length, take, replicate, Result}
use Rattle.std.proofs.Common.{sym, ap, ◌∙◌, arith}
use Rattle.std.proofs.lemmas.List.{length-replicate}
use Rattle.base_lists.specs.Over.{take-over}
use Rattle.frame_body.specs.Fields.{Own}
use Rattle.frame_spec.specs.Told.{Told}
use Rattle.frame_spec.specs.Frames.{sealed_line, frame_of}
use Rattle.frame_spec.specs.Lengths.{frame_room}
use Rattle.frame_write.specs.declared.Written.{Written}
use Rattle.frame_write.specs.declared.FrameRefusal.{FrameRefusal}
use Rattle.frame_write.specs.Answers.{frame_made, WriteCall, framed_call, write_call}
use Rattle.frame_write.specs.Outcomes.{Accepts, write_done}
use Rattle.demand_reading.specs.Promises.{Writes}
use Rattle.demand_reading.proofs.GivenWritten.{wrote}

-- some write call of this line with this key, font and layout, and with what is the frame's own, is done and leaves this frame
pub record Makes (t : Told) (own : Own) (line frame : List ℕ) : Type 0 where
  pub before : List ℕ
  pub answer : Result Written FrameRefusal
  pub after : List ℕ
  pub calls : ℕ
  pub promised : Writes t.key own t.font t.layout line before answer after
  pub done : answer ≡ frame_made (length frame) calls
  pub left : take (length frame) after ≡ frame

module _ {t : Told} {own : Own} {line frame : List ℕ} (m : Makes t own line frame) where
  -- the writer accepts what it was told, and the frame is that of the definitions
  pub makes-accepts : Accepts t own line
  makes-accepts =
      (wrote t.key own t.font t.layout line m.before m.answer m.after m.promised (length frame) m.calls m.done).accepts

  pub makes-frame : frame ≡ frame_of t own line
  makes-frame =
      sym m.left
      ∙ (wrote t.key own t.font t.layout line m.before m.answer m.after m.promised (length frame) m.calls m.done).frame

-- every write call that is done
pub done-makes : (t : Told) (own : Own) (line f : List ℕ) (w : Result Written FrameRefusal) (f' : List ℕ) (n k : ℕ)
    → Writes t.key own t.font t.layout line f w f' → w ≡ frame_made n k → Makes t own line (take n f')
done-makes t own line f w f' n k p e =
    let o = wrote t.key own t.font t.layout line f w f' p n k e in
    let long : length (take n f') ≡ n = ap length o.frame ∙ sym o.long in
    record {
      before = f;
      answer = w;
      after = f';
      calls = k;
      promised = p;
      done = e ∙ ap (λ (i : ℕ). frame_made i k) (sym long);
      left = ap (λ (i : ℕ). take i f') long;
    }

-- what the writer accepts, in a buffer with room
pub accepted-makes : (t : Told) (own : Own) (line : List ℕ) → Accepts t own line → Makes t own line (frame_of t own line)
unfolding framed_call
accepted-makes t own line a =
    let f : List ℕ = replicate (frame_room own.edition) 0 in
    let c = write_call t own line f in
    let long = length-replicate {A = ℕ} (frame_room own.edition) 0 in
    let z : c ≡ framed_call t own line f = write_done t own line f a.sealable a.ruled (omega (arith, long)) in
    record {
      before = f;
      answer = c.answer;
      after = c.frame;
      calls = (sealed_line t own line).calls;
      promised = (refl, refl);
      done = ap (λ (x : WriteCall). x.answer) z;
      left = ap (λ (x : WriteCall). take (length (frame_of t own line)) x.frame) z
          ∙ take-over (frame_of t own line) f (length (frame_of t own line)) refl;
    }
