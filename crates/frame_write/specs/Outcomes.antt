-- The answers of a writer, case by case, in the words of lengths, the line's rule and room: it is done exactly for what it accepts,
-- with room. Assumes nothing.
use Rattle.std.specs.Prelude.{◌≡◌, refl, Bool, true, false, not, cond, List, ℕ, ◌≤◌, ◌<◌, eqb, leb, ltb, length, Ok, Err, Result, ⊤}
use Rattle.std.proofs.Common.{arith}
use borrow.Author.Tests.{eq-eqb, eqb-true, le-leb, leb-true, lt-ltb, le-ltb, ltb-false}
use Rattle.base_lists.specs.Never.{never}
use Rattle.line_spec.specs.Lines.{longest}
use Rattle.line_layout.specs.Layouts.{layout_rule}
use Rattle.line_layout.specs.declared.LineFault.{LineFault}
use Rattle.line_layout.specs.declared.LineFault.TheVariants as line-is
use Rattle.frame_body.specs.Fields.{nonce_length, digest_length, shortest, job_size, Own}
use Rattle.frame_write.specs.declared.FrameRefusal.TheVariants.{Sizes, TooLong, Unlisted, Trade, Layout, NoRoom}
use Rattle.line_layout.specs.declared.Layout as Layouts
use Rattle.frame_spec.specs.Told.{Told, key_length}
use Rattle.frame_spec.specs.AnyLayout.{under}
use Rattle.frame_spec.specs.Lengths.{frame_room, Sealable}
use Rattle.frame_write.specs.Answers.{frame_made, sizes_right, length_right, WriteCall, refused, refusal_of, by_rule, framed_call, write_call}

-- the tests say what the lengths are
pub sizes-right : {t : Told} {own : Own} {line : List ℕ} → Sealable t own line → sizes_right t own ≡ true
unfolding sizes_right
sizes-right {t} {own} z =
    rw (
      eq-eqb (length t.key) key_length z.key-is,
      eq-eqb (length own.nonce) nonce_length z.nonce-is,
      eq-eqb (length own.job) (job_size own.edition) z.job_is,
    )
    (eq-eqb (length t.font) digest_length z.font-is)

pub length-right : {t : Told} {own : Own} {line : List ℕ} → Sealable t own line → length_right line ≡ true
unfolding length_right
length-right {t} {own} {line} z = rw (le-leb shortest (length line) z.line-from) (le-leb (length line) longest z.line-to)

pub right-sealable : (t : Told) (own : Own) (line : List ℕ) → sizes_right t own ≡ true → length_right line ≡ true → Sealable t own line
unfolding sizes_right length_right
right-sealable t own line =
    go (eqb (length t.key) key_length) refl (eqb (length own.nonce) nonce_length) refl (eqb (length own.job) (job_size own.edition)) refl
    (leb shortest (length line)) refl
  where
    go : (x : Bool) → eqb (length t.key) key_length ≡ x → (y : Bool) → eqb (length own.nonce) nonce_length ≡ y
        → (v : Bool) → eqb (length own.job) (job_size own.edition) ≡ v → (w : Bool) → leb shortest (length line) ≡ w
        → cond x (cond y (cond v (eqb (length t.font) digest_length) false) false) false ≡ true
        → cond w (leb (length line) longest) false ≡ true → Sealable t own line
    go true p true q true s true r e f = record {
      key-is = eqb-true (length t.key) key_length p;
      nonce-is = eqb-true (length own.nonce) nonce_length q;
      job_is = eqb-true (length own.job) (job_size own.edition) s;
      font-is = eqb-true (length t.font) digest_length e;
      line-from = leb-true shortest (length line) r;
      line-to = leb-true (length line) longest f;
    }
    go true p true q true s false r e f = never f
    go true p true q false s w r e f = never e
    go true p false q v s w r e f = never e
    go false p y q v s w r e f = never e

-- sizes are right or not whatever the layout
pub sizes-under : (l : Layouts.Layout) (t : Told) (own : Own) → sizes_right (under l t) own ≡ sizes_right t own
unfolding sizes_right
sizes-under l t own = refl

module _ (t : Told) (own : Own) (line o : List ℕ) where
  pub write-sizes : sizes_right t own ≡ false → write_call t own line o ≡ refused (Err Sizes) o
  unfolding write_call
  write-sizes h = rw h

  pub write-too-long : sizes_right t own ≡ true → length_right line ≡ false → write_call t own line o ≡ refused (Err TooLong) o
  unfolding write_call
  write-too-long h l = rw (h, l)

  module _ (z : Sealable t own line) where
    pub write-unlisted : layout_rule t.layout line ≡ Err line-is.Unlisted → write_call t own line o ≡ refused (Err Unlisted) o
    unfolding write_call
    write-unlisted r = rw (sizes-right z, length-right z, r)

    pub write-trade : layout_rule t.layout line ≡ Err line-is.Trade → write_call t own line o ≡ refused (Err Trade) o
    unfolding write_call
    write-trade r = rw (sizes-right z, length-right z, r)

    pub write-layout : layout_rule t.layout line ≡ Err line-is.Layout → write_call t own line o ≡ refused (Err Layout) o
    unfolding write_call
    write-layout r = rw (sizes-right z, length-right z, r)

    pub write-refused : (fault : LineFault) → layout_rule t.layout line ≡ Err fault → write_call t own line o ≡ refused (Err (refusal_of fault)) o
    unfolding write_call
    write-refused fault r = rw (sizes-right z, length-right z, r)

    pub write-no-room : layout_rule t.layout line ≡ Ok tt → length o < frame_room own.edition → write_call t own line o ≡ refused (Err NoRoom) o
    unfolding write_call
    write-no-room r h = rw (sizes-right z, length-right z, r, lt-ltb (length o) (frame_room own.edition) h)

    pub write_done : layout_rule t.layout line ≡ Ok tt → frame_room own.edition ≤ length o → write_call t own line o ≡ framed_call t own line o
    unfolding write_call
    write_done r h = rw (sizes-right z, length-right z, r, le-ltb (length o) (frame_room own.edition) h)

-- what the writer accepts
pub record Accepts (t : Told) (own : Own) (line : List ℕ) : Type 0 where
  pub sealable : Sealable t own line
  pub ruled : layout_rule t.layout line ≡ Ok tt

-- done only for what it accepts, and with room
pub done-accepts : (t : Told) (own : Own) (line o : List ℕ) (n calls : ℕ) → (write_call t own line o).answer ≡ frame_made n calls
    → Accepts t own line × (frame_room own.edition ≤ length o)
unfolding write_call
done-accepts t own line o n calls =
    by-sizes (sizes_right t own) refl (length_right line) refl
  where
    room : Bool → WriteCall
    room x = cond x (refused (Err NoRoom) o) (framed_call t own line o)

    by-room : Sealable t own line → layout_rule t.layout line ≡ Ok tt → (x : Bool) → ltb (length o) (frame_room own.edition) ≡ x
        → (room x).answer ≡ frame_made n calls → Accepts t own line × (frame_room own.edition ≤ length o)
    by-room z r true p e = absurd (let i : ◌≡◌ {A = ℕ} 0 1 = cc e in omega arith)
    by-room z r false p e = (record { sealable = z; ruled = r }, ltb-false (length o) (frame_room own.edition) p)

    by-rule : Sealable t own line → (j : Result ⊤ LineFault) → layout_rule t.layout line ≡ j
        → (by_rule j (room (ltb (length o) (frame_room own.edition))) o).answer ≡ frame_made n calls → Accepts t own line × (frame_room own.edition ≤ length o)
    by-rule z (Ok tt) r e = by-room z r (ltb (length o) (frame_room own.edition)) refl e
    by-rule z (Err fault) r e = absurd (let i : ◌≡◌ {A = ℕ} 0 1 = cc e in omega arith)

    by-sizes : (x : Bool) → sizes_right t own ≡ x → (y : Bool) → length_right line ≡ y
        → (cond (not x) (refused (Err Sizes) o) (cond (not y) (refused (Err TooLong) o) (by_rule (layout_rule t.layout line)
        (room (ltb (length o) (frame_room own.edition))) o))).answer
        ≡ frame_made n calls → Accepts t own line × (frame_room own.edition ≤ length o)
    by-sizes true p true q e = by-rule (right-sealable t own line p q) (layout_rule t.layout line) refl e
    by-sizes true p false q e = absurd (let i : ◌≡◌ {A = ℕ} 0 1 = cc e in omega arith)
    by-sizes false p y q e = absurd (let i : ◌≡◌ {A = ℕ} 0 1 = cc e in omega arith)
