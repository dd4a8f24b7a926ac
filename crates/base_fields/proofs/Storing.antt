-- A field's bytes stored one behind the other, as `lay` goes: its head, and then its value. Assumes nothing.
use mathlib.Core.Path.{◌≡◌, refl, ap, sym}
use mathlib.Core.List.{List, [], ◌∷◌}
use Prim.Native.Nat.{ℕ, ◌+◌, ◌-◌, ◌*◌, ◌/◌, ◌%◌, ◌≤◌, ◌<◌}
use native.Mathlib.Omega.{arith}
use lib.ListN.{length}
use Rattle.std.proofs.Common.{append_assoc, drop-drop}
use Rattle.std.proofs.lemmas.List.Edits.{sets, sets-eq}
use lib.Seq.{length-sets}
use borrow.Rule.Slice.PartMut.{put_mid}
use Rattle.base_fields.specs.Fields.{head_length, high_byte, field}
use Rattle.base_fields.specs.Laws.{length-field}
use Rattle.base_fields.specs.Laying.{sets_more}

-- bytes put over a part of a buffer that is as long
part : (p : List ℕ) (at k : ℕ) (w : List ℕ) → k ≡ length w → at + length w ≤ length p → put_mid at k p w ≡ sets p at w
part p at k w e h = rw (e, drop-drop (length w) at p, ← append_assoc) (sym (sets-eq w p at h))

-- the buffer keeps its length
pub part-length : (p : List ℕ) (at k : ℕ) (w : List ℕ) → k ≡ length w → at + length w ≤ length p → length (put_mid at k p w) ≡ length p
part-length p at k w e h = rw (part p at k w e h, length-sets)

-- the head, and the value behind it
pub put_one : (o : List ℕ) (at tag : ℕ) (v w x : List ℕ) → at + length (field tag v) ≤ length o → length v < high_byte * high_byte
    → w ≡ tag ∷ length v / high_byte % high_byte ∷ length v % high_byte ∷ [] → x ≡ v
    → put_mid (at + head_length) (at + head_length + length v - (at + head_length)) (put_mid at (at + head_length - at) o w) x ≡ sets o at (field tag v)
unfolding field
put_one o at tag v w x room short e f =
    let whole : length (field tag v) ≡ head_length + length v = length-field tag v in
    let n : length w ≡ head_length = ap length e in
    let high : length v / high_byte % high_byte ≡ length v / high_byte = omega arith in
    rw (
      part o at (at + head_length - at) w (omega arith) (omega arith),
      f,
      part (sets o at w) (at + head_length) (at + head_length + length v - (at + head_length)) v (omega arith) (rw length-sets (omega arith)),
      e,
      high,
    )
    (sets_more (tag ∷ length v / high_byte ∷ length v % high_byte ∷ []) v o at (at + head_length) refl)
