-- A buffer written from its start in parts of any length: laws about `over`. Assumes nothing.
use Rattle.std.specs.Prelude.{◌≡◌, refl, List, ◌++◌, ℕ, ◌+◌, ◌-◌, ◌≤◌, length, take, drop}
use Rattle.std.proofs.Common.{sym, ◌∙◌, append_assoc, append-nil, arith, length-append, length-drop, drop_of_length-le, take_at, take_all, drop-drop}
use Rattle.std.proofs.Math.Seq.{drop-append-add}
use Rattle.std.proofs.lemmas.List.Edits.{sets, sets-eq}
use Rattle.base_lists.specs.Buffers.{over, copied}

-- a buffer keeps its length
pub over-length : (w o : List ℕ) → length w ≤ length o → length (over w o) ≡ length o
over-length w o h = simp (length-append, length-drop) (omega arith)

-- v stored behind w
pub over-more : (w v o : List ℕ) → length w + length v ≤ length o → sets (over w o) (length w) v ≡ over (w ++ v) o
over-more w v o h =
    sets-eq v (over w o) (length w) (simp (length-append, length-drop) (omega arith))
    ∙ rw (
      take_at w (drop (length w) o) (length w) refl,
      drop-append-add w (drop (length w) o) (length v),
      drop-drop (length v) (length w) o,
      length-append,
      append_assoc,
    )

-- all of s is copied where it fits
pub copied_all : (s o : List ℕ) → length s ≤ length o → copied s o ≡ over s o
copied_all s o h = rw (take_all (length o) s h)

-- w over the start of the part of o that begins at a place: o with w stored from that place on
pub over-part : (at : ℕ) (w o : List ℕ) → at + length w ≤ length o
    → take at o ++ (over w (take (length o - at) (drop at o)) ++ drop (length o - at) (drop at o)) ≡ sets o at w
over-part at w o h =
    let l : length (drop at o) ≤ length o - at = omega (arith, length-drop at o) in
    rw (
      take_all (length o - at) (drop at o) l,
      drop_of_length-le (drop at o) {i = length o - at} l,
      append-nil,
      drop-drop (length w) at o,
      ← append_assoc,
    )
    (sym (sets-eq w o at h))

-- a buffer no longer than w holds w alone
pub over-whole : (w o : List ℕ) → length o ≤ length w → over w o ≡ w
over-whole w o h = rw (drop_of_length-le o {i = length w} h) (append-nil w)

-- the first bytes are w
pub take-over : (w o : List ℕ) (n : ℕ) → length w ≡ n → take n (over w o) ≡ w
take-over w o n e = take_at w (drop (length w) o) n e
