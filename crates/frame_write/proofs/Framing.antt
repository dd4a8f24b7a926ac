-- A frame written from the start of a buffer as `put_frame` goes: a mark, the stuffed body in the part behind it, a mark. Assumes nothing.
use Rattle.std.specs.Prelude.{Ok, Err, Result}
use mathlib.Core.Path.{◌≡◌, ap, ◌∙◌}
use mathlib.Core.List.{List, [], ◌∷◌}
use Prim.Native.Nat.{ℕ, ◌+◌, ◌-◌, ◌*◌, ◌≤◌}
use native.Mathlib.Numerals.{add-one}
use native.Mathlib.Omega.{arith}
use lib.ListN.{length, set, take, drop, length-set, length-take, length-drop}
use borrow.Rule.Slice.PartMut.{put_mid}
use Rattle.base_lists.specs.Buffers.{over}
use Rattle.base_lists.specs.Over.{over-part, over-more, over-length}
use Rattle.frame_stuff_spec.specs.declared.StuffRefusal.{StuffRefusal}
use Rattle.frame_stuff_spec.specs.Stuffing.{mark, stuffed}
use Rattle.frame_stuff_spec.specs.Lengths.{stuffed-at-most}
use Rattle.frame_stuff_spec.specs.Answers.{stuff_answer, stuff_out}
use Rattle.frame_stuff_spec.proofs.Outcomes.{stuff-done}
use Rattle.frame_spec.specs.Frames.{framed}

module _ (b o : List ℕ) (room : 2 * length b + 2 ≤ length o) where
  -- the buffer with its first mark, and the part behind that
  abbrev pub opened : List ℕ
  opened = set o 0 mark

  abbrev pub part : List ℕ
  part = take (length opened - 1) (drop 1 opened)

  opened-is : opened ≡ over (mark ∷ []) o
  opened-is = over-more [] (mark ∷ []) o (omega arith)

  length_part : length part ≡ length o - 1
  length_part = rw (length-take, length-drop, length-set) (omega arith)

  -- there is room to stuff
  pub stuffs : stuff_answer b part ≡ Ok (length (stuffed b))
  stuffs = (stuff-done b part (omega (arith, length_part))).0

  module _ (w : List ℕ) (e : w ≡ stuff_out b part) where
    abbrev pub filled : List ℕ
    filled = put_mid 1 (length opened - 1) opened w

    filled_is : filled ≡ over (mark ∷ stuffed b) o
    filled_is =
        rw (e, (stuff-done b part (omega (arith, length_part))).1)
        (over-part 1 (stuffed b) opened (rw length-set (omega (arith, stuffed-at-most b)))
        ∙ rw opened-is (over-more (mark ∷ []) (stuffed b) o (omega (arith, stuffed-at-most b))))

    pub length-filled : length filled ≡ length o
    length-filled = ap length filled_is ∙ over-length (mark ∷ stuffed b) o (omega (arith, stuffed-at-most b))

    pub length-closed : (n v : ℕ) → length (set filled n v) ≡ length o
    length-closed n v = length-set filled n v ∙ length-filled

    -- and with the closing mark it is the frame
    pub closed : (n : ℕ) → n ≡ length (stuffed b) → set filled (n + 1) mark ≡ over (framed b) o
    unfolding framed
    closed n i = rw (filled_is, i, add-one) (over-more (mark ∷ stuffed b) (mark ∷ []) o (omega (arith, stuffed-at-most b)))

-- so no refusal comes back
pub never-refused : {r : Result ℕ StuffRefusal} {n : ℕ} {f : StuffRefusal} → r ≡ Ok n → r ≡ Err f → ⊥
never-refused p q = let z : ◌≡◌ {A = ℕ} 0 1 = cc (p, q) in omega arith
