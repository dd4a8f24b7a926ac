-- `layout-narrows` of the converter (order W7): with a layout named a call comes to what it does with none, or that was done and now it is 17 and
-- the buffer is as it was. Assumes nothing.
use Rattle.std.specs.Prelude.{◌≡◌, Bool, not, cond, List, ℕ, ltb, length, Ok, Err, Result}
use Rattle.std.proofs.Math.Path.{refl}
use Rattle.std.proofs.Math.Bool.{true, false}
use Rattle.frame_stuff_spec.specs.declared.UnstuffFault.{UnstuffFault}
use Rattle.frame_stuff_spec.specs.declared.UnstuffFault.TheVariants as unstuffed-is
use Rattle.frame_stuff_spec.specs.Stuffing.{unstuffed}
use Rattle.frame_stuff_spec.specs.Answers.{length_answer}
use Rattle.line_layout.specs.declared.Layout.TheVariants.{Neither}
use Rattle.frame_body.specs.declared.Edition.{Edition}
use Rattle.frame_body.specs.Fields.{Own, Fields, fields, no_body, fields_of}
use Rattle.frame_spec.specs.Told.{Told}
use Rattle.frame_spec.specs.Frames.{frame_of}
use Rattle.frame_spec.specs.AnyLayout.{under, frame-under}
use Rattle.frame_spec.specs.Lengths.{frame_room}
use Rattle.frame_write.specs.Answers.{sizes_right}
use Rattle.read_spec.specs.Judged.{Judged, shape, stuffing, font, work, seal, unlisted, trade, layout, line}
use Rattle.read_spec.specs.Judging.{judge_fields}
use Rattle.read_spec.specs.Narrowing.{Narrower, alike, narrowed}
use Rattle.read_spec.proofs.Narrowing.{fields-narrows}
use Rattle.convert_spec.specs.declared.ConvertFault.TheVariants as converted-is
use Rattle.convert_spec.specs.Answers.{other, same_edition, Sorted, misnamed, judged, sort_fields, sort_stuffing, sorted, refused, by_sort, convert_call}

-- what a stretch is found to be with a layout named, beside what it is found to be with none
data Beside : Sorted → Sorted → Type 0 where
  equal : (x : Sorted) → Beside x x
  less : (k : Own) (l : List ℕ) (n : ℕ) → Beside (judged (layout n)) (judged (line k l n))

module _ (t : Told) (own : Own) (s f : List ℕ) where
  bare : Told
  bare = under Neither t

  by-judged : (j k : Judged) → Narrower j k → Beside (judged j) (judged k)
  by-judged _ _ (alike j) = equal (judged j)
  by-judged _ _ (narrowed k l n) = less k l n

  by-fields : (named : Edition) (x : Fields) → Beside (sort_fields t named x) (sort_fields bare named x)
  unfolding bare
  by-fields named no_body = equal (judged shape)
  by-fields named (fields own₀ digest cipher T) = go (not (same_edition named own₀.edition))
    where
      go : (b : Bool) → Beside (cond b misnamed (judged (judge_fields t (fields own₀ digest cipher T))))
          (cond b misnamed (judged (judge_fields (under Neither t) (fields own₀ digest cipher T))))
      go true = equal misnamed
      go false = by-judged _ _ (fields-narrows t (fields own₀ digest cipher T))

  sorted-beside : (named : Edition) → Beside (sorted t named s) (sorted bare named s)
  unfolding sorted
  sorted-beside named = go (length_answer s)
    where
      go : (u : Result ℕ UnstuffFault) → Beside (sort_stuffing u (sort_fields t named (fields_of (unstuffed s))))
          (sort_stuffing u (sort_fields bare named (fields_of (unstuffed s))))
      go (Err unstuffed-is.TooLong) = equal (judged shape)
      go (Err unstuffed-is.NoRoom) = equal (judged shape)
      go (Err unstuffed-is.Bad) = equal (judged stuffing)
      go (Ok n) = by-fields named (fields_of (unstuffed s))

  -- a line is sealed anew alike
  same-sort : (x : Sorted) → by_sort t own x f ≡ by_sort bare own x f
  unfolding bare
  same-sort misnamed = refl
  same-sort (judged shape) = refl
  same-sort (judged stuffing) = refl
  same-sort (judged font) = refl
  same-sort (judged work) = refl
  same-sort (judged (seal n)) = refl
  same-sort (judged (unlisted n)) = refl
  same-sort (judged (trade n)) = refl
  same-sort (judged (layout n)) = refl
  same-sort (judged (line k L n)) = rw (frame-under Neither t own L)

pub data Narrowed (t : Told) (own : Own) (s f : List ℕ) : Type 0 where
  as-without : convert_call t own s f ≡ convert_call (under Neither t) own s f → Narrowed t own s f
  not-laid : (n : ℕ) → (convert_call (under Neither t) own s f).answer ≡ Ok n → convert_call t own s f ≡ refused (Err converted-is.Layout) f
      → Narrowed t own s f

pub layout-narrows : (t : Told) (own : Own) (s f : List ℕ) → Narrowed t own s f
unfolding convert_call sizes_right bare
layout-narrows t own s f = by_tests (sizes_right t own) refl (ltb (length f) (frame_room own.edition)) refl
  where
    by-sort : (x y : Sorted) → sorted t (other own.edition) s ≡ x → sorted (under Neither t) (other own.edition) s ≡ y → Beside x y
        → sizes_right t own ≡ true → ltb (length f) (frame_room own.edition) ≡ false → Narrowed t own s f
    by-sort _ _ p q (equal x) a b = as-without (rw (a, b, p, q) (same-sort t own s f x))
    by-sort _ _ p q (less k l n) a b = not-laid (length (frame_of (under Neither t) own l)) (rw (a, b, q)) (rw (a, b, p))

    by_tests : (x : Bool) → sizes_right t own ≡ x → (y : Bool) → ltb (length f) (frame_room own.edition) ≡ y → Narrowed t own s f
    by_tests true a true b = as-without (rw (a, b))
    by_tests true a false b = by-sort _ _ refl refl (sorted-beside t own s f (other own.edition)) a b
    by_tests false a y b = as-without (rw a)
