-- A stretch that is not misnamed is what a reader of the edition named alone judges it to be; and what converting comes to, case by case.
-- Assumes nothing.
use Rattle.std.specs.Prelude.{◌≡◌, refl, Bool, true, false, not, cond, List, ℕ, ◌≤◌, eqb, ltb, length, Ok, Err, Result}
use Rattle.std.proofs.Common.{sym, ◌∙◌, arith}
use borrow.Author.Tests.{eqb-true, le-ltb}
use Rattle.base_lists.specs.Never.{never}
use Rattle.frame_stuff_spec.specs.declared.UnstuffFault.{UnstuffFault}
use Rattle.frame_stuff_spec.specs.declared.UnstuffFault.TheVariants as unstuffed-is
use Rattle.frame_stuff_spec.specs.Stuffing.{unstuffed}
use Rattle.frame_stuff_spec.specs.Answers.{length_answer}
use Rattle.frame_body.specs.declared.Edition.{Edition}
use Rattle.frame_body.specs.declared.Edition.TheVariants.{One, Two}
use Rattle.frame_body.specs.Fields.{nonce_length, digest_length, job_size, Own, Fields, fields, no_body, fields_of}
use Rattle.frame_spec.specs.Told.{key_length, Told}
use Rattle.frame_spec.specs.Lengths.{frame_room}
use Rattle.frame_write.specs.Answers.{sizes_right}
use Rattle.read_spec.specs.Sizes.{Sizes}
use Rattle.read_spec.specs.Editions.{allows, only, among}
use Rattle.read_spec.specs.Judged.{shape, stuffing, font, work, seal, unlisted, trade, layout, line}
use Rattle.read_spec.specs.Judging.{judge_fields, by_stuffing, judge, held_by, held}
use Rattle.convert_spec.specs.declared.ConvertFault.TheVariants as converted-is
use Rattle.convert_spec.specs.Answers.{other, same_edition, other_than, Sorted, misnamed, judged, sort_fields}
use Rattle.convert_spec.specs.Answers.{sort_stuffing, sorted, found_of, refused, by_sort, convert_call}

-- the edition named is allowed to a reader of it alone, and the other is not
same-allows : (e e' : Edition) → same_edition e e' ≡ allows (only e) e'
unfolding allows
same-allows One One = refl
same-allows One Two = refl
same-allows Two One = refl
same-allows Two Two = refl

module _ (t : Told) (named : Edition) where
  by-fields : (f : Fields) → other_than named f ≡ false → sort_fields t named f ≡ judged (judge_fields t (among (only named) f))
  by-fields no_body h = refl
  by-fields (fields own digest cipher T) h = go (same_edition named own.edition) refl h
    where
      go : (b : Bool) → same_edition named own.edition ≡ b → not b ≡ false
          → cond (not b) misnamed (judged (judge_fields t (fields own digest cipher T))) ≡ judged
          (judge_fields t (among (only named) (fields own digest cipher T)))
      go true e n = rw (sym (same-allows named own.edition) ∙ e)
      go false e n = never (sym n)

  by-stuffing : (u : Result ℕ UnstuffFault) (f : Fields) → other_than named (held_by u f) ≡ false
      → sort_stuffing u (sort_fields t named f) ≡ judged (by_stuffing u (judge_fields t (among (only named) f)))
  by-stuffing (Err unstuffed-is.TooLong) f h = refl
  by-stuffing (Err unstuffed-is.NoRoom) f h = refl
  by-stuffing (Err unstuffed-is.Bad) f h = refl
  by-stuffing (Ok n) f h = by-fields f h

  pub sorted-judged : (s : List ℕ) → other_than named (held s) ≡ false → sorted t named s ≡ judged (judge t (only named) s)
  unfolding sorted judge held
  sorted-judged s h = by-stuffing (length_answer s) (fields_of (unstuffed s)) h

  by-other : (f : Fields) → other_than named f ≡ true → sort_fields t named f ≡ misnamed
  by-other no_body h = never h
  by-other (fields own digest cipher T) h = rw h

  other-stuffing : (u : Result ℕ UnstuffFault) (f : Fields) → other_than named (held_by u f) ≡ true → sort_stuffing u (sort_fields t named f) ≡ misnamed
  other-stuffing (Err unstuffed-is.TooLong) f h = never h
  other-stuffing (Err unstuffed-is.NoRoom) f h = never h
  other-stuffing (Err unstuffed-is.Bad) f h = never h
  other-stuffing (Ok n) f h = by-other f h

  pub sorted-misnamed : (s : List ℕ) → other_than named (held s) ≡ true → sorted t named s ≡ misnamed
  unfolding sorted held
  sorted-misnamed s h = other-stuffing (length_answer s) (fields_of (unstuffed s)) h

  -- a line comes only from a reader's line
  pub sorted-line : (s : List ℕ) (k : Own) (L : List ℕ) (n : ℕ) → sorted t named s ≡ judged (line k L n) → judge t (only named) s ≡ line k L n
  sorted-line s k L n e = go (other_than named (held s)) refl
    where
      go : (b : Bool) → other_than named (held s) ≡ b → judge t (only named) s ≡ line k L n
      go true h = absurd (let z : ◌≡◌ {A = ℕ} 0 1 = cc (e, sorted-misnamed s h) in omega arith)
      go false h = cc (e, sorted-judged s h)

-- sizes that are right are right for a reader too
pub sizes-told : (t : Told) (own : Own) → sizes_right t own ≡ true → Sizes t
unfolding sizes_right
sizes-told t own = go (eqb (length t.key) key_length) refl (eqb (length own.nonce) nonce_length) (eqb (length own.job) (job_size own.edition))
  where
    go : (x : Bool) → eqb (length t.key) key_length ≡ x → (y v : Bool) → cond x (cond y (cond v (eqb (length t.font) digest_length) false) false) false
        ≡ true → Sizes t
    go true p true true e = record { key-is = eqb-true (length t.key) key_length p; font-is = eqb-true (length t.font) digest_length e }
    go true p true false e = never e
    go true p false v e = never e
    go false p y v e = never e

-- where no line is found the call is refused for it
pub no_line : (t : Told) (own : Own) (x : Sorted) (frame : List ℕ) → ((found_of x).outcome ≡ 1 → ⊥) → by_sort t own x frame ≡ refused (found_of x).answer frame
no_line t own misnamed frame h = refl
no_line t own (judged shape) frame h = refl
no_line t own (judged stuffing) frame h = refl
no_line t own (judged font) frame h = refl
no_line t own (judged work) frame h = refl
no_line t own (judged (seal n)) frame h = refl
no_line t own (judged (unlisted n)) frame h = refl
no_line t own (judged (trade n)) frame h = refl
no_line t own (judged (layout n)) frame h = refl
no_line t own (judged (line k L n)) frame h = absurd (h refl)

-- and where one is, it is a line
pub some-line : (x : Sorted) → (found_of x).outcome ≡ 1 → (k : Own) × (L : List ℕ) × (n : ℕ) × (x ≡ judged (line k L n))
some-line misnamed h = absurd (omega (arith, h))
some-line (judged shape) h = absurd (omega (arith, h))
some-line (judged stuffing) h = absurd (omega (arith, h))
some-line (judged font) h = absurd (omega (arith, h))
some-line (judged work) h = absurd (omega (arith, h))
some-line (judged (seal n)) h = absurd (omega (arith, h))
some-line (judged (unlisted n)) h = absurd (omega (arith, h))
some-line (judged (trade n)) h = absurd (omega (arith, h))
some-line (judged (layout n)) h = absurd (omega (arith, h))
some-line (judged (line k L n)) h = (k, L, n, refl)

module _ (t : Told) (own : Own) (s frame : List ℕ) where
  pub convert-sizes : sizes_right t own ≡ false → convert_call t own s frame ≡ refused (Err converted-is.Sizes) frame
  unfolding convert_call
  convert-sizes h = rw h

  module _ (r : sizes_right t own ≡ true) where
    pub convert-small : ltb (length frame) (frame_room own.edition) ≡ true → convert_call t own s frame ≡ refused (Err converted-is.NoRoom) frame
    unfolding convert_call
    convert-small h = rw (r, h)

    pub convert-sorted : frame_room own.edition ≤ length frame → convert_call t own s frame ≡ by_sort t own (sorted t (other own.edition) s) frame
    unfolding convert_call
    convert-sorted h = rw (r, le-ltb (length frame) (frame_room own.edition) h)
