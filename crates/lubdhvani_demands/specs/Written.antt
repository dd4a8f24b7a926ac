-- What 0 of the C calls that write means: done, and no refusal, with the length and count that stand beside it. Assumes nothing.
use Rattle.std.specs.Prelude.{◌≡◌, refl, ℕ, List, Ok, Err, Result}
use Rattle.std.proofs.Common.{sym, ap, ◌∙◌, arith}
use Rattle.line_layout.specs.Layouts.{layout_of}
use Rattle.frame_body.specs.Fields.{Own}
use Rattle.frame_spec.specs.Told.{told}
use Rattle.frame_write.specs.declared.Written.{Written}
use Rattle.frame_write.specs.declared.FrameRefusal.{FrameRefusal}
use Rattle.frame_write.specs.declared.FrameRefusal.TheVariants as written_is
use Rattle.frame_write.specs.Answers.{frame_made, write_call, write_number, length_of, count_of}
use Rattle.convert_spec.specs.declared.ConvertFault.{ConvertFault}
use Rattle.convert_spec.specs.declared.ConvertFault.TheVariants as converted-is
use Rattle.convert_spec.specs.Answers as converting
use Rattle.convert_spec.specs.Answers.{convert_call}
use Rattle.lubdhvani.specs.declared.frame.Framed.{Framed}
use Rattle.lubdhvani.specs.declared.answers.Measured.{Measured}
use Rattle.lubdhvani_demands.specs.Promises.{Writes, Converts}

done-is : (a : Result Written FrameRefusal) → write_number a ≡ 0 → a ≡ frame_made (length_of a) (count_of a)
done-is (Ok w) e = refl
done-is (Err written_is.Sizes) e = absurd (omega (arith, e))
done-is (Err written_is.TooLong) e = absurd (omega (arith, e))
done-is (Err written_is.Unlisted) e = absurd (omega (arith, e))
done-is (Err written_is.Trade) e = absurd (omega (arith, e))
done-is (Err written_is.Layout) e = absurd (omega (arith, e))
done-is (Err written_is.NoRoom) e = absurd (omega (arith, e))

converted-done : (a : Result ℕ ConvertFault) → converting.convert_number a ≡ 0 → a ≡ Ok (converting.length_in a)
converted-done (Ok n) e = refl
converted-done (Err converted-is.Sizes) e = absurd (omega (arith, e))
converted-done (Err converted-is.NoRoom) e = absurd (omega (arith, e))
converted-done (Err converted-is.Shape) e = absurd (omega (arith, e))
converted-done (Err converted-is.Stuffing) e = absurd (omega (arith, e))
converted-done (Err converted-is.Edition) e = absurd (omega (arith, e))
converted-done (Err converted-is.Font) e = absurd (omega (arith, e))
converted-done (Err converted-is.Seal) e = absurd (omega (arith, e))
converted-done (Err converted-is.Unlisted) e = absurd (omega (arith, e))
converted-done (Err converted-is.Trade) e = absurd (omega (arith, e))
converted-done (Err converted-is.Layout) e = absurd (omega (arith, e))

-- a write call that answers 0 is done, with the length and the count that it answers
pub c-written : (key : List ℕ) (own : Own) (font : List ℕ) (lay : ℕ) (L f : List ℕ) (w : Framed) (f' : List ℕ) → Writes key own font lay L f w f'
    → w.number ≡ 0
    → (write_call (told key font (layout_of lay)) own L f).answer ≡ frame_made w.length w.calls
c-written key own font lay L f w f' p e =
    let a = (write_call (told key font (layout_of lay)) own L f).answer in
    done-is a (sym (ap (λ (x : Framed). x.number) p.0) ∙ e)
    ∙ ap (λ (x : Framed). frame_made x.length x.calls) (sym p.0)

-- and so is a call of the converter
pub c-converted : (key : List ℕ) (own : Own) (font : List ℕ) (lay : ℕ) (s f : List ℕ) (w : Measured) (f' : List ℕ) → Converts key own font lay s f w f'
    → w.number ≡ 0
    → (convert_call (told key font (layout_of lay)) own s f).answer ≡ Ok w.length
c-converted key own font lay s f w f' p e =
    let a = (convert_call (told key font (layout_of lay)) own s f).answer in
    converted-done a (sym (ap (λ (x : Measured). x.number) p.0) ∙ e) ∙ ap (λ (x : Measured). Ok x.length) (sym p.0)
