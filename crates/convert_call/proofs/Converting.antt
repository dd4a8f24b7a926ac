-- The steps of the converter on plain lists: the refusals of a call, and the line found sealed anew. Assumes nothing.
use Rattle.std.specs.Prelude.{Ok, Err, Result}
use mathlib.Core.Path.{◌≡◌, sym, ap, ◌∙◌}
use mathlib.Core.Bool.{Bool, true}
use mathlib.Core.List.{List}
use Prim.Native.Nat.{ℕ, ◌-◌, ◌≤◌, ◌<◌}
use native.Mathlib.Omega.{arith}
use lib.ListN.{length, take, drop}
use borrow.Author.Tests.{lt-ltb}
use Rattle.base_lists.specs.Below.{Below}
use Rattle.base_lists.specs.Buffers.{over}
use Rattle.base_lists.specs.Over.{take-over}
use Rattle.line_spec.specs.Lines.{longest}
use Rattle.frame_body.specs.declared.Edition.{Edition}
use Rattle.frame_body.specs.Fields.{Own}
use Rattle.line_layout.specs.declared.Layout.TheVariants.{Neither}
use Rattle.frame_spec.specs.Told.{Told}
use Rattle.frame_spec.specs.AnyLayout.{under}
use Rattle.frame_spec.specs.Frames.{frame_of}
use Rattle.frame_spec.specs.Lengths.{frame_room}
use Rattle.frame_write.specs.declared.Written.{Written}
use Rattle.frame_write.specs.declared.FrameRefusal.{FrameRefusal}
use Rattle.frame_write.specs.Answers as writing
use Rattle.frame_write.specs.Answers.{WriteCall, sizes_right, framed_call, write_call}
use Rattle.frame_write.specs.Outcomes.{Accepts, write_done, sizes-under}
use Rattle.read_spec.specs.Sizes.{Sizes}
use Rattle.read_spec.specs.Editions.{only}
use Rattle.read_spec.specs.Judged.{line}
use Rattle.convert_spec.specs.declared.ConvertFault.{ConvertFault}
use Rattle.convert_spec.specs.declared.ConvertFault.TheVariants as converted-is
use Rattle.convert_spec.specs.declared.Found.{Found}
use Rattle.convert_spec.specs.Answers.{other, Sorted, judged, sorted, found_of, line_out, ConvertCall, refused, by_sort, convert_call}
use Rattle.convert_spec.proofs.Sorting.{sorted-line, sizes-told, no_line, some-line, convert-small, convert-sorted}
use Rattle.convert_find.specs.Finding.{found_in, line_in}
use Rattle.convert_find.specs.Sorted.{found-sorted}
use Rattle.convert_call.specs.Accepting.{found-accepts}

-- `sizes_right` looks at no layout
pub right-under : (t : Told) (own : Own) (x : Bool) {b : Bool} → x ≡ sizes_right (under Neither t) own → x ≡ b → sizes_right t own ≡ b
right-under t own x e is = sym (sizes-under Neither t own) ∙ sym e ∙ is

-- the answer and the buffer, read off what a call comes to
pub met : {x : ConvertCall} {r : Result ℕ ConvertFault} {o : List ℕ} → x ≡ record { answer = r; frame = o } → (r ≡ x.answer) × (o ≡ x.frame)
met e = (sym (ap (λ (x : ConvertCall). x.answer) e), sym (ap (λ (x : ConvertCall). x.frame) e))

module _ (t : Told) (own : Own) (s frame : List ℕ) (r : sizes_right t own ≡ true) where
  pub too_small : length frame < frame_room own.edition → convert_call t own s frame ≡ refused (Err converted-is.NoRoom) frame
  too_small h = convert-small t own s frame r (lt-ltb (length frame) (frame_room own.edition) h)

  -- the line is looked for in a buffer that has room for the longest
  module _ (room : frame_room own.edition ≤ length frame) (bytes : Below 256 s) (o : List ℕ) (long-enough : longest ≤ length o)
      (named : Edition) (nm : named ≡ other own.edition) (f : Found) (fi : f ≡ found_in t named s o) where
    sizes : Sizes t
    sizes = sizes-told t own r

    fd : f ≡ found_of (sorted t (other own.edition) s)
    fd = fi ∙ ap (λ (e : Edition). found_in t e s o) nm ∙ (found-sorted t (other own.edition) s o sizes bytes long-enough).0

    pub not-given : (f.outcome ≡ 1 → ⊥) → convert_call t own s frame ≡ refused f.answer frame
    not-given h =
        convert-sorted t own s frame r room
        ∙ no_line t own (sorted t (other own.edition) s) frame (λ e. h (ap (λ (x : Found). x.outcome) fd ∙ e))
        ∙ ap (λ (x : Found). refused x.answer frame) (sym fd)

    -- a line was found
    module _ (h : f.outcome ≡ 1) (line-out : List ℕ) (li : line-out ≡ line_in t named s o) where
      lo : line-out ≡ line_out (sorted t (other own.edition) s) o
      lo = li ∙ ap (λ (e : Edition). line_in t e s o) nm ∙ (found-sorted t (other own.edition) s o sizes bytes long-enough).1

      its : (k : Own) × (L : List ℕ) × (n : ℕ) × (sorted t (other own.edition) s ≡ judged (line k L n))
      its = some-line (sorted t (other own.edition) s) (sym (ap (λ (x : Found). x.outcome) fd) ∙ h)

      L : List ℕ
      L = its.1

      long : f.length ≡ length L
      unfolding L
      long = ap (λ (x : Found). x.length) fd ∙ ap (λ (x : Sorted). (found_of x).length) its.3

      accepts : Accepts t own L
      unfolding L
      accepts =
          found-accepts t sizes (only (other own.edition)) s bytes own r its.0 its.1 its.2
          (sorted-line t (other own.edition) s its.0 its.1 its.2 its.3)

      pub length-fits : f.length ≤ longest
      length-fits = omega (arith, long, accepts.sealable.line-to)

      the-line : take (f.length - 0) (drop 0 line-out) ≡ L
      unfolding L
      the-line =
          ap (λ (x : List ℕ). take (f.length - 0) (drop 0 x)) (lo ∙ ap (λ (x : Sorted). line_out x o) its.3)
          ∙ take-over L o (f.length - 0) (omega (arith, long))

      pub written : (w : Result Written FrameRefusal) (out : List ℕ) (m : ℕ) → w ≡ (write_call t own (take (f.length - 0) (drop 0 line-out)) frame).answer
          → out ≡ (write_call t own (take (f.length - 0) (drop 0 line-out)) frame).frame → m ≡ writing.length_of w
          → (Ok m ≡ (convert_call t own s frame).answer) × (out ≡ (convert_call t own s frame).frame)
      unfolding L framed_call
      written w out m p q i =
          let call : write_call t own (take (f.length - 0) (drop 0 line-out)) frame ≡ framed_call t own L frame =
          ap (λ (x : List ℕ). write_call t own x frame) the-line ∙ write_done t own L frame accepts.sealable accepts.ruled room in
          let n : m ≡ length (frame_of t own L) =
          i ∙ ap writing.length_of (p ∙ ap (λ (x : WriteCall). x.answer) call) in
          let whole : convert_call t own s frame ≡ record { answer = Ok (length (frame_of t own L)); frame = over (frame_of t own L) frame } =
          convert-sorted t own s frame r room ∙ ap (λ (x : Sorted). by_sort t own x frame) its.3 in
          let y = met whole in
          (ap Ok n ∙ y.0, q ∙ ap (λ (x : WriteCall). x.frame) call ∙ y.1)
