-- `write_edition` meets its promise: the refusals in their order, then the sealed body and its frame. Assumes nothing.
use Rattle.std.specs.Prelude.{Ok, Err, Result, IsErrAnd}
use Rattle.std.proofs.lemmas.Result.{err_from_is_err_and}
use Rattle.frame_write.specs.declared.Written.{Written}
use Rattle.frame_write.specs.declared.FrameRefusal.{FrameRefusal}
use mathlib.Core.Path.{◌≡◌, sym, ap, ◌∙◌}
use Prim.Native.Nat.{◌+◌}
use native.Mathlib.Omega.{arith}
use lib.ListN.{take, length, length-take}
use Rattle.frame_write.specs.Outcomes.{right-sealable, write-sizes, write-too-long, write-refused, write-no-room, sizes-under}
use Rattle.frame_write.proofs.Answering.{met, scratch-holds, frame-fits, framed-met}
use Rattle.frame_spec.specs.Lengths.{Sealable}
use Rattle.frame_spec.specs.Frames.{sealed_body}
use Rattle.frame_spec.specs.AnyLayout.{sealable-under}
use Rattle.line_layout.specs.declared.Layout.TheVariants.{Neither}
use Rattle.line_layout.specs.Layouts.{layout_rule}
use Rattle.frame_body.specs.declared.Edition.TheVariants.{One}
use Rattle.frame_body.specs.Fields.{own_of}
use Rattle.frame_body.specs.Lengths.{beside_cipher}
use Rattle.frame_body.proofs.Lengths.{job-field-most}
use Rattle.frame_spec.specs.Told.{told}
use Rattle.frame_write.proofs.write_edition.Goals as goal
use Rattle.frame_write.proofs.write_edition.Goals.{After-sealed_body-scratch, Else-not-length_right, In_ok-judge_line}

sealable : (c : Else-not-length_right) → Sealable (told c.args.key.now c.args.font.now c.args.layout) (own_of c.args.edition c.args.nonce.now c.args.job.now) c.args.line.now
sealable c =
    right-sealable _ _ _
    (sym (sizes-under Neither (told c.args.key.now c.args.font.now c.args.layout) (own_of c.args.edition c.args.nonce.now c.args.job.now)) ∙ sym c.sizes_right.ensures ∙ c.if-not-sizes_right.false)
    (sym c.length_right.ensures ∙ c.if-not-length_right.false)

-- what `?` hands on is the refusal that the fault comes to
told-err : (r : Result Written FrameRefusal) (f : FrameRefusal) → IsErrAnd r (λ (e : FrameRefusal). e ≡ f) → r ≡ Err f
told-err r f h = let e = err_from_is_err_and r h in e.1 ∙ ap Err e.2

accepted : (c : In_ok-judge_line) → layout_rule c.args.layout c.args.line.now ≡ Ok tt
accepted c = sym c.judge_line.ensures ∙ c.in_ok-judge_line.was

body_is : (c : After-sealed_body-scratch) → Sealable (told c.args.key.now c.args.font.now c.args.layout) (own_of c.args.edition c.args.nonce.now c.args.job.now) c.args.line.now
    → take (beside_cipher One + c.job_field_length-more.result + length c.args.line.now) c.sealed_body-scratch.result
    ≡ sealed_body (told c.args.key.now c.args.font.now c.args.layout) (own_of c.args.edition c.args.nonce.now c.args.job.now) c.args.line.now
body_is c z =
    scratch-holds z Neither _ _ c.sealed_body-scratch.ensures (beside_cipher One + c.job_field_length-more.result + length c.args.line.now)
    (omega (arith, c.job_field_length-more.ensures))

pub returns-then-not-sizes_right : goal.returns-then-not-sizes_right
returns-then-not-sizes_right c =
    let done = met (write-sizes _ _ _ _ (sym (sizes-under Neither (told c.args.key.now c.args.font.now c.args.layout) (own_of c.args.edition c.args.nonce.now c.args.job.now))
    ∙ sym c.sizes_right.ensures ∙ c.if-not-sizes_right.true)) in
    record { value = done.0; frame_after = done.1 }

pub returns-then-not-length_right : goal.returns-then-not-length_right
returns-then-not-length_right c =
    let done = met (write-too-long _ _ _ _ (sym (sizes-under Neither (told c.args.key.now c.args.font.now c.args.layout) (own_of c.args.edition c.args.nonce.now c.args.job.now))
    ∙ sym c.sizes_right.ensures ∙ c.if-not-sizes_right.false)
    (sym c.length_right.ensures ∙ c.if-not-length_right.true)) in
    record { value = done.0; frame_after = done.1 }

pub returns-in_err-judge_line : goal.returns-in_err-judge_line
returns-in_err-judge_line c =
    let at = goal.at.returns-in_err-judge_line c in
    let done = met (write-refused _ _ _ _ (sealable at.Else-not-length_right) _ (sym c.judge_line.ensures ∙ c.in_err-judge_line.was)) in
    record { value = told-err _ _ c.from_residual.ensures.1 ∙ done.0; frame_after = done.1 }

pub returns-then-frame-more : goal.returns-then-frame-more
returns-then-frame-more c =
    let z = sealable (goal.at.returns-then-frame-more c).Else-not-length_right in
    let done = met (write-no-room _ _ _ _ z (accepted (goal.at.returns-then-frame-more c).In_ok-judge_line) (omega (arith, c.job_field_length-more.ensures))) in
    record { value = done.0; frame_after = done.1 }

pub sealed_body-scratch-requires : goal.sealed_body-scratch-requires
sealed_body-scratch-requires c = sealable-under Neither _ _ _ (sealable (goal.at.sealed_body-scratch-requires c).Else-not-length_right)

pub slice_bounds-scratch-end : goal.slice_bounds-scratch-end
slice_bounds-scratch-end c =
    let z = sealable (goal.at.slice_bounds-scratch-end c).Else-not-length_right in
    omega (arith, z.line-to, c.job_field_length-more.ensures, job-field-most c.args.edition)

pub slice_bounds-put_frame-end : goal.slice_bounds-put_frame-end
slice_bounds-put_frame-end c =
    let z = sealable (goal.at.slice_bounds-put_frame-end c).Else-not-length_right in
    simp length-take (omega (arith, z.line-to, c.job_field_length-more.ensures, job-field-most c.args.edition))

pub put_frame-requires : goal.put_frame-requires
put_frame-requires c =
    let z = sealable (goal.at.put_frame-requires c).Else-not-length_right in
    omega (arith, frame-fits z _ (body_is (goal.at.put_frame-requires c).After-sealed_body-scratch z), c.job_field_length-more.ensures)

pub returns : goal.returns
returns c =
    let p = c.put_frame.ensures in
    let z = sealable (goal.at.returns c).Else-not-length_right in
    let done = framed-met z (accepted (goal.at.returns c).In_ok-judge_line) _ (omega (arith, c.job_field_length-more.ensures)) _ _ _ _
    (body_is (goal.at.returns c).After-sealed_body-scratch z) p.value (omega (arith, c.job_field_length-more.ensures)) p.out_after in
    record { value = done.0; frame_after = done.1 }
