-- `make` meets its promise: what the text draws is worked out, the text is held to the drawing of that, and then it is written. Assumes nothing.
use Rattle.std.specs.Prelude.{Err}
use Rattle.std.proofs.lemmas.Result.{err_from_is_err_and}
use mathlib.Core.Path.{◌≡◌, sym, ap, ap₂, ◌∙◌}
use mathlib.Core.List.{List}
use Prim.Native.Nat.{ℕ, ◌≤◌}
use native.Mathlib.Omega.{arith}
use Rattle.bundle_spec.specs.Bundles.{longest_name}
use Rattle.bundle_write.specs.Answers.{write_answer, write_out}
use Rattle.bundle_draw.specs.Making.{end_of, name_length_of, of_written}
use Rattle.bundle_draw.specs.Drawn.{name-bound, name-drawn, rows-drawn, fault-drawn, make-row, make-written}
use Rattle.bundle_draw.proofs.make.Goals as goal

pub name_of-name-requires : goal.name_of-name-requires
name_of-name-requires c =
    let s = c in
    let text = s.args.text.now in
    let n = c.name_length-n.result in
    let is : n ≡ name_length_of (end_of text) = c.name_length-n.ensures ∙ ap name_length_of c.line_end.ensures in
    let most : n ≤ longest_name = rw is (name-bound (end_of text)) in
    most

pub overflow_mul-n : goal.overflow_mul-n
overflow_mul-n c =
    let s = c in
    let text = s.args.text.now in
    let n = c.name_length-n.result in
    let is : n ≡ name_length_of (end_of text) = c.name_length-n.ensures ∙ ap name_length_of c.line_end.ensures in
    let most : n ≤ longest_name = rw is (name-bound (end_of text)) in
    omega arith

pub overflow_add-n : goal.overflow_add-n
overflow_add-n c =
    let s = c in
    let text = s.args.text.now in
    let n = c.name_length-n.result in
    let is : n ≡ name_length_of (end_of text) = c.name_length-n.ensures ∙ ap name_length_of c.line_end.ensures in
    let most : n ≤ longest_name = rw is (name-bound (end_of text)) in
    omega arith

pub rows_of-rows-requires : goal.rows_of-rows-requires
rows_of-rows-requires c =
    let s = c in
    let text = s.args.text.now in
    let n = c.name_length-n.result in
    let is : n ≡ name_length_of (end_of text) = c.name_length-n.ensures ∙ ap name_length_of c.line_end.ensures in
    let most : n ≤ longest_name = rw is (name-bound (end_of text)) in
    omega arith

pub slice_bounds-fault_row-end : goal.slice_bounds-fault_row-end
slice_bounds-fault_row-end c =
    let s = c in
    let text = s.args.text.now in
    let n = c.name_length-n.result in
    let is : n ≡ name_length_of (end_of text) = c.name_length-n.ensures ∙ ap name_length_of
    c.line_end.ensures in
    let most : n ≤ longest_name = rw is (name-bound (end_of text)) in
    omega arith

pub returns-then-row-ne0 : goal.returns-then-row-ne0
returns-then-row-ne0 c =
    let s = c in
    let text = s.args.text.now in
    let n = c.name_length-n.result in
    let is : n ≡ name_length_of (end_of text) = c.name_length-n.ensures ∙ ap name_length_of
    c.line_end.ensures in
    let most : n ≤ longest_name = rw is (name-bound (end_of text)) in
    let name = name-drawn text n is c.name_of-name.result
    c.name_of-name.ensures in
    let rows = rows-drawn text n is c.rows_of-rows.result
    c.rows_of-rows.ensures in record { value = (make-row text s.args.out.now _ (fault-drawn text _ _ name rows _ c.fault_row-row.ensures) c.if-row-ne0.true).0; out_after = (make-row text s.args.out.now _ (fault-drawn text _ _ name rows _ c.fault_row-row.ensures) c.if-row-ne0.true).1 }

pub slice_bounds-write-end : goal.slice_bounds-write-end
slice_bounds-write-end c =
    let s = c in
    let text = s.args.text.now in
    let n = c.name_length-n.result in
    let is : n ≡ name_length_of (end_of text) = c.name_length-n.ensures ∙ ap name_length_of
    c.line_end.ensures in
    let most : n ≤ longest_name = rw is (name-bound (end_of text)) in
    omega arith

pub returns-in_err-write : goal.returns-in_err-write
returns-in_err-write c =
    let (y, err, from) = err_from_is_err_and c.from_residual.result c.from_residual.ensures.1 in
    let s = c in
    let text = s.args.text.now in
    let n = c.name_length-n.result in
    let is : n ≡ name_length_of (end_of text) =
    c.name_length-n.ensures ∙ ap
    name_length_of c.line_end.ensures in
    let most : n ≤ longest_name = rw is (name-bound (end_of text)) in
    let name = name-drawn text n is
    c.name_of-name.result
    c.name_of-name.ensures in
    let rows = rows-drawn text n is
    c.rows_of-rows.result
    c.rows_of-rows.ensures in
    let none = sym (fault-drawn text _ _ name rows _ c.fault_row-row.ensures) ∙
    c.if-row-ne0.false in
    let told = make-written text s.args.out.now none in
    let w = c.write.ensures in
    let o = s.args.out.now in
    let answer = ap of_written (sym c.in_err-write.was ∙ w.value) ∙ ap₂ (λ (x y : List ℕ). of_written (write_answer x y o)) name rows ∙ told.0 in
    record { value = err ∙ ap Err from ∙ answer; out_after = w.out_after ∙ ap₂ (λ (x y : List ℕ). write_out x y o) name rows ∙ told.1 }

pub returns : goal.returns
returns c =
    let s = c in
    let text = s.args.text.now in
    let n = c.name_length-n.result in
    let is : n ≡ name_length_of (end_of text) =
    c.name_length-n.ensures ∙ ap
    name_length_of c.line_end.ensures in
    let most : n ≤ longest_name = rw is (name-bound (end_of text)) in
    let name = name-drawn text n is
    c.name_of-name.result
    c.name_of-name.ensures in
    let rows = rows-drawn text n is
    c.rows_of-rows.result
    c.rows_of-rows.ensures in
    let none = sym (fault-drawn text _ _ name rows _ c.fault_row-row.ensures) ∙
    c.if-row-ne0.false in
    let told = make-written text s.args.out.now none in
    let w = c.write.ensures in
    let o = s.args.out.now in
    let answer = ap of_written (sym c.in_ok-write.was ∙ w.value) ∙ ap₂ (λ (x y : List ℕ). of_written (write_answer x y o)) name rows ∙ told.0 in
    record { value = answer; out_after = w.out_after ∙ ap₂ (λ (x y : List ℕ). write_out x y o) name rows ∙ told.1 }
