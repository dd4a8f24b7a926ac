-- `lay_row` meets its promise: the row's parts are laid one behind the other. Assumes nothing.
use mathlib.Core.Path.{subst, ◌∙◌}
use mathlib.Core.List.{List, [], ◌∷◌}
use Prim.Native.Nat.{ℕ}
use native.Mathlib.Omega.{arith}
use Rattle.tool_row.specs.Rows.{blank, newline, decimal, line_text}
use Rattle.tool_row.proofs.Laying.{Laid, laid_none, laid_more, laid-room, row-parts, has_row_room}
use Rattle.tool_row.proofs.lay_row.Goals as goal

pub put_digits-a-requires : goal.put_digits-a-requires
put_digits-a-requires c =
    omega (arith, c.requires.1, (has_row_room c.args.place c.args.number c.args.line.now c.requires.0).0)

pub put_byte-b-requires : goal.put_byte-b-requires
put_byte-b-requires c =
    let one = laid_more (decimal c.args.place) (laid_none c.args.out.now 0) c.put_digits-a.ensures.value c.put_digits-a.ensures.out_after in
    laid-room (blank ∷ []) one c.requires.1 (has_row_room c.args.place c.args.number c.args.line.now c.requires.0).1

pub put_digits-c-requires : goal.put_digits-c-requires
put_digits-c-requires c =
    let one = laid_more (decimal c.args.place) (laid_none c.args.out.now 0) c.put_digits-a.ensures.value c.put_digits-a.ensures.out_after in
    let two = laid_more (blank ∷ []) one c.put_byte-b.ensures.value c.put_byte-b.ensures.out_after in
    laid-room (decimal c.args.number) two c.requires.1 (has_row_room c.args.place c.args.number c.args.line.now c.requires.0).2

pub put_line-d-requires : goal.put_line-d-requires
put_line-d-requires c =
    let one = laid_more (decimal c.args.place) (laid_none c.args.out.now 0) c.put_digits-a.ensures.value c.put_digits-a.ensures.out_after in
    let two = laid_more (blank ∷ []) one c.put_byte-b.ensures.value c.put_byte-b.ensures.out_after in
    let three = laid_more (decimal c.args.number) two c.put_digits-c.ensures.value c.put_digits-c.ensures.out_after in
    laid-room (line_text c.args.number c.args.line.now) three c.requires.1
    (has_row_room c.args.place c.args.number c.args.line.now c.requires.0).3

pub put_byte-requires : goal.put_byte-requires
put_byte-requires c =
    let one = laid_more (decimal c.args.place) (laid_none c.args.out.now 0) c.put_digits-a.ensures.value c.put_digits-a.ensures.out_after in
    let two = laid_more (blank ∷ []) one c.put_byte-b.ensures.value c.put_byte-b.ensures.out_after in
    let three = laid_more (decimal c.args.number) two c.put_digits-c.ensures.value c.put_digits-c.ensures.out_after in
    let four = laid_more (line_text c.args.number c.args.line.now) three c.put_line-d.ensures.value c.put_line-d.ensures.out_after in
    laid-room (newline ∷ []) four c.requires.1 (has_row_room c.args.place c.args.number c.args.line.now c.requires.0).4

pub returns : goal.returns
returns c =
    let one = laid_more (decimal c.args.place) (laid_none c.args.out.now 0) c.put_digits-a.ensures.value c.put_digits-a.ensures.out_after in
    let two = laid_more (blank ∷ []) one c.put_byte-b.ensures.value c.put_byte-b.ensures.out_after in
    let three = laid_more (decimal c.args.number) two c.put_digits-c.ensures.value c.put_digits-c.ensures.out_after in
    let four = laid_more (line_text c.args.number c.args.line.now) three c.put_line-d.ensures.value c.put_line-d.ensures.out_after in
    let b = c.put_byte in
    let l = subst (λ (w : List ℕ). Laid c.args.out.now 0 w b.new.out b.result) (row-parts c.args.place c.args.number c.args.line.now)
    (laid_more (newline ∷ []) four b.ensures.value b.ensures.out_after) in
    record { value = l.ends ∙ omega arith; out_after = l.held }
