-- `lay_last` meets its promise: the row's parts are laid one behind the other. Assumes nothing.
use mathlib.Core.Path.{subst, ◌∙◌}
use mathlib.Core.List.{List, [], ◌∷◌}
use Prim.Native.Nat.{ℕ}
use native.Mathlib.Omega.{arith}
use Rattle.tool_row.specs.Rows.{newline, decimal, lines_word, refused_word}
use Rattle.tool_row.proofs.Laying.{Laid, laid_none, laid_more, laid-room, last-parts, last-room}
use Rattle.tool_row.proofs.lay_last.Goals as goal

pub put_digits-b-requires : goal.put_digits-b-requires
put_digits-b-requires c =
    let one = laid_more lines_word (laid_none c.args.out.now 0) c.put_text-a.ensures.value c.put_text-a.ensures.out_after in
    laid-room (decimal c.args.lines) one c.requires (last-room c.args.lines c.args.refused).0

pub put_text-c-requires : goal.put_text-c-requires
put_text-c-requires c =
    let one = laid_more lines_word (laid_none c.args.out.now 0) c.put_text-a.ensures.value c.put_text-a.ensures.out_after in
    let two = laid_more (decimal c.args.lines) one c.put_digits-b.ensures.value c.put_digits-b.ensures.out_after in
    laid-room refused_word two c.requires (last-room c.args.lines c.args.refused).1

pub put_digits-d-requires : goal.put_digits-d-requires
put_digits-d-requires c =
    let one = laid_more lines_word (laid_none c.args.out.now 0) c.put_text-a.ensures.value c.put_text-a.ensures.out_after in
    let two = laid_more (decimal c.args.lines) one c.put_digits-b.ensures.value c.put_digits-b.ensures.out_after in
    let three = laid_more refused_word two c.put_text-c.ensures.value c.put_text-c.ensures.out_after in
    laid-room (decimal c.args.refused) three c.requires (last-room c.args.lines c.args.refused).2

pub put_byte-requires : goal.put_byte-requires
put_byte-requires c =
    let one = laid_more lines_word (laid_none c.args.out.now 0) c.put_text-a.ensures.value c.put_text-a.ensures.out_after in
    let two = laid_more (decimal c.args.lines) one c.put_digits-b.ensures.value c.put_digits-b.ensures.out_after in
    let three = laid_more refused_word two c.put_text-c.ensures.value c.put_text-c.ensures.out_after in
    let four = laid_more (decimal c.args.refused) three c.put_digits-d.ensures.value c.put_digits-d.ensures.out_after in
    laid-room (newline ∷ []) four c.requires (last-room c.args.lines c.args.refused).3

pub returns : goal.returns
returns c =
    let one = laid_more lines_word (laid_none c.args.out.now 0) c.put_text-a.ensures.value c.put_text-a.ensures.out_after in
    let two = laid_more (decimal c.args.lines) one c.put_digits-b.ensures.value c.put_digits-b.ensures.out_after in
    let three = laid_more refused_word two c.put_text-c.ensures.value c.put_text-c.ensures.out_after in
    let four = laid_more (decimal c.args.refused) three c.put_digits-d.ensures.value c.put_digits-d.ensures.out_after in
    let b = c.put_byte in
    let l = subst (λ (w : List ℕ). Laid c.args.out.now 0 w b.new.out b.result) (last-parts c.args.lines c.args.refused)
    (laid_more (newline ∷ []) four b.ensures.value b.ensures.out_after) in
    record { value = l.ends ∙ omega arith; out_after = l.held }
