-- `drawn` meets its promise: room for the longest drawing, or none. Assumes nothing.
use mathlib.Core.Path.{◌≡◌, ap, ◌∙◌}
use native.Mathlib.Omega.{arith}
use lib.ListN.{length}
use Rattle.bundle_spec.specs.Bundles.{all_rows}
use Rattle.bundle_read.proofs.Exactly.{read_length}
use Rattle.bundle_draw.specs.Answers.{gathered_from}
use Rattle.bundle_draw.specs.Listed.{length-listed}
use Rattle.bundle_draw.specs.Showing.{gathered-rows, name-length, show-room, show-done}
use Rattle.bundle_draw.proofs.drawn.Goals as goal

pub returns-then-out-lt-LONGEST_DRAWING : goal.returns-then-out-lt-LONGEST_DRAWING
returns-then-out-lt-LONGEST_DRAWING c =
    let s = c in record { value = (show-room s.args.bundle.now s.args.out.now s.args.n s.requires (omega arith)).0; out_after = (show-room s.args.bundle.now s.args.out.now s.args.n s.requires (omega arith)).1 }

pub gathered-rows-requires : goal.gathered-rows-requires
gathered-rows-requires c =
    let s = c in
    let l = read_length s.args.bundle.now s.args.n s.requires in
    (l.1, l.0)

pub put_drawing-requires : goal.put_drawing-requires
unfolding gathered_from
put_drawing-requires c =
    let s = c in
    let l = read_length s.args.bundle.now s.args.n s.requires in
    let named : length c.name.result.now ≡ s.args.n = ap length c.name.ensures.result_value ∙ name-length
    s.args.bundle.now s.args.n s.requires in
    let all : length c.gathered-rows.result ≡ all_rows = ap length c.gathered-rows.ensures ∙ length-listed _
    all_rows in
    record { name_len_bound = omega (arith, named, l.1); rows_len = all; longest_drawing_in_bounds = omega arith }

pub overflow_mul-result : goal.overflow_mul-result
overflow_mul-result c =
    let s = c in
    omega (arith, (read_length s.args.bundle.now s.args.n s.requires).1)

pub overflow_add-result : goal.overflow_add-result
overflow_add-result c =
    let s = c in
    omega (arith, (read_length s.args.bundle.now s.args.n s.requires).1)

pub returns : goal.returns
returns c =
    let s = c in
    let told = show-done s.args.bundle.now s.args.out.now s.args.n s.requires (omega arith) in
    let named = c.name.ensures.result_value in
    let all = c.gathered-rows.ensures ∙ gathered-rows s.args.bundle.now s.args.n s.requires in record { value = told.0; out_after = c.put_drawing.ensures ∙ rw (named, all) told.1 }
