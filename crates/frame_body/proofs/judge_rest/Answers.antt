-- `judge_rest` meets its promise: the places told by the two calls of `field_at` lead to the end of the bytes exactly for the rest of a
-- body. Assumes nothing.
use mathlib.Core.List.{[]}
use Rattle.frame_body.specs.Fields.{own_of}
use Rattle.frame_body.proofs.Judging.{no-rest, all_rest}
use Rattle.frame_body.proofs.judge_rest.Goals as goal

pub returns-then-end-b : goal.returns-then-end-b
returns-then-end-b c =
    all_rest (own_of c.args.edition [] []) [] c.field_at-seal.ensures c.field_at-end.ensures c.if-end-b.true

pub returns-else-end-b : goal.returns-else-end-b
returns-else-end-b c =
    no-rest (own_of c.args.edition [] []) [] c.field_at-seal.ensures c.field_at-end.ensures c.if-end-b.false
