use native.Mathlib.Omega.{arith}
use Rattle.frame_spec.specs.Told.{told}
use Rattle.index_call.proofs.Walking.{ahead, walked_more, walked_all}
use Rattle.index_call.proofs.add.Goals as goal

pub next_entry-next-requires : goal.next_entry-next-requires
next_entry-next-requires c =
    let l = c.loop-i in
    ahead (told c.args.key.now c.args.font.now c.args.layout) c.args.editions c.args.stream.now c.args.from c.args.n
    c.requires.adding c.args.table.now c.args.count l.table l.at l.i
    (l.invariant c.requires.adding) c.loop-i-test.true

pub loop-i-preserved : goal.loop-i-preserved
loop-i-preserved c =
    let l = c.loop-i in
    λ k. rw c.next_entry-next.ensures (walked_more (told c.args.key.now c.args.font.now c.args.layout) c.args.editions c.args.stream.now c.args.from c.args.n k
    c.args.table.now c.args.count l.table l.at l.i (l.invariant k) c.loop-i-test.true
    c.requires.n_in_bounds)

pub returns : goal.returns
returns c =
    let l = c.loop-i in
    walked_all (told c.args.key.now c.args.font.now c.args.layout) c.args.editions c.args.stream.now c.args.from c.args.n
    c.requires.adding c.args.table.now c.args.count c.requires.n_in_bounds
    l.table l.at l.i (l.invariant c.requires.adding) (omega (arith, c.loop-i-test.false))
