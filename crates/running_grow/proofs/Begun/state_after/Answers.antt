-- `state_after` meets its promise: no block, or the one that is filled and those behind it. Assumes nothing.
use mathlib.Core.Path.{◌∙◌}
use Rattle.running_grow.proofs.Growing.{sizes, state-kept, state-grown}
use native.Mathlib.Omega.{arith}
use borrow.Author.Rules.{rules}
use Rattle.running_grow.proofs.Begun.state_after.Goals as goal

pub slice_bounds-take_in-end : goal.slice_bounds-take_in-end
slice_bounds-take_in-end c = omega (arith, sizes c.args.self.instance c.args.self.grows)

pub returns-then-bytes-self : goal.returns-then-bytes-self
returns-then-bytes-self c =
    c.take_in.ensures ∙ state-kept c.args.self.instance c.args.self.grows
    c.args.self.block c.args.bytes.now (search rules)
    c.if-bytes-self.true c.args.state

pub joined-first-requires : goal.joined-first-requires
joined-first-requires c = omega (arith, sizes c.args.self.instance c.args.self.grows)

pub overflow_add-rate : goal.overflow_add-rate
overflow_add-rate c = omega (arith, sizes c.args.self.instance c.args.self.grows)

pub slice_bounds-take_in-end-2 : goal.slice_bounds-take_in-end-2
slice_bounds-take_in-end-2 c = omega (arith, sizes c.args.self.instance c.args.self.grows)

pub returns : goal.returns
returns c =
    state-grown c.args.self.instance
    c.args.self.grows
    c.args.self.block
    c.args.bytes.now (search rules)
    c.if-bytes-self.false
    c.args.state (search rules)
    c.joined-first.result c.take_in-filled.result _
    c.joined-first.ensures c.take_in-filled.ensures c.take_in-2.ensures
