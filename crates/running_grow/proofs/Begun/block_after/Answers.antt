-- `block_after` meets its promise: what is left behind the blocks that fill. Assumes nothing.
use native.Mathlib.Nat.{div-mul-le_self}
use Prim.Native.Nat.{◌+◌, ◌-◌}
use lib.ListN.{length}
use mathlib.Core.Path.{refl, ◌∙◌}
use Rattle.running_grow.proofs.Growing.{sizes, block-kept, block-grown}
use native.Mathlib.Omega.{arith}
use borrow.Author.Rules.{rules}
use Rattle.running_grow.proofs.Begun.block_after.Goals as goal

pub joined-requires : goal.joined-requires
joined-requires c = omega (arith, sizes c.args.self.instance c.args.self.grows)

pub returns-then-fed-self : goal.returns-then-fed-self
returns-then-fed-self c =
    c.joined.ensures ∙ block-kept c.args.self.instance c.args.self.grows c.args.self.block
    c.args.bytes.now (search rules) c.if-fed-self.true

pub overflow_add-rate : goal.overflow_add-rate
overflow_add-rate c = omega (arith, sizes c.args.self.instance c.args.self.grows)

pub nonzero_div-whole : goal.nonzero_div-whole
nonzero_div-whole c = omega (arith, sizes c.args.self.instance c.args.self.grows)

pub overflow_mul-whole : goal.overflow_mul-whole
overflow_mul-whole c =
    let a = c.args in omega (arith, div-mul-le_self (length a.bytes.now - a.self.missing) (a.self.held + a.self.missing))

pub overflow_add-at : goal.overflow_add-at
overflow_add-at c =
    let a = c.args in omega (arith, div-mul-le_self (length a.bytes.now - a.self.missing) (a.self.held + a.self.missing))

pub slice_bounds-joined-count : goal.slice_bounds-joined-count
slice_bounds-joined-count c =
    let a = c.args in omega (arith, div-mul-le_self (length a.bytes.now - a.self.missing) (a.self.held + a.self.missing))

pub slice_bounds-joined-start : goal.slice_bounds-joined-start
slice_bounds-joined-start c =
    let a = c.args in omega (arith, div-mul-le_self (length a.bytes.now - a.self.missing) (a.self.held + a.self.missing))

pub joined-requires-2 : goal.joined-requires-2
joined-requires-2 c = omega (arith, sizes c.args.self.instance c.args.self.grows)

pub returns : goal.returns
returns c =
    block-grown c.args.self.instance c.args.self.grows c.args.self.block
    c.args.bytes.now (search rules) c.if-fed-self.false _ refl c.joined-2.ensures
