-- `grow` meets its promise: an unknown instance leaves both, and else state and block grow. Assumes nothing.
use mathlib.Core.Path.{sym, ◌∙◌}
use native.Mathlib.Omega.{arith}
use Rattle.running_grow.specs.Growing.{grown_by}
use Rattle.running_grow.specs.Held.{rate-is, some, held-less, growing}
use Rattle.running_grow.proofs.grow.Goals as goal

pub returns-then-is_unknown : goal.returns-then-is_unknown
unfolding grown_by
returns-then-is_unknown c = rw (sym c.is_unknown.ensures ∙ c.if-is_unknown.true)

pub nonzero_rem-held : goal.nonzero_rem-held
nonzero_rem-held c = omega (
  arith,
  some c.args.instance c.args.total
      (sym c.is_unknown.ensures ∙ c.if-is_unknown.false) c.sponge_of-shape.ensures,
)

pub overflow_sub-begun : goal.overflow_sub-begun
overflow_sub-begun c = omega (
  arith,
  held-less c.args.instance
      c.args.total (sym c.is_unknown.ensures ∙
      c.if-is_unknown.false) c.sponge_of-shape.ensures,
)

pub invariant_of-begun : goal.invariant_of-begun
invariant_of-begun c = record {
  grows = growing c.args.instance c.args.total (sym c.is_unknown.ensures ∙ c.if-is_unknown.false) c.sponge_of-shape.ensures;
}

pub returns : goal.returns
unfolding grown_by
returns c =
    rw (
      sym c.is_unknown.ensures ∙ c.if-is_unknown.false,
      c.state_after-after.ensures,
      c.block_after-left.ensures,
      rate-is c.args.instance
          c.args.total
          (sym c.is_unknown.ensures ∙ c.if-is_unknown.false)
          c.sponge_of-shape.ensures,
    )
