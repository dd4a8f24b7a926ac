-- `give` meets its promise: 14, 1 and 4, in this order; then the last block, the outputs and their copy. Assumes nothing.
use mathlib.Core.Path.{refl, sym, ◌∙◌}
use borrow.Author.Tests.{lt-ltb, le-ltb}
use lib.ListN.{length}
use Rattle.digest_spec.specs.Instances.{DIGEST}
use Rattle.running_spec.specs.Running.{finish_answer, finish_out}
use Rattle.running_spec.specs.Order.{known_of}
use Rattle.running_grow.specs.Held.{some, held_fits}
use Rattle.running_steps.proofs.Answering.{count_fits, finish-done}
use native.Mathlib.Omega.{arith}
use borrow.Author.Rules.{rules}
use Rattle.running_steps.proofs.give.Goals as goal

pub returns-then-running-gt-NOT_FINISHED : goal.returns-then-running-gt-NOT_FINISHED
unfolding finish_answer finish_out
returns-then-running-gt-NOT_FINISHED c = rw (lt-ltb 0 c.args.running.finished c.if-running-gt-NOT_FINISHED.true) (refl, refl)

pub returns-then-is_unfeedable : goal.returns-then-is_unfeedable
unfolding finish_answer finish_out
returns-then-is_unfeedable c = rw (
  le-ltb 0 c.args.running.finished c.if-running-gt-NOT_FINISHED.false,
  sym
      c.is_unfeedable.ensures ∙ c.if-is_unfeedable.true,
) (refl, refl)

pub returns-then-out-lt-DIGEST : goal.returns-then-out-lt-DIGEST
unfolding finish_answer finish_out
returns-then-out-lt-DIGEST c =
    rw (
      le-ltb 0 c.args.running.finished c.if-running-gt-NOT_FINISHED.false,
      sym
          c.is_unfeedable.ensures ∙ c.if-is_unfeedable.false,
      lt-ltb (length c.args.out.now)
          DIGEST c.if-out-lt-DIGEST.true,
    ) (refl, refl)

pub nonzero_rem-held : goal.nonzero_rem-held
nonzero_rem-held c = omega (
  arith,
  some c.args.running.instance
      c.args.running.total
      (known_of c.args.running
      (sym c.is_unfeedable.ensures ∙ c.if-is_unfeedable.false)).0 c.sponge_of-shape.ensures,
)

pub hash_of-hash-requires : goal.hash_of-hash-requires
hash_of-hash-requires c = held_fits c.args.running.instance
    c.args.running.total
    (known_of c.args.running
    (sym c.is_unfeedable.ensures ∙ c.if-is_unfeedable.false)).0
    c.sponge_of-shape.ensures

pub nonzero_div-result : goal.nonzero_div-result
nonzero_div-result c = omega (
  arith,
  some
      c.args.running.instance c.args.running.total (known_of c.args.running (sym c.is_unfeedable.ensures ∙ c.if-is_unfeedable.false)).0
      c.sponge_of-shape.ensures,
)

pub overflow_add-result : goal.overflow_add-result
overflow_add-result c =
    omega (
      arith,
      count_fits
          c.args.running
          (known_of c.args.running (sym c.is_unfeedable.ensures ∙
          c.if-is_unfeedable.false)).0
          c.sponge_of-shape.ensures
          (known_of c.args.running (sym c.is_unfeedable.ensures
          ∙ c.if-is_unfeedable.false)).1,
    )

pub overflow_add-result-2 : goal.overflow_add-result-2
overflow_add-result-2 c =
    omega (
      arith,
      count_fits
          c.args.running (known_of c.args.running (sym c.is_unfeedable.ensures ∙ c.if-is_unfeedable.false)).0
          c.sponge_of-shape.ensures
          (known_of c.args.running (sym c.is_unfeedable.ensures ∙ c.if-is_unfeedable.false)).1,
    )

pub returns : goal.returns
returns c =
    finish-done c.args.running (known_of c.args.running (sym c.is_unfeedable.ensures ∙ c.if-is_unfeedable.false)).0
    c.sponge_of-shape.ensures
    c.args.out.now c.hash_of-hash.result _ (search rules)
    (sym c.is_unfeedable.ensures ∙
    c.if-is_unfeedable.false)
    c.if-running-gt-NOT_FINISHED.false
    c.if-out-lt-DIGEST.false
    c.hash_of-hash.ensures c.copy.ensures
