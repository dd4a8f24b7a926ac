use mathlib.Core.Path.{sym, ap, ◌∙◌}
use mathlib.Core.List.{List}
use Prim.Native.Nat.{ℕ}
use Rattle.base_lists.specs.Below.{below_all}
use Rattle.gage_planes_spec.specs.Told.{mixed}
use Rattle.gage_weave.specs.Mixing.{mixed-in}
use Rattle.gage_weave.specs.One.{lone}
use native.Mathlib.Omega.{arith}
use borrow.Author.Rules.{rules}
use Rattle.gage_weave.proofs.mix.Goals as goal

-- src/lib.rt:216:9
pub returns-then-block-eq1 : goal.returns-then-block-eq1
returns-then-block-eq1 c =
    let start = c in
    let block = start.args.block.now in
    let small = below_all 256 block (λ k h. omega (arith, c.type_inv.block k)) in
    let is = c.mix_byte.ensures
    ∙ ap (λ (bs : List ℕ). mixed bs start.args.t) (sym (lone block (search rules))) in record { state = is; bytes = mixed-in block start.args.t _ small is }

-- src/lib.rt:211:1
pub returns : goal.returns
returns c =
    let start = c in
    let block = start.args.block.now in
    let small = below_all 256 block (λ k h. omega (arith, c.type_inv.block k)) in record { state = c.mix_block.ensures; bytes = mixed-in block start.args.t _ small c.mix_block.ensures }
