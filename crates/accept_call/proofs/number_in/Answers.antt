-- `number_in` meets its promise: with all the work allowed, `judge` gives what the stretch is found to be. Assumes nothing.
use native.Mathlib.Omega.{arith}
use mathlib.Core.Path.{◌∙◌}
use Prim.Native.Nat.{ℕ}
use lib.ListN.{replicate, length-replicate}
use Rattle.base_lists.specs.Below.{below_all}
use Rattle.line_spec.specs.Lines.{longest}
use Rattle.frame_spec.specs.Told.{told}
use Rattle.accept_call.proofs.Judging.{judged-number}
use Rattle.accept_call.proofs.number_in.Goals as goal

pub returns : goal.returns
returns c =
    let s = c.args.stretch.now in
    c.read_number.ensures
    ∙ judged-number (told c.args.key.now c.args.font.now c.args.layout) c.args.editions s (replicate longest 0)
    c.requires
    (below_all 256 s (λ k h. omega (arith, c.type_inv.stretch k)))
    (omega (arith, length-replicate {A = ℕ} longest 0)) _ c.judge-verdict.ensures.value
