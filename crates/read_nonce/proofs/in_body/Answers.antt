-- `in_body` meets its promise: what `judge_body` tells says where the nonce stands. Assumes nothing.
use mathlib.Core.Path.{sym, ap, ◌∙◌}
use mathlib.Core.List.{List}
use Prim.Native.Nat.{ℕ}
use Rattle.base_lists.specs.Below.{below_all}
use Rattle.read_nonce.proofs.Handed.{body-none, body-placed}
use native.Mathlib.Omega.{arith}
use Rattle.read_nonce.proofs.in_body.Goals as goal

pub returns-in-None : goal.returns-in-None
returns-in-None c = c.none.ensures ∙ body-none c.args.body.now
    (sym c.judge_body.ensures ∙ c.in-None.is)

pub nonce_part-requires : goal.nonce_part-requires
nonce_part-requires c =
    let b = c.args.body.now in
    (body-placed b (below_all 256 b (λ k h. omega (arith, c.type_inv.body k))) _ _
    (sym c.judge_body.ensures ∙ c.in-Some.is)).room

pub returns-in-Some : goal.returns-in-Some
returns-in-Some c =
    let b = c.args.body.now in
    ap (λ (x : List ℕ). record { found = 1; bytes = x }) c.nonce_part.ensures
    ∙ sym (body-placed b (below_all 256 b (λ k h. omega (arith, c.type_inv.body k))) _ _
    (sym c.judge_body.ensures ∙ c.in-Some.is)).nonce-is
