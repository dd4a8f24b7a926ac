-- `permuted` meets its promise, form by form. Assumes nothing.
use Rattle.std.specs.Prelude.{Ok}
use mathlib.Core.Path.{◌≡◌, refl, sym, ap, ◌∙◌}
use Prim.Native.Nat.{ℕ}
use Rattle.gage_spec.specs.Permutation.{judged}
use Rattle.gage_planes_spec.specs.declared.State.{State}
use Rattle.gage_planes_spec.specs.Rounds.{permuted}
use Rattle.gage_planes_spec.specs.Sizes.{allowed, wide-size, stays}
use native.Mathlib.Omega.{arith}
use borrow.Author.Rules.{rules}
use Rattle.gage_planes.proofs.permuted.Goals as goal

pub returns-in_default : goal.returns-in_default
returns-in_default c = stays c.args.n c.args.k c.args.t c.judge.result c.judge.ensures (c.in_default.not-Ok tt)

pub permuted_drawn-requires : goal.permuted_drawn-requires
permuted_drawn-requires c =
    let done : judged c.args.n c.args.k ≡ Ok tt = sym c.judge.ensures ∙ c.in-Ok.is in
    let size = allowed c.args.n c.args.k done in
    (done, omega (arith, size.1), search rules, size.3, size.4)

pub permuted_around-requires : goal.permuted_around-requires
permuted_around-requires c =
    let done : judged c.args.n c.args.k ≡ Ok tt = sym c.judge.ensures ∙
    c.in-Ok.is in
    let size = allowed c.args.n c.args.k done in
    (ap (λ (n : ℕ). judged n c.args.k) (sym c.if-n-eq-WORD.true) ∙ done, size.3, size.4)

pub returns-then-n-eq-WORD : goal.returns-then-n-eq-WORD
returns-then-n-eq-WORD c =
    (c.permuted_around.ensures ∙ ap (λ (n : ℕ). permuted n c.args.k c.args.t) (sym c.if-n-eq-WORD.true))

pub permuted_windows-requires : goal.permuted_windows-requires
permuted_windows-requires c =
    let n = c.args.n in
    let done : judged n c.args.k ≡ Ok tt = sym c.judge.ensures ∙ c.in-Ok.is in
    let size = allowed n c.args.k done in
    let half = wide-size n size.0 (omega (arith, c.if-n-le-MOST.false)) c.if-n-eq-WORD.false in
    (ap (λ (m : ℕ). judged m c.args.k) half.0 ∙ done, half.1, half.2, size.3, size.4)

pub returns : goal.returns
returns c =
    let n = c.args.n in
    let done : judged n c.args.k ≡ Ok tt = sym c.judge.ensures ∙
    c.in-Ok.is in
    let half = wide-size n (allowed n c.args.k done).0 (omega (arith, c.if-n-le-MOST.false)) c.if-n-eq-WORD.false in
    (c.permuted_windows.ensures ∙ ap (λ (m : ℕ). permuted m c.args.k c.args.t) half.0)
