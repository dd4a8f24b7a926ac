-- `begin` meets its promise: the start, and the associated data absorbed from there. Assumes nothing.
use Rattle.gage_sponge.specs.Absorbing.{from}
use Rattle.ingage_spec.specs.Runs.{absorbed-from}
use Rattle.ingage_spec.specs.Cipher.{started, absorbed, begun}
use Rattle.ingage_steps.specs.First.{start_first}
use Prim.Native.Nat.{ℕ}
use mathlib.Core.List.{List}
use mathlib.Core.Path.{ap, ◌∙◌}
use lib.ListN.{take}
use Rattle.ingage_call.proofs.texts.Cipher.begin.Goals as goal

pub returns : goal.returns
unfolding begun
returns c =
    let z = c.args.self.z in
    let key : List ℕ = c.args.key.now in
    let nonce : List ℕ = c.args.nonce.now in
    let A : List ℕ = c.args.assoc.now in
    c.absorb.ensures
    ∙ ap (λ (x : List ℕ). (absorbed z (from x) A).state)
    (c.woven.ensures ∙ ap (λ (x : List ℕ). take z.state x) c.start.ensures ∙ start_first z key nonce c.args.self.fits c.requires.0
    c.requires.1)
    ∙ absorbed-from z (started z key nonce) A
