-- `seal` meets its promise: each return by its law, the refusals in their order, and the work step after step. Assumes nothing.
use Rattle.ingage_spec.specs.declared.Instance.{Instance}
use Rattle.ingage_spec.specs.Instances.{Fitting, named}
use Rattle.ingage_call.proofs.Calls.{within, fits-known, held_in, seal-met, seal-unknown, seal-known, seal-sizes, seal-long, seal-room, seal-done}
use Rattle.ingage_answers.specs.Answers.{SealCall, seal_call, seal_named}
use Rattle.ingage_answers.specs.Exactly.{Within}
use borrow.Author.Rules.{rules}
use mathlib.Core.Path.{◌≡◌, sym, ◌∙◌}
use Rattle.ingage_call.proofs.seal.Goals as goal
use Rattle.ingage_call.proofs.seal.Goals.{Else-out-message, In-Some}

abbrev z-of : In-Some → Instance
z-of k = k.in-Some.z

fits : (k : In-Some) → Fitting (z-of k)
fits k = fits-known k.args.instance k.sizes_of.ensures k.in-Some.is

-- what the call at that instance is, the call with its number is
known : (k : In-Some) {x : SealCall} → seal_call (z-of k) k.args.key.now k.args.nonce.now k.args.assoc.now
    k.args.message.now k.args.out.now k.args.seal.now ≡ x
    → seal_named (named k.args.instance) k.args.key.now k.args.nonce.now k.args.assoc.now
    k.args.message.now k.args.out.now k.args.seal.now ≡ x
known k h = seal-known k.args.instance k.sizes_of.ensures k.args.key.now k.args.nonce.now
    k.args.assoc.now k.args.message.now k.args.out.now k.args.seal.now k.in-Some.is h

inside : (c : Else-out-message) → Within c.in-Some.z c.args.key.now c.args.nonce.now c.args.assoc.now
    c.args.message.now c.args.seal.now c.args.out.now
inside c = within c.in-Some.z c.args.key.now c.args.nonce.now c.args.assoc.now
    c.args.message.now c.args.out.now c.args.seal.now
    (sym c.is_sized.ensures ∙ c.if-not-is_sized.false)
    (sym c.is_too_long.ensures ∙ c.if-is_too_long.false) c.if-out-message.false

pub returns-in_default : goal.returns-in_default
returns-in_default c = let met = seal-met (seal-unknown c.args.instance
    c.sizes_of.ensures c.args.key.now
    c.args.nonce.now
    c.args.assoc.now
    c.args.message.now
    c.args.out.now
    c.args.seal.now c.in_default.is) in
    record { answer = met.0; ciphertext = met.1; seal = met.2 }

pub returns-then-not-is_sized : goal.returns-then-not-is_sized
returns-then-not-is_sized c = let met = seal-met (known (goal.at.returns-then-not-is_sized c).In-Some (seal-sizes _ _ _ _ _ _ _ (sym c.is_sized.ensures ∙ c.if-not-is_sized.true))) in
    record { answer = met.0; ciphertext = met.1; seal = met.2 }

pub returns-then-is_too_long : goal.returns-then-is_too_long
returns-then-is_too_long c = let met = seal-met (known (goal.at.returns-then-is_too_long c).In-Some (seal-long _ _ _ _ _ _ _ (sym c.is_sized.ensures ∙ c.if-not-is_sized.false) (sym c.is_too_long.ensures ∙ c.if-is_too_long.true))) in
    record { answer = met.0; ciphertext = met.1; seal = met.2 }

pub returns-then-out-message : goal.returns-then-out-message
returns-then-out-message c = let met = seal-met (known (goal.at.returns-then-out-message c).In-Some (seal-room _ _ _ _ _ _ _ (sym c.is_sized.ensures
    ∙ c.if-not-is_sized.false) (sym c.is_too_long.ensures ∙ c.if-is_too_long.false) c.if-out-message.true)) in
    record { answer = met.0; ciphertext = met.1; seal = met.2 }

pub invariant_of-sealer : goal.invariant_of-sealer
invariant_of-sealer c = record { fits = fits (goal.at.invariant_of-sealer c).In-Some }

pub begin-s-requires : goal.begin-s-requires
begin-s-requires c = let w = inside (goal.at.begin-s-requires c).Else-out-message in (w.key-size, w.nonce-size)

pub pass-e-requires : goal.pass-e-requires
pass-e-requires c = (inside (goal.at.pass-e-requires c).Else-out-message).room

pub seal_of-requires : goal.seal_of-requires
seal_of-requires c = held_in (z-of (goal.at.seal_of-requires c).In-Some) c.finish-f.result (fits (goal.at.seal_of-requires c).In-Some) (search rules)

pub returns : goal.returns
returns c =
    let met = seal-met (known (goal.at.returns c).In-Some (seal-done (z-of (goal.at.returns c).In-Some) (fits (goal.at.returns c).In-Some) c.args.key.now c.args.nonce.now c.args.assoc.now
    c.args.message.now c.args.seal.now c.args.out.now (inside (goal.at.returns c).Else-out-message) c.begin-s.result c.begin-s.ensures
    c.pass-e.result c.finish-f.result _ _ _ c.calls.result c.pass-e.ensures.state c.pass-e.ensures.text c.finish-f.ensures
    c.seal_of.ensures c.copy.ensures c.calls.ensures)) in
    record { answer = met.0; ciphertext = met.1; seal = met.2 }
