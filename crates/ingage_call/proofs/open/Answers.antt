-- `open` meets its promise: each return by its law, the refusals in their order, and the work step after step. Assumes nothing.
use Rattle.ingage_spec.specs.declared.Instance.{Instance}
use Rattle.ingage_spec.specs.Instances.{Fitting, named}
use Rattle.ingage_call.proofs.Calls.{within, fits-known, held_in, open-met, open_unknown, open-known}
use Rattle.ingage_call.proofs.Calls.{open-sizes, open-long, open-room, open_done, open-wrong}
use Rattle.ingage_answers.specs.Answers.{OpenCall, open_call, open_named}
use Rattle.ingage_answers.specs.Exactly.{Within}
use borrow.Author.Rules.{rules}
use mathlib.Core.Path.{◌≡◌, sym, ◌∙◌}
use Rattle.ingage_call.proofs.open.Goals as goal
use Rattle.ingage_call.proofs.open.Goals.{Else-out-cipher, In-Some}

abbrev z-of : In-Some → Instance
z-of k = k.in-Some.z

fits : (k : In-Some) → Fitting (z-of k)
fits k = fits-known k.args.instance k.sizes_of.ensures k.in-Some.is

-- what the call at that instance is, the call with its number is
known : (k : In-Some) {x : OpenCall} → open_call (z-of k) k.args.key.now k.args.nonce.now k.args.assoc.now
    k.args.cipher.now k.args.seal.now k.args.out.now ≡ x
    → open_named (named k.args.instance) k.args.key.now k.args.nonce.now k.args.assoc.now
    k.args.cipher.now k.args.seal.now k.args.out.now ≡ x
known k h = open-known k.args.instance k.sizes_of.ensures k.args.key.now k.args.nonce.now
    k.args.assoc.now k.args.cipher.now k.args.out.now k.args.seal.now k.in-Some.is h

inside : (c : Else-out-cipher) → Within c.in-Some.z c.args.key.now c.args.nonce.now c.args.assoc.now
    c.args.cipher.now c.args.seal.now c.args.out.now
inside c = within c.in-Some.z c.args.key.now c.args.nonce.now c.args.assoc.now
    c.args.cipher.now c.args.out.now c.args.seal.now
    (sym c.is_sized.ensures ∙ c.if-not-is_sized.false)
    (sym c.is_too_long.ensures ∙ c.if-is_too_long.false) c.if-out-cipher.false

pub returns-in_default : goal.returns-in_default
returns-in_default c = let met = open-met (open_unknown c.args.instance
    c.sizes_of.ensures c.args.key.now
    c.args.nonce.now
    c.args.assoc.now
    c.args.cipher.now
    c.args.out.now
    c.args.seal.now c.in_default.is) in
    record { answer = met.0; message = met.1 }

pub returns-then-not-is_sized : goal.returns-then-not-is_sized
returns-then-not-is_sized c = let met = open-met (known (goal.at.returns-then-not-is_sized c).In-Some (open-sizes _ _ _ _ _ _ _ (sym c.is_sized.ensures ∙ c.if-not-is_sized.true))) in
    record { answer = met.0; message = met.1 }

pub returns-then-is_too_long : goal.returns-then-is_too_long
returns-then-is_too_long c = let met = open-met (known (goal.at.returns-then-is_too_long c).In-Some (open-long _ _ _ _ _ _ _ (sym c.is_sized.ensures ∙ c.if-not-is_sized.false) (sym c.is_too_long.ensures ∙ c.if-is_too_long.true))) in
    record { answer = met.0; message = met.1 }

pub returns-then-out-cipher : goal.returns-then-out-cipher
returns-then-out-cipher c = let met = open-met (known (goal.at.returns-then-out-cipher c).In-Some (open-room _ _ _ _ _ _ _ (sym c.is_sized.ensures
    ∙ c.if-not-is_sized.false) (sym c.is_too_long.ensures ∙ c.if-is_too_long.false) c.if-out-cipher.true)) in
    record { answer = met.0; message = met.1 }

pub invariant_of-opener : goal.invariant_of-opener
invariant_of-opener c = record { fits = fits (goal.at.invariant_of-opener c).In-Some }

pub begin-s-requires : goal.begin-s-requires
begin-s-requires c = let w = inside (goal.at.begin-s-requires c).Else-out-cipher in (w.key-size, w.nonce-size)

pub pass-d-requires : goal.pass-d-requires
pass-d-requires c = (inside (goal.at.pass-d-requires c).Else-out-cipher).room

pub seal_of-requires : goal.seal_of-requires
seal_of-requires c = held_in (z-of (goal.at.seal_of-requires c).In-Some) c.finish-f.result (fits (goal.at.seal_of-requires c).In-Some) (search rules)

pub returns-then-not-compare : goal.returns-then-not-compare
returns-then-not-compare c =
    let met = open-met (known (goal.at.returns-then-not-compare c).In-Some (open-wrong (z-of (goal.at.returns-then-not-compare c).In-Some) (fits (goal.at.returns-then-not-compare c).In-Some) c.args.key.now c.args.nonce.now c.args.assoc.now
    c.args.cipher.now c.args.seal.now c.args.out.now (inside (goal.at.returns-then-not-compare c).Else-out-cipher) c.begin-s.result c.begin-s.ensures
    c.pass-d.result c.finish-f.result _ _ c.calls-count.result c.pass-d.ensures.state c.pass-d.ensures.text c.finish-f.ensures
    c.seal_of.ensures c.calls-count.ensures _
    (sym c.compare.ensures ∙ c.if-not-compare.true)
    c.clear.ensures)) in
    record { answer = met.0; message = met.1 }

pub returns : goal.returns
returns c =
    let met = open-met (known (goal.at.returns c).In-Some (open_done (z-of (goal.at.returns c).In-Some) (fits (goal.at.returns c).In-Some) c.args.key.now c.args.nonce.now c.args.assoc.now
    c.args.cipher.now c.args.seal.now c.args.out.now (inside (goal.at.returns c).Else-out-cipher) c.begin-s.result c.begin-s.ensures
    c.pass-d.result c.finish-f.result _ _ c.calls-count.result c.pass-d.ensures.state c.pass-d.ensures.text c.finish-f.ensures
    c.seal_of.ensures c.calls-count.ensures (sym c.compare.ensures ∙ c.if-not-compare.false))) in
    record { answer = met.0; message = met.1 }
