-- `digest_call` meets its promise: each refusal in document 01's order, then the digest, copied to the buffer, and the count by the instance's
-- shape. Assumes nothing.
use Prim.Native.Nat.{◌+◌, ◌/◌, ◌≤◌, ◌<◌}
use lib.ListN.{length}
use mathlib.Core.Bool.{false}
use mathlib.Core.Path.{◌≡◌, sym, ◌∙◌}
use Rattle.digest_spec.specs.Instances.{DIGEST, unknown}
use Rattle.digest_call.specs.Answers.{LONGEST-MESSAGE}
use Rattle.digest_call.specs.Order.{instance-refused, length-refused, room-refused}
use Rattle.digest_call.proofs.Answering.{refused, sponge-counts, finished}
use native.Mathlib.Omega.{arith}
use Rattle.digest_call.proofs.digest.Goals as goal
use Rattle.digest_call.proofs.digest.Goals.{After-sponge_of-shape}

-- past the refusals the instance is known, and the count is a number of the machine
known : (k : After-sponge_of-shape) → unknown k.args.instance ≡ false
known k = sym k.is_unknown.ensures ∙ k.if-is_unknown.false

counts : (k : After-sponge_of-shape) → (0 < k.sponge_of-shape.result.rate)
    × (length k.args.message.now / k.sponge_of-shape.result.rate + k.sponge_of-shape.result.outputs ≤ LONGEST-MESSAGE + DIGEST)
counts k = sponge-counts k.args.instance (length k.args.message.now) (known k) k.sponge_of-shape.ensures k.if-message-gt-LONGEST_MESSAGE.false

pub returns-then-is_unknown : goal.returns-then-is_unknown
returns-then-is_unknown c = refused (instance-refused c.args.instance c.args.message.now
    c.args.out.now (sym c.is_unknown.ensures ∙ c.if-is_unknown.true))

pub returns-then-message-gt-LONGEST_MESSAGE : goal.returns-then-message-gt-LONGEST_MESSAGE
returns-then-message-gt-LONGEST_MESSAGE c = refused (length-refused c.args.instance
    c.args.message.now c.args.out.now
    (sym c.is_unknown.ensures ∙ c.if-is_unknown.false) c.if-message-gt-LONGEST_MESSAGE.true)

pub returns-then-out-lt-DIGEST : goal.returns-then-out-lt-DIGEST
returns-then-out-lt-DIGEST c = refused (room-refused c.args.instance
    c.args.message.now c.args.out.now
    (sym c.is_unknown.ensures ∙ c.if-is_unknown.false) c.if-message-gt-LONGEST_MESSAGE.false c.if-out-lt-DIGEST.true)

pub nonzero_div-result : goal.nonzero_div-result
nonzero_div-result c = let f = counts (goal.at.nonzero_div-result c).After-sponge_of-shape in omega (arith, f.0, f.1)

pub overflow_add-result : goal.overflow_add-result
overflow_add-result c = let f = counts (goal.at.overflow_add-result c).After-sponge_of-shape in omega (arith, f.0, f.1)

pub overflow_add-result-2 : goal.overflow_add-result-2
overflow_add-result-2 c = let f = counts (goal.at.overflow_add-result-2 c).After-sponge_of-shape in omega (arith, f.0, f.1)

pub returns : goal.returns
returns c =
    let k = (goal.at.returns c).After-sponge_of-shape in
    finished k.args.instance k.args.message.now k.args.out.now (known k) c.if-message-gt-LONGEST_MESSAGE.false
    c.if-out-lt-DIGEST.false
    c.sponge_of-shape.ensures c.hash-hash.ensures c.copy.ensures
