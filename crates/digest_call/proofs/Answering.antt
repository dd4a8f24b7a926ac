-- Each return of `digest_call` gives what document 01's order of refusals says, and the buffer that goes with it. Assumes nothing.
use Rattle.std.specs.Prelude.{Ok, Result}
use mathlib.Core.Path.{◌≡◌, sym, ap, ◌∙◌}
use mathlib.Core.Bool.{false}
use mathlib.Core.List.{List}
use Prim.Native.Nat.{ℕ, ◌+◌, ◌/◌, ◌≤◌, ◌<◌}
use native.Mathlib.Omega.{arith}
use lib.ListN.{length}
use lib.Seq.{take_all}
use Rattle.base_lists.specs.Buffers.{copied, over}
use Rattle.digest_spec.specs.Instances.{DIGEST, unknown, rate_of, outputs_of}
use Rattle.digest_spec.specs.Hashing.{digest_of, digest_calls}
use Rattle.digest_spec.specs.Outputs.{length-digest}
use Rattle.digest_sponge.specs.declared.Shape.{Shape}
use Rattle.digest_sponge.specs.Calls.{digest-calls}
use Rattle.digest_sponge.specs.Parts.{sponge_of, hash_of}
use Rattle.digest_call.specs.Answers.{LONGEST-MESSAGE, digest_answer, digest_out}
use Rattle.digest_call.specs.Counting.{count_fits}
use Rattle.digest_call.specs.Order.{digest-done}
use Rattle.digest_call.specs.declared.DigestRefusal.{DigestRefusal}

-- a refusal, read from the code's side
pub refused : {A : Type 0} {r s : A} {o w : List ℕ} → (r ≡ s) × (w ≡ o) → (s ≡ r) × (o ≡ w)
refused e = (sym e.0, sym e.1)

-- a digest of 32 bytes copied to a buffer with room stands over its first bytes
copied-whole : (i : ℕ) (m o : List ℕ) → unknown i ≡ false → DIGEST ≤ length o → copied (digest_of i m) o ≡ over (digest_of i m) o
copied-whole i m o e h = ap (λ (w : List ℕ). over w o) (take_all (length o) (digest_of i m) (omega (arith, length-digest i m e)))

-- what the sponge of a known instance works with
known-sponge : (i : ℕ) {z : Shape} → unknown i ≡ false → z ≡ sponge_of i → (z.rate ≡ rate_of i) × (z.outputs ≡ outputs_of i)
unfolding sponge_of
known-sponge i e z-is = let w = rw e at z-is in (ap (λ (x : Shape). x.rate) w, ap (λ (x : Shape). x.outputs) w)

-- and its count is a number of the machine
pub sponge-counts : (i n : ℕ) {z : Shape} → unknown i ≡ false → z ≡ sponge_of i → n ≤ LONGEST-MESSAGE
    → (0 < z.rate) × (n / z.rate + z.outputs ≤ LONGEST-MESSAGE + DIGEST)
sponge-counts i n e z-is h = let k = known-sponge i e z-is in rw (k.0, k.1) (count_fits i n e h)

-- the count that the code works out is the one of the calls
counted : (i : ℕ) (m : List ℕ) {a : Result ℕ DigestRefusal} → a ≡ Ok (digest_calls i m) → Ok (length m / rate_of i + 1 + outputs_of i) ≡ a
unfolding outputs_of
counted i m e = ap Ok (sym (digest-calls i m)) ∙ sym e

-- the last return: the shape of the instance, the digest, and its copy
pub finished : (i : ℕ) (m o : List ℕ) {z : Shape} {hash w : List ℕ} → unknown i ≡ false → length m ≤ LONGEST-MESSAGE → DIGEST ≤ length o
    → z ≡ sponge_of i → hash ≡ hash_of i m → w ≡ copied hash o
    → (Ok (length m / z.rate + 1 + z.outputs) ≡ digest_answer i m o) × (w ≡ digest_out i m o)
unfolding hash_of
finished i m o {z} {hash} {w} e h g z-is given put =
    let k = known-sponge i e z-is in
    let d : hash ≡ digest_of i m = rw e at given in
    let r = digest-done i m o e h g in
    (rw (k.0, k.1) (counted i m r.0), rw (put, d) (copied-whole i m o e g ∙ sym r.1))
