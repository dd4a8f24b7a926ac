-- Document 01's order of refusals for `digest_call`, one law for each answer, with the buffer that goes with it. Assumes nothing.
use Rattle.std.specs.Prelude.{◌≡◌, refl, true, false, List, ℕ, ◌≤◌, ◌<◌, length, Ok, Err}
use borrow.Author.Tests.{lt-ltb, le-ltb}
use Rattle.base_lists.specs.Buffers.{over}
use Rattle.digest_spec.specs.Instances.{DIGEST, unknown}
use Rattle.digest_spec.specs.Hashing.{digest_of, digest_calls}
use Rattle.digest_call.specs.Answers.{LONGEST-MESSAGE, digest_answer, digest_out}
use Rattle.digest_call.specs.declared.DigestRefusal.TheVariants.{Instance, TooLong, NoRoom}

module _ (i : ℕ) (m o : List ℕ) where
  pub instance-refused : unknown i ≡ true → (digest_answer i m o ≡ Err Instance) × (digest_out i m o ≡ o)
  unfolding digest_out digest_answer
  instance-refused e = rw e (refl, refl)

  pub length-refused : unknown i ≡ false → LONGEST-MESSAGE < length m → (digest_answer i m o ≡ Err TooLong) × (digest_out i m o ≡ o)
  unfolding digest_out digest_answer
  length-refused e h = rw (e, lt-ltb LONGEST-MESSAGE (length m) h) (refl, refl)

  pub room-refused : unknown i ≡ false → length m ≤ LONGEST-MESSAGE → length o < DIGEST
      → (digest_answer i m o ≡ Err NoRoom) × (digest_out i m o ≡ o)
  unfolding digest_out digest_answer
  room-refused e h g = rw (e, le-ltb LONGEST-MESSAGE (length m) h, lt-ltb (length o) DIGEST g) (refl, refl)

  pub digest-done : unknown i ≡ false → length m ≤ LONGEST-MESSAGE → DIGEST ≤ length o
      → (digest_answer i m o ≡ Ok (digest_calls i m)) × (digest_out i m o ≡ over (digest_of i m) o)
  unfolding digest_out digest_answer
  digest-done e h g = rw (e, le-ltb LONGEST-MESSAGE (length m) h, le-ltb (length o) DIGEST g) (refl, refl)
