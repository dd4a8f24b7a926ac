-- What `digest_call` answers and what it leaves in the caller's buffer, in document 01's order of refusals ('Numbers returned').
-- Assumes nothing: these are definitions.
use Rattle.std.specs.Prelude.{ℕ, cond, List, ltb, length, Ok, Err, Result}
use Rattle.base_lists.specs.Buffers.{over}
use Rattle.digest_spec.specs.Instances.{DIGEST, unknown}
use Rattle.digest_spec.specs.Hashing.{digest_of, digest_calls}
use Rattle.digest_call.specs.declared.DigestRefusal.{DigestRefusal}
use Rattle.digest_call.specs.declared.DigestRefusal.TheVariants.{Instance, TooLong, NoRoom}

-- the longest message in bytes (document 01, number 3)
abbrev pub LONGEST-MESSAGE : ℕ
LONGEST-MESSAGE = 65536

-- the answer for instance i, message m and buffer o
unfoldable pub digest_answer : ℕ → List ℕ → List ℕ → Result ℕ DigestRefusal
digest_answer i m o =
    cond (unknown i) (Err Instance)
    (cond (ltb LONGEST-MESSAGE (length m)) (Err TooLong)
    (cond (ltb (length o) DIGEST) (Err NoRoom)
    (Ok (digest_calls i m))))

-- done: w over the buffer's first bytes; refused: the buffer as it was
abbrev pub on_done : Result ℕ DigestRefusal → List ℕ → List ℕ → List ℕ
on_done (Ok n) w o = over w o
on_done (Err f) w o = o

unfoldable pub digest_out : ℕ → List ℕ → List ℕ → List ℕ
digest_out i m o = on_done (digest_answer i m o) (digest_of i m) o

-- document 01's number, and the count that goes with it
abbrev pub digest_number : Result ℕ DigestRefusal → ℕ
digest_number (Ok n) = 0
digest_number (Err Instance) = 1
digest_number (Err TooLong) = 3
digest_number (Err NoRoom) = 4

abbrev pub count_of : Result ℕ DigestRefusal → ℕ
count_of (Ok n) = n
count_of (Err f) = 0
