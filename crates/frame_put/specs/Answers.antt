-- What `put_body` and `put_associated` answer, and what the lent buffer then holds, refusals first.
-- Assumes nothing: these are definitions.
use Rattle.std.specs.Prelude.{Bool, false, cond, List, ℕ, eqb, ltb, length, Ok, Err, Result}
use Rattle.base_lists.specs.Buffers.{over}
use Rattle.frame_body.specs.declared.Edition.{Edition}
use Rattle.frame_body.specs.declared.Edition.TheVariants.{One, Two}
use Rattle.frame_body.specs.Fields.{nonce_tag, digest_tag, cipher_tag, seal_tag, job_tag, job_size, Own, takes, body, associated}
use Rattle.frame_put.specs.declared.PutRefusal.{PutRefusal}
use Rattle.frame_put.specs.declared.PutRefusal.TheVariants as put_is

-- a job that its tag's rule takes; edition one has none
abbrev pub job_fits : Edition → List ℕ → Bool
job_fits One job = eqb (length job) (job_size One)
job_fits Two job = takes job_tag (length job)

-- digest and job have lengths that their tags' rules take
unfoldable pub fitting_associated : Edition → List ℕ → List ℕ → Bool
fitting_associated e digest job = cond (takes digest_tag (length digest)) (job_fits e job) false

-- each value has
unfoldable pub fitting : Own → List ℕ → List ℕ → List ℕ → Bool
fitting own digest cipher seal =
    cond (takes nonce_tag (length own.nonce))
    (cond (fitting_associated own.edition digest own.job)
    (cond (takes cipher_tag (length cipher))
    (takes seal_tag (length seal)) false) false) false

-- bytes w written to the start of a buffer: values that fit, then room; only where w is written does anything change
abbrev pub written : Bool → List ℕ → List ℕ → Result ℕ PutRefusal
written fit w out = cond fit (cond (ltb (length out) (length w)) (Err put_is.NoRoom) (Ok (length w))) (Err put_is.Shape)

abbrev pub written_out : Bool → List ℕ → List ℕ → List ℕ
written_out fit w out = cond fit (cond (ltb (length out) (length w)) out (over w out)) out

unfoldable pub put_answer : Own → List ℕ → List ℕ → List ℕ → List ℕ → Result ℕ PutRefusal
put_answer own digest cipher seal out = written (fitting own digest cipher seal) (body own digest cipher seal) out

unfoldable pub put_out : Own → List ℕ → List ℕ → List ℕ → List ℕ → List ℕ
put_out own digest cipher seal out = written_out (fitting own digest cipher seal) (body own digest cipher seal) out

-- the same of the associated data alone
unfoldable pub associated_answer : Edition → List ℕ → List ℕ → List ℕ → Result ℕ PutRefusal
associated_answer e digest job out = written (fitting_associated e digest job) (associated e digest job) out

unfoldable pub associated_out : Edition → List ℕ → List ℕ → List ℕ → List ℕ
associated_out e digest job out = written_out (fitting_associated e digest job) (associated e digest job) out

-- document 01's number of each answer ('Numbers returned')
abbrev pub put_number : Result ℕ PutRefusal → ℕ
put_number (Ok n) = 0
put_number (Err put_is.Shape) = 7
put_number (Err put_is.NoRoom) = 4
