-- Where the fields' values stand in the bytes of a body, and what is found by them. Assumes nothing: these are definitions.
use Rattle.std.specs.Prelude.{◌≡◌, List, [], ℕ, ◌+◌, ◌-◌, length, take, drop}
use Rattle.line_layout.specs.declared.Layout.{Layout}
use Rattle.frame_body.specs.declared.Edition.{Edition}
use Rattle.frame_body.specs.declared.Edition.TheVariants.{One, Two}
use Rattle.frame_body.specs.Fields.{nonce_length, digest_length, seal_length, job_length, head_length, Own, own_of, fields, fields_of, associated}
use Rattle.frame_body.specs.Lengths.{Sized, job_field_length, associated_length, beside_cipher}
use Rattle.frame_body.specs.Places.{nonce_at, associated_at, digest_at, job_at, cipher_at}
use Rattle.read_open.specs.Opened.{LineCall, open_line}
use Rattle.read_spec.specs.Judged.{Judged}
use Rattle.read_spec.specs.Judging.{judge_sealed}

-- the parts of a body that are lent on; what stands behind the digest stands farther behind by `more` bytes in edition two
abbrev pub nonce_in : List ℕ → List ℕ
nonce_in b = take (nonce_at + nonce_length - nonce_at) (drop nonce_at b)

abbrev pub digest_in : List ℕ → List ℕ
digest_in b = take (digest_at + digest_length - digest_at) (drop digest_at b)

abbrev pub associated_in : ℕ → List ℕ → List ℕ
associated_in more b = take (associated_at + associated_length One + more - associated_at) (drop associated_at b)

abbrev pub cipher_in : ℕ → ℕ → List ℕ → List ℕ
cipher_in more n b = take (cipher_at One + more + n - (cipher_at One + more)) (drop (cipher_at One + more) b)

abbrev pub seal_from : ℕ → ℕ → ℕ
seal_from more n = cipher_at One + more + n + head_length

abbrev pub seal_in : ℕ → ℕ → List ℕ → List ℕ
seal_in more n b = take (seal_from more n + seal_length - seal_from more n) (drop (seal_from more n) b)

abbrev pub job_in : Edition → List ℕ → List ℕ
job_in One b = []
job_in Two b = take job_length (drop job_at b)

abbrev pub own_in : Edition → List ℕ → Own
own_in e b = own_of e (nonce_in b) (job_in e b)

-- a body of an edition with a line ciphertext of n bytes
pub record Parts (b : List ℕ) (e : Edition) (n : ℕ) : Type 0 where
  pub sized : Sized (own_in e b) (digest_in b) (cipher_in (job_field_length e) n b) (seal_in (job_field_length e) n b)
  pub fields-are : fields_of b ≡ fields (own_in e b) (digest_in b) (cipher_in (job_field_length e) n b) (seal_in (job_field_length e) n b)
  pub associated-is : associated_in (job_field_length e) b ≡ associated e (digest_in b) (job_in e b)
  pub length-is : length b ≡ beside_cipher e + n

-- what `open_line` makes of them with the line buffer o
abbrev pub open_parts : Layout → Edition → ℕ → List ℕ → List ℕ → List ℕ → LineCall
open_parts l e n key b o =
    open_line l key (nonce_in b) (associated_in (job_field_length e) b) (cipher_in (job_field_length e) n b) (seal_in (job_field_length e) n b) o

-- what opening them finds
abbrev pub judge_parts : Layout → Edition → ℕ → List ℕ → List ℕ → Judged
judge_parts l e n key b =
    judge_sealed l (own_in e b) key (associated_in (job_field_length e) b) (cipher_in (job_field_length e) n b) (seal_in (job_field_length e) n b)
