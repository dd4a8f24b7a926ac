-- The job as a number, high byte first as lengths are (order W6): one to one with field 05's four bytes. And a job that is found has its
-- edition's length, whatever the bytes. Assumes nothing.
use Rattle.std.specs.Prelude.{◌≡◌, ℕ, ◌+◌, ◌*◌, ◌/◌, ◌%◌, length}
use mathlib.Core.List.{List, [], ◌∷◌}
use Rattle.frame_body.specs.Fields.{high_byte, job_size}
use Rattle.frame_body.specs.Fields.{Fields, fields, no_body}

-- bytes as a number behind what stood before them
abbrev pub high_first : ℕ → List ℕ → ℕ
high_first n [] = n
high_first n (b ∷ s) = high_first (n * high_byte + b) s

-- no job, as in edition one, is 0
unfoldable pub job_number : List ℕ → ℕ
job_number job = high_first 0 job

-- how many jobs there are
abbrev pub jobs : ℕ
jobs = 4294967296

-- the four bytes of a number
abbrev pub job_bytes : ℕ → List ℕ
job_bytes n = n / 16777216 ∷ n / 65536 % high_byte ∷ n / high_byte % high_byte ∷ n % high_byte ∷ []

-- of fields that are found
abbrev pub JobSized : Fields → Type 0
JobSized (fields own digest cipher seal) = length own.job ≡ job_size own.edition
JobSized no_body = Unit {0}
