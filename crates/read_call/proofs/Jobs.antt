-- The job of a body's bytes as a number, as `job_of` works it out. Assumes nothing.
use mathlib.Core.Path.{◌≡◌, refl, ap, ◌∙◌}
use mathlib.Core.List.{List, [], ◌∷◌}
use Prim.Native.Nat.{ℕ, ◌+◌, ◌*◌, ◌≤◌, ◌<◌}
use native.Mathlib.Omega.{arith}
use lib.ListN.{length, get_or, take, drop}
use Rattle.base_lists.specs.Walk.{at}
use Rattle.frame_body.specs.declared.Edition.TheVariants.{Two}
use Rattle.frame_body.specs.Fields.{high_byte, job_length}
use Rattle.frame_body.specs.Job.{job_number}
use Rattle.frame_body.specs.Places.{job_at}
use Rattle.read_call.specs.Parts.{job_in}

on : (b : List ℕ) (i j : ℕ) → j ≡ i + 1 → i < length b → drop i b ≡ get_or b i 0 ∷ drop j b
on b i j e h = rw e (at b i h)

four_bytes : (b : List ℕ) → job_at + job_length ≤ length b → job_in Two b ≡ get_or b job_at 0 ∷ get_or b (job_at + 1) 0 ∷ get_or b (job_at + 2) 0 ∷ get_or b (job_at + 3) 0 ∷
    []
four_bytes b h =
    ap (take job_length)
    (on b job_at (job_at + 1) refl (omega arith)
    ∙ ap (λ (s : List ℕ). get_or b job_at 0 ∷ s)
    (on b (job_at + 1) (job_at + 2) refl (omega arith)
    ∙ ap (λ (s : List ℕ). get_or b (job_at + 1) 0 ∷ s)
    (on b (job_at + 2) (job_at + 3) refl (omega arith)
    ∙ ap (λ (s : List ℕ). get_or b (job_at + 2) 0 ∷ s) (on b (job_at + 3) (job_at + 4) refl (omega arith)))))

pub job-sum : (b : List ℕ) → job_at + job_length ≤ length b
    → (get_or b job_at 0 * high_byte + get_or b (job_at + 1) 0) * high_byte * high_byte + (get_or b (job_at + 2) 0 * high_byte + get_or b (job_at + 3) 0) ≡ job_number
    (job_in Two b)
unfolding job_number
job-sum b h = rw (four_bytes b h) (omega arith)
