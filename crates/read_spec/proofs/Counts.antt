-- The count of a reading (document 01, 'Numbers returned'; orders W2 and W7): 0 for 7, 6 and 8; for 5, 9, 13, 17 and a line n + 39 (in edition two n + 46,
-- order W6), n being the length of the line's ciphertext. Assumes nothing.
use Rattle.std.specs.Prelude.{◌≡◌, refl, List, ℕ, ◌+◌, length}
use Rattle.std.proofs.Common.{arith}
use Rattle.ingage_spec.proofs.Results.{open-calls-first}
use Rattle.frame_stuff_spec.specs.Stuffing.{unstuffed}
use Rattle.frame_body.specs.Fields.{job_size, Own, fields_of, associated}
use Rattle.frame_body.proofs.Lengths.{length-associated}
use Rattle.frame_body.proofs.Job.{job-sized}
use Rattle.frame_spec.specs.Told.{Told}
use Rattle.frame_spec.specs.Lengths.{beside_line}
use Rattle.read_spec.specs.Sizes.{Sizes}
use Rattle.read_spec.specs.Editions.{among-fields}
use Rattle.read_spec.specs.Judged.{Judged, shape, stuffing, font, work, seal, unlisted, trade, layout, line, calls_in}
use Rattle.read_spec.specs.Judging.{judge}
use Rattle.read_spec.specs.Cases.{Holds, Case, opening, too_long, bad-stuffing, no_fields}
use Rattle.read_spec.proofs.Cases.{judge-case}
use Rattle.read_spec.specs.Cases.{other-font, other-seal, not_listed, not-trade, not-laid, given}
use Rattle.read_spec.specs.Counts.{Counted}

pub opening-calls : (t : Told) → Sizes t → (own : Own) → length own.job ≡ job_size own.edition → (cipher : List ℕ)
    → (opening t own t.font cipher).calls ≡ length cipher + beside_line own.edition
opening-calls t z own j cipher =
    omega (
      arith,
      open-calls-first t.key own.nonce (associated own.edition t.font own.job) cipher,
      length-associated own.edition t.font own.job z.font-is j,
    )

pub read-calls : (t : Told) → Sizes t → (ed : ℕ) (s : List ℕ) → Counted t ed s (judge t ed s)
read-calls t z ed s = by-case (judge t ed s) (judge-case t ed s)
  where
    held : {own : Own} {digest cipher T : List ℕ} → Holds ed s own digest cipher T → length own.job ≡ job_size own.edition
    held h = job-sized (unstuffed s) (among-fields ed (fields_of (unstuffed s)) h.1).0

    by-case : (j : Judged) → Case t ed s j → Counted t ed s j
    by-case _ (too_long h) = refl
    by-case _ (bad-stuffing h n) = refl
    by-case _ (no_fields g e) = refl
    by-case _ (other-font own digest cipher T h n) = refl
    by-case _ (other-seal own cipher T h n) = (own, cipher, T, h, opening-calls t z own (held h) cipher)
    by-case _ (not_listed own cipher h e) = (own, cipher, _, h, opening-calls t z own (held h) cipher)
    by-case _ (not-trade own cipher h e) = (own, cipher, _, h, opening-calls t z own (held h) cipher)
    by-case _ (not-laid own cipher h e) = (own, cipher, _, h, opening-calls t z own (held h) cipher)
    by-case _ (given own cipher h e) = (own, cipher, _, h, opening-calls t z own (held h) cipher)
