-- A stretch that reads as a line holds the fields that it was opened by: its nonce is the line's own. Assumes nothing.
use Rattle.std.specs.Prelude.{◌≡◌, List, ℕ}
use Rattle.std.proofs.Common.{ap, ◌∙◌, arith}
use Rattle.frame_stuff_spec.specs.Stuffing.{unstuffed}
use Rattle.frame_stuff_spec.proofs.Outcomes.{length-good}
use Rattle.frame_body.specs.Fields.{Own, fields, fields_of}
use Rattle.frame_spec.specs.Told.{Told}
use Rattle.read_spec.specs.Editions.{among-fields}
use Rattle.read_spec.specs.Judged.{Judged, line, number_in}
use Rattle.read_spec.specs.Judging.{judge, held}
use Rattle.read_spec.specs.Cases.{Holds, Case, too_long, bad-stuffing, no_fields}
use Rattle.read_spec.proofs.Cases.{judge-case}
use Rattle.read_spec.specs.Cases.{other-font, other-seal, not_listed, not-trade, not-laid, given}
use Rattle.read_nonce.specs.Nonces.{nonce_answer}
use Rattle.read_nonce.specs.Sizes.{nonce-held}

-- the fields that are judged are those that the stretch holds
pub holds-held : (ed : ℕ) (s : List ℕ) {own : Own} {digest cipher T : List ℕ} → Holds ed s own digest cipher T → held s ≡ fields own digest cipher T
unfolding held
holds-held ed s h = rw (length-good s h.0.short h.0.well) (among-fields ed (fields_of (unstuffed s)) h.1).0

pub line-nonce : (t : Told) (ed : ℕ) (s : List ℕ) (own : Own) (l : List ℕ) (n : ℕ) → judge t ed s ≡ line own l n
    → nonce_answer s ≡ record { found = 1; bytes = own.nonce }
line-nonce t ed s own l n e = by-case (judge t ed s) (judge-case t ed s) e
  where
    by-case : (j : Judged) → Case t ed s j → j ≡ line own l n → nonce_answer s ≡ record { found = 1; bytes = own.nonce }
    by-case _ (too_long h) q = absurd (omega (arith, ap number_in q))
    by-case _ (bad-stuffing h m) q = absurd (omega (arith, ap number_in q))
    by-case _ (no_fields g m) q = absurd (omega (arith, ap number_in q))
    by-case _ (other-font own' digest cipher T h m) q = absurd (omega (arith, ap number_in q))
    by-case _ (other-seal own' cipher T h m) q = absurd (omega (arith, ap number_in q))
    by-case _ (not_listed own' cipher h m) q = absurd (omega (arith, ap number_in q))
    by-case _ (not-trade own' cipher h m) q = absurd (omega (arith, ap number_in q))
    by-case _ (not-laid own' cipher h m) q = absurd (omega (arith, ap number_in q))
    by-case _ (given own' cipher h m) q =
        let same : own' ≡ own = cc q in
        nonce-held s (holds-held ed s h) ∙ ap (λ (o : Own). record { found = 1; bytes = o.nonce }) same
