-- What an allowance does to what a stretch is found to be (order W5): with enough allowed nothing, a larger one never alters an answer that was
-- not 15, and no count is over it; and 15 is given exactly after 8 and before 5. Assumes nothing.
use Rattle.std.specs.Prelude.{◌≡◌, refl, Bool, true, false, not, cond, List, ℕ, ◌+◌, ◌≤◌, ◌<◌, ltb, length, Ok, Err, Result, ⊤}
use Rattle.std.proofs.Common.{sym, ap, ◌∙◌, arith, lt-ltb, le-ltb, ltb-true, ltb-false}
use Rattle.base_lists.specs.Below.{Below}
use Rattle.base_lists.specs.Sameness.{same_refl}
use Rattle.frame_stuff_spec.specs.Stuffing.{unstuffed}
use Rattle.frame_stuff_spec.specs.Bytes.{unstuffed-below}
use Rattle.line_layout.specs.declared.Layout as layouts
use Rattle.line_layout.specs.declared.LineFault.{LineFault}
use Rattle.line_layout.specs.declared.LineFault.TheVariants.{Unlisted, Trade, Layout}
use Rattle.line_layout.specs.Layouts.{layout_rule}
use Rattle.ingage_spec.specs.Instances.{first}
use Rattle.ingage_spec.specs.Cipher.{Work, decrypted, accepted}
use Rattle.frame_body.specs.Fields.{job_size, Own, fields_of, associated}
use Rattle.frame_body.proofs.Lengths.{job-field-most}
use Rattle.frame_body.proofs.Job.{job-sized}
use Rattle.frame_body.proofs.OneToOne.{body-fields}
use Rattle.frame_spec.specs.Told.{Told}
use Rattle.frame_spec.specs.Lengths.{beside_line}
use Rattle.read_spec.specs.Sizes.{Sizes}
use Rattle.read_spec.specs.Judging.{by_rule, judge_sealed, judge}
use Rattle.read_spec.specs.Cases.{Holds, Case, too_long, bad-stuffing, no_fields}
use Rattle.read_spec.proofs.Cases.{judge-holds, judge-case}
use Rattle.read_spec.specs.Cases.{other-font, other-seal, not_listed, not-trade, not-laid, given}
use Rattle.read_spec.specs.Counts.{Counted}
use Rattle.read_spec.proofs.Counts.{opening-calls, read-calls}
use Rattle.read_spec.specs.Editions.{among-fields}
use Rattle.read_spec.specs.Judged.{Judged, shape, stuffing, font, work, seal, unlisted, trade, layout, line, number_in, calls_in}
use Rattle.read_spec.specs.Ceiling.{within, all_work}

-- where the work is no more than is allowed, the answer is the one without a ceiling
pub enough-allowed : (a : ℕ) (j : Judged) → calls_in j ≤ a → within a j ≡ j
unfolding within
enough-allowed a j h = rw (le-ltb a (calls_in j) h)

-- what takes no work comes with any allowance: 7, 6 and 8
pub no-ceiling : (a : ℕ) {j : Judged} (k : Judged) → j ≡ k → calls_in k ≡ 0 → within a j ≡ k
no-ceiling a k e z = ap (within a) e ∙ enough-allowed a k (omega (arith, z))

-- where it is more, 15
pub not-enough : (a : ℕ) (j : Judged) → a < calls_in j → within a j ≡ work
unfolding within
not-enough a j h = rw (lt-ltb a (calls_in j) h)

-- what is not 15 is what is found without a ceiling
pub not-work : (a : ℕ) (j k : Judged) → within a j ≡ k → (k ≡ work → ⊥) → j ≡ k
unfolding within
not-work a j k = go (ltb a (calls_in j))
  where
    go : (t : Bool) → cond t work j ≡ k → (k ≡ work → ⊥) → j ≡ k
    go true e n = absurd (n (sym e))
    go false e n = e

-- a larger allowance never alters an answer that was not 15
pub more-allowed : (a b : ℕ) (j : Judged) → a ≤ b → (within a j ≡ work → ⊥) → within b j ≡ within a j
unfolding within
more-allowed a b j h n = go (ltb a (calls_in j)) refl
  where
    go : (t : Bool) → ltb a (calls_in j) ≡ t → cond (ltb b (calls_in j)) work j ≡ cond t work j
    go true e = absurd (n (not-enough a j (ltb-true a (calls_in j) e)))
    go false e = rw (le-ltb b (calls_in j) (omega (arith, ltb-false a (calls_in j) e)))

-- the count reported never exceeds the number allowed
pub never-over : (a : ℕ) (j : Judged) → calls_in (within a j) ≤ a
unfolding within
never-over a j = go (ltb a (calls_in j)) refl
  where
    go : (t : Bool) → ltb a (calls_in j) ≡ t → calls_in (cond t work j) ≤ a
    go true e = omega arith
    go false e = ltb-false a (calls_in j) e

-- opening takes the same work whatever it finds: 5, 9, 13, 17 or a line
pub sealed-work : (l : layouts.Layout) (own : Own) (key A cipher T : List ℕ)
    → calls_in (judge_sealed l own key A cipher T) ≡ (decrypted first key own.nonce A cipher).calls
unfolding judge_sealed
sealed-work l own key A cipher T = by-seal (accepted w.seal T)
  where
    w : Work
    w = decrypted first key own.nonce A cipher

    by-rule : (r : Result ⊤ LineFault) → calls_in (by_rule r own w) ≡ w.calls
    by-rule (Ok tt) = refl
    by-rule (Err Unlisted) = refl
    by-rule (Err Trade) = refl
    by-rule (Err Layout) = refl

    by-seal : (b : Bool) → calls_in (cond (not b) (seal w.calls) (by_rule (layout_rule l w.text) own w)) ≡ w.calls
    by-seal true = by-rule (layout_rule l w.text)
    by-seal false = refl

module _ (t : Told) (z : Sizes t) (ed : ℕ) (s : List ℕ) (a : ℕ) where
  held : {own : Own} {digest cipher T : List ℕ} → Holds ed s own digest cipher T → length own.job ≡ job_size own.edition
  held h = job-sized (unstuffed s) (among-fields ed (fields_of (unstuffed s)) h.1).0

  -- a stretch whose fields are right and whose font is the one asked for, and more work than is allowed: 15, whatever its seal and its line
  pub over-allowed : (own : Own) (cipher T : List ℕ) → Holds ed s own t.font cipher T → a < length cipher + beside_line own.edition
      → within a (judge t ed s) ≡ work
  over-allowed own cipher T h l =
      let sealed : judge t ed s ≡ judge_sealed t.layout own t.key (associated own.edition t.font own.job) cipher T =
      judge-holds t ed s h ∙ rw (same_refl t.font) in
      let calls : calls_in (judge t ed s) ≡ length cipher + beside_line own.edition =
      ap calls_in sealed
      ∙ sealed-work t.layout own t.key (associated own.edition t.font own.job) cipher T ∙ opening-calls t z own (held h) cipher in
      not-enough a (judge t ed s) (omega (arith, calls, l))

  -- and 15 for no other
  pub over-only : within a (judge t ed s) ≡ work
      → (own : Own) × (cipher T : List ℕ) × Holds ed s own t.font cipher T × (a < length cipher + beside_line own.edition)
  over-only e = by-calls (ltb a (calls_in (judge t ed s))) refl
    where
      by_count : (j : Judged) → Counted t ed s j → a < calls_in j
          → (own : Own) × (cipher T : List ℕ) × Holds ed s own t.font cipher T × (a < length cipher + beside_line own.edition)
      by_count shape c l = absurd (omega (arith, l))
      by_count stuffing c l = absurd (omega (arith, l))
      by_count font c l = absurd (omega (arith, l))
      by_count work c l = absurd (omega (arith, l))
      by_count (seal n) (own, cipher, T, h, q) l = (own, cipher, T, h, omega (arith, q, l))
      by_count (unlisted n) (own, cipher, T, h, q) l = (own, cipher, T, h, omega (arith, q, l))
      by_count (trade n) (own, cipher, T, h, q) l = (own, cipher, T, h, omega (arith, q, l))
      by_count (layout n) (own, cipher, T, h, q) l = (own, cipher, T, h, omega (arith, q, l))
      by_count (line made x n) (own, cipher, T, h, q) l = (own, cipher, T, h, omega (arith, q, l))

      -- without a ceiling no stretch is found to be 15
      no-work : judge t ed s ≡ work → ⊥
      no-work q = by-case (judge t ed s) (judge-case t ed s) (ap number_in q)
        where
          by-case : (j : Judged) → Case t ed s j → number_in j ≡ number_in work → ⊥
          by-case _ (too_long h) n = omega (arith, n)
          by-case _ (bad-stuffing h m) n = omega (arith, n)
          by-case _ (no_fields g m) n = omega (arith, n)
          by-case _ (other-font own digest cipher T h m) n = omega (arith, n)
          by-case _ (other-seal own cipher T h m) n = omega (arith, n)
          by-case _ (not_listed own cipher h m) n = omega (arith, n)
          by-case _ (not-trade own cipher h m) n = omega (arith, n)
          by-case _ (not-laid own cipher h m) n = omega (arith, n)
          by-case _ (given own cipher h m) n = omega (arith, n)

      by-calls : (b : Bool) → ltb a (calls_in (judge t ed s)) ≡ b
          → (own : Own) × (cipher T : List ℕ) × Holds ed s own t.font cipher T × (a < length cipher + beside_line own.edition)
      by-calls true l = by_count (judge t ed s) (read-calls t z ed s) (ltb-true a (calls_in (judge t ed s)) l)
      by-calls false l = absurd (no-work (sym (enough-allowed a (judge t ed s) (ltb-false a (calls_in (judge t ed s)) l)) ∙ e))

-- with all the work allowed there is no ceiling, for any stretch of bytes
pub all-allowed : (t : Told) → Sizes t → (ed : ℕ) (s : List ℕ) → Below 256 s → (a : ℕ) → all_work ≤ a → within a (judge t ed s) ≡ judge t ed s
all-allowed t z ed s bytes a h = by-work (ltb a (calls_in (judge t ed s))) refl
  where
    too_much : (own : Own) (cipher T : List ℕ) → Holds ed s own t.font cipher T → a < length cipher + beside_line own.edition → ⊥
    too_much own cipher T g l =
        let y = (body-fields (unstuffed s) (unstuffed-below s bytes) (among-fields ed (fields_of (unstuffed s)) g.1).0).1 in
        omega (arith, y.cipher-to, l, h, job-field-most own.edition)

    by-work : (b : Bool) → ltb a (calls_in (judge t ed s)) ≡ b → within a (judge t ed s) ≡ judge t ed s
    by-work true e =
        let (own, cipher, T, g, l) = over-only t z ed s a (not-enough a (judge t ed s) (ltb-true a (calls_in (judge t ed s)) e)) in
        absurd (too_much own cipher T g l)
    by-work false e = enough-allowed a (judge t ed s) (ltb-false a (calls_in (judge t ed s)) e)
