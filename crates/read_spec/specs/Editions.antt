-- The editions that a reader allows (order W6): a set of two bits, 1 for edition one and 2 for edition two; other bits say nothing. Fields of
-- an edition that is not allowed are no body. Assumes nothing.
use Rattle.std.specs.Prelude.{◌≡◌, refl, Bool, true, false, cond, List, ℕ, ◌/◌, ◌%◌, eqb}
use Rattle.std.proofs.Common.{arith}
use Rattle.frame_body.specs.declared.Edition.{Edition}
use Rattle.frame_body.specs.declared.Edition.TheVariants.{One, Two}
use Rattle.frame_body.specs.Fields.{Own, Fields, fields, no_body}

unfoldable pub allows : ℕ → Edition → Bool
allows ed One = eqb (ed % 2) 1
allows ed Two = eqb (ed / 2 % 2) 1

-- the sets
abbrev pub one_alone : ℕ
one_alone = 1

abbrev pub two_alone : ℕ
two_alone = 2

abbrev pub both : ℕ
both = 3

abbrev pub only : Edition → ℕ
only One = one_alone
only Two = two_alone

-- a reader of one edition alone allows that one, a reader of both each
pub allows-only : (e : Edition) → (allows (only e) e ≡ true) × (allows both e ≡ true)
unfolding allows
allows-only One = (refl, refl)
allows-only Two = (refl, refl)

-- and a reader of one edition not the other
pub only-allows : (e e' : Edition) → allows (only e) e' ≡ true → e ≡ e'
unfolding allows
only-allows One One h = refl
only-allows Two Two h = refl
only-allows One Two h = absurd (let z : ◌≡◌ {A = ℕ} 0 1 = cc h in omega arith)
only-allows Two One h = absurd (let z : ◌≡◌ {A = ℕ} 0 1 = cc h in omega arith)

-- the fields, if their edition is allowed
abbrev pub among : ℕ → Fields → Fields
among ed no_body = no_body
among ed (fields own digest cipher T) = cond (allows ed own.edition) (fields own digest cipher T) no_body

pub among-allowed : (ed : ℕ) {own : Own} {digest cipher T : List ℕ} (f : Fields) → f ≡ fields own digest cipher T → allows ed own.edition ≡ true
    → among ed f ≡ fields own digest cipher T
among-allowed ed f e h = rw (e, h)

pub among-fields : (ed : ℕ) (f : Fields) {own : Own} {digest cipher T : List ℕ} → among ed f ≡ fields own digest cipher T
    → (f ≡ fields own digest cipher T) × (allows ed own.edition ≡ true)
among-fields ed no_body e = absurd (let z : ◌≡◌ {A = ℕ} 0 1 = cc e in omega arith)
among-fields ed (fields own' digest' cipher' T') {own} {digest} {cipher} {T} e = go (allows ed own'.edition) refl e
  where
    go : (b : Bool) → allows ed own'.edition ≡ b → cond b (fields own' digest' cipher' T') no_body ≡ fields own digest cipher T
        → (fields own' digest' cipher' T' ≡ fields own digest cipher T) × (allows ed own.edition ≡ true)
    go true a q = (q, let same : own' ≡ own = cc q in rw (← same) a)
    go false a q = absurd (let z : ◌≡◌ {A = ℕ} 0 1 = cc q in omega arith)
