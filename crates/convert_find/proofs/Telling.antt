-- What a stretch's fields tell of its edition, on the lists of the definitions. Assumes nothing.
use Rattle.std.specs.Prelude.{Some, None}
use mathlib.Core.Path.{◌≡◌, refl, ap}
use mathlib.Core.Bool.{false, not}
use Prim.Native.Nat.{ℕ}
use native.Mathlib.Omega.{arith}
use lib.ListN.{length}
use Rattle.frame_body.specs.declared.Edition.{Edition}
use Rattle.frame_body.specs.Fields.{Fields, fields, no_body}
use Rattle.frame_body.specs.Answers as body-answers
use Rattle.convert_spec.specs.Answers.{same_edition, other_than}

pub shape-other : (named : Edition) (f : Fields) → body-answers.judged f ≡ None → other_than named f ≡ false
shape-other named no_body h = refl
shape-other named (fields own digest cipher T) h = absurd (let z : ◌≡◌ {A = ℕ} 0 1 = cc h in omega arith)

pub fields-other : (named e : Edition) (n : ℕ) (f : Fields) → body-answers.judged f ≡ Some (e, n) → other_than named f ≡ not (same_edition named e)
fields-other named e n no_body h = absurd (let z : ◌≡◌ {A = ℕ} 0 1 = cc h in omega arith)
fields-other named e n (fields own digest cipher T) h =
    let pair : ◌≡◌ {A = Edition × ℕ} (own.edition, length cipher) (e, n) = cc h in
    rw (ap (λ (x : Edition × ℕ). x.0) pair)
