-- What a return of a judging function has to show, from what was found. Assumes nothing.
use mathlib.Core.Path.{◌≡◌, sym, ap, ◌∙◌}
use mathlib.Core.List.{List}
use Prim.Native.Nat.{ℕ}
use Rattle.read_call.specs.declared.Verdict.{Verdict}
use Rattle.read_spec.specs.Judged.{Judged}
use Rattle.read_call.specs.Answers.{verdict_of, line_over}

-- the verdict and the line buffer, where the judgement promised is k
abbrev pub Shows : Judged → List ℕ → Verdict → List ℕ → Type 0
Shows k l r w = (r ≡ verdict_of k) × (w ≡ line_over k l)

pub shown : (k : Judged) (l : List ℕ) (j : Judged) → k ≡ j → (r : Verdict) → r ≡ verdict_of j → Shows k l r (line_over j l)
shown k l j e r q = (q ∙ ap verdict_of (sym e), ap (λ (x : Judged). line_over x l) (sym e))

-- a callee showed it of the same judgement
pub passed : (k j : Judged) (l : List ℕ) (r : Verdict) (w : List ℕ) → k ≡ j → Shows j l r w → Shows k l r w
passed k j l r w e m = (m.0 ∙ ap verdict_of (sym e), m.1 ∙ ap (λ (x : Judged). line_over x l) (sym e))
