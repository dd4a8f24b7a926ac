-- What `permute` and `unpermute` make of the answer of `judge`. Assumes nothing.
use Rattle.std.specs.Prelude.{Ok, Err, Result, ⊤}
use mathlib.Core.Path.{◌≡◌, refl, sym, ◌∙◌}
use mathlib.Core.List.{List, ◌++◌}
use Prim.Native.Nat.{ℕ}
use lib.ListN.{take, drop}
use Rattle.gage_spec.specs.Permutation.{judged, answered}
use Rattle.gage_spec.specs.Answers.{answered-done}
use Rattle.gage_spec.specs.declared.PermuteRefusal.{PermuteRefusal}
use Rattle.gage_spec.specs.declared.PermuteRefusal.TheVariants.{Size, Rounds}
use Rattle.gage_spec.specs.declared.Permuted.{Permuted}

module _ (f : ℕ → List ℕ → List ℕ) (s : List ℕ) (n k : ℕ) (r : Result ⊤ PermuteRefusal) (e : r ≡ judged n k) where
  -- a refusal gives the state back
  pub refused : (r ≡ Ok tt → ⊥) → ◌≡◌ {A = Permuted} (record { answer = r; state = s }) (answered f s n k)
  unfolding answered
  refused t = go r e t
    where
      go : (a : Result ⊤ PermuteRefusal) → a ≡ judged n k → (a ≡ Ok tt → ⊥)
          → ◌≡◌ {A = Permuted} (record { answer = a; state = s }) (answered f s n k)
      go (Ok tt) g t = absurd (t refl)
      go (Err Size) g t = rw (sym g)
      go (Err Rounds) g t = rw (sym g)

  -- a state x with the first n bytes changed, given with done, is the answer
  pub done : {x : List ℕ} → r ≡ Ok tt → x ≡ f k (take n s) ++ drop n s → ◌≡◌ {A = Permuted} (record { answer = r; state = x }) (answered f s n k)
  done d x = rw (d, x, answered-done f s n k (sym e ∙ d))
