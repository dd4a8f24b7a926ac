-- Each return of `tell`, and of `forth` and `back`, gives what the definition says. Assumes nothing.
use Rattle.std.specs.Prelude.{Ok, Err, Some, None}
use mathlib.Core.Path.{◌≡◌}
use mathlib.Core.Bool.{true, false}
use mathlib.Core.List.{List}
use Prim.Native.Nat.{ℕ}
use Rattle.gage_spec.specs.Permutation.{answered}
use Rattle.gage_spec.specs.declared.PermuteRefusal.{PermuteRefusal}
use Rattle.gage_spec.specs.declared.PermuteRefusal.TheVariants as answer
use Rattle.gage_spec.specs.declared.Permuted.{Permuted}
use Rattle.tool_trial.specs.Trial.{fault_of, number_in, state_in, is_state, refusal, told_by, told, tried_by, tried}
use Rattle.tool_trial.specs.declared.TrialFault.TheVariants.{NoNumber, NoState}
use Rattle.tool_trial.specs.declared.Trial.{Trial}

module _ (p : Permuted) (n : ℕ) (t : List ℕ) where
  pub told-done : p.answer ≡ Ok tt → is_state t n ≡ true → ◌≡◌ {A = Trial} (record { outcome = Ok tt; size = n; state = p.state }) (told p n t)
  unfolding told_by
  told-done a h = rw (a, h)

  pub told-no-state : p.answer ≡ Ok tt → is_state t n ≡ false → refusal (Err NoState) ≡ told p n t
  unfolding told_by
  told-no-state a h = rw (a, h)

  pub told-refused : (refusal-is : PermuteRefusal) → p.answer ≡ Err refusal-is → refusal (Err (fault_of refusal-is)) ≡ told p n t
  unfolding told_by
  told-refused answer.Size a = rw a
  told-refused answer.Rounds a = rw a

module _ (f : ℕ → List ℕ → List ℕ) (size rounds t : List ℕ) where
  pub no_size : number_in size ≡ None → refusal (Err NoNumber) ≡ tried f size rounds t
  unfolding tried_by
  no_size h = rw h

  pub no-rounds : (n : ℕ) → number_in size ≡ Some n → number_in rounds ≡ None → refusal (Err NoNumber) ≡ tried f size rounds t
  unfolding tried_by
  no-rounds n h g = rw (h, g)

  pub two-numbers : (n k : ℕ) → number_in size ≡ Some n → number_in rounds ≡ Some k → (s : List ℕ) → s ≡ state_in t → (p : Permuted) → p ≡ answered f s n k
      → told p n t ≡ tried f size rounds t
  unfolding tried_by
  two-numbers n k h g s d p e = rw (h, g, e, d)
