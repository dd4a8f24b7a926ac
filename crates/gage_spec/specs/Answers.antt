-- What the public calls answer to a size and a count of rounds that are allowed, and to others: the laws that callers cite. Assumes nothing.
use Rattle.std.specs.Prelude.{◌≡◌, true, false, List, ◌++◌, ℕ, ◌≤◌, length, take, drop, Ok, Err}
use Rattle.std.proofs.Common.{◌∙◌, take-append-drop, length-take-le, take_at, drop_at}
use Rattle.gage_spec.specs.Permutation.{permitted, counted, judged, answered}
use Rattle.gage_spec.specs.declared.PermuteRefusal.TheVariants.{Size, Rounds}
use Rattle.gage_spec.specs.declared.Permuted.{Permuted}

-- the size is judged first
module _ (n k : ℕ) where
  pub judged-size : permitted n ≡ false → judged n k ≡ Err Size
  unfolding judged
  judged-size h = rw h

  pub judged-rounds : permitted n ≡ true → counted k ≡ false → judged n k ≡ Err Rounds
  unfolding judged
  judged-rounds h g = rw (h, g)

  pub judged-done : permitted n ≡ true → counted k ≡ true → judged n k ≡ Ok tt
  unfolding judged
  judged-done h g = rw (h, g)

module _ (f : ℕ → List ℕ → List ℕ) (s : List ℕ) (n k : ℕ) where
  pub answered-done : judged n k ≡ Ok tt → answered f s n k ≡ record { answer = Ok tt; state = f k (take n s) ++ drop n s }
  unfolding answered
  answered-done h = rw h

  -- where f keeps lengths, it has changed the first n bytes
  pub answered-first : {p : Permuted} → ((x : List ℕ) → length (f k x) ≡ length x) → permitted n ≡ true → counted k ≡ true → n ≤ length s
      → p ≡ answered f s n k → take n p.state ≡ f k (take n s)
  answered-first same h g l e =
      rw (e, answered-done (judged-done n k h g)) (take_at (f k (take n s)) (drop n s) n (same (take n s) ∙ length-take-le n s l))

-- where g undoes f, the answer of g to f's is the state as it was
pub answered-back : (f g : ℕ → List ℕ → List ℕ) (s : List ℕ) (n k : ℕ) → judged n k ≡ Ok tt → n ≤ length s
    → length (f k (take n s)) ≡ length (take n s) → g k (f k (take n s)) ≡ take n s
    → answered g (answered f s n k).state n k ≡ record { answer = Ok tt; state = s }
answered-back f g s n k h l same undone =
    let long : length (f k (take n s)) ≡ n = same ∙ length-take-le n s l in
    rw (
      answered-done f s n k h,
      answered-done g (f k (take n s) ++ drop n s) n k h,
      take_at (f k (take n s)) (drop n s) n long,
      drop_at (f k (take n s)) (drop n s) n long,
      undone,
      take-append-drop n s,
    )
