-- The inverse laws over the exported calls: unpermuting what was permuted with as many rounds, and the other way round, gives the state that there was, and
-- the same number, whatever size and rounds are; a refused state stays. That a state is bytes is a premise; what the calls are passed meets it by its type
-- (Bytes.antt). Assumes nothing.
use Rattle.std.specs.Prelude.{◌≡◌, refl, List, ℕ, ◌≤◌, length, Ok, Err, Result, ⊤}
use Rattle.std.proofs.Common.{sym, ap, ◌∙◌, arith}
use Rattle.base_lists.specs.Below.{Below}
use Rattle.gage_spec.specs.declared.PermuteRefusal.{PermuteRefusal}
use Rattle.gage_spec.specs.Permutation.{judged, permute, unpermute}
use Rattle.gage_spec.specs.States.{length-permute, length-unpermute}
use Rattle.gage_spec.specs.Inverse.{rounds-undone, rounds-redone}
use Rattle.gage_planes_spec.specs.Sizes.{allowed}
use Rattle.lubdhvani.specs.Calls.{permute_number, permute_state}
use Rattle.lubdhvani_demands.specs.Promises.{Permutes, Unpermutes}

-- g undoes f on a state of this length
module _ (f g : ℕ → List ℕ → List ℕ) (s : List ℕ) (k : ℕ) (same : length (f k s) ≡ length s) (undone : judged (length s) k ≡ Ok tt → g k (f k s) ≡ s) where
  changed : (h : ℕ → List ℕ → List ℕ) (t : List ℕ) → judged (length t) k ≡ Ok tt → permute_state h t k ≡ h k t
  unfolding permute_state
  changed h t e = rw e

  stays : (h : ℕ → List ℕ → List ℕ) (t : List ℕ) (r : PermuteRefusal) → judged (length t) k ≡ Err r → permute_state h t k ≡ t
  unfolding permute_state
  stays h t r e = rw e

  back : (a : Result ⊤ PermuteRefusal) → judged (length s) k ≡ a
      → (permute_number (length (permute_state f s k)) k ≡ permute_number (length s) k) × (permute_state g (permute_state f s k) k ≡ s)
  back (Ok tt) e =
      let x = changed f s e in (
        ap (λ (t : List ℕ). permute_number (length t) k) x ∙ ap (λ (n : ℕ). permute_number n k) same,
        ap (λ (t : List ℕ). permute_state g t k) x ∙ changed g (f k s) (ap (λ (n : ℕ). judged n k) same ∙ e) ∙ undone e,
      )
  back (Err r) e =
      let x = stays f s r e in
      (ap (λ (t : List ℕ). permute_number (length t) k) x, ap (λ (t : List ℕ). permute_state g t k) x ∙ stays g s r e)

pub c-undone : (s : List ℕ) → Below 256 s → (k r : ℕ) (s' : List ℕ) → Permutes s k r s' → (r' : ℕ) (s'' : List ℕ) → Unpermutes s' k r' s'' → (r' ≡ r) × (s'' ≡ s)
c-undone s b k r s' p r' s'' q =
    let z = back permute unpermute s k (length-permute k s) (λ e. rounds-undone k s (omega (arith, (allowed (length s) k e).1)) b) (judged (length s) k) refl in
    (q.0 ∙ ap (λ (t : List ℕ). permute_number (length t) k) p.1 ∙ z.0 ∙ sym p.0, q.1 ∙ ap (λ (t : List ℕ). permute_state unpermute t k) p.1 ∙ z.1)

pub c-redone : (s : List ℕ) → Below 256 s → (k r : ℕ) (s' : List ℕ) → Unpermutes s k r s' → (r' : ℕ) (s'' : List ℕ) → Permutes s' k r' s'' → (r' ≡ r) × (s'' ≡ s)
c-redone s b k r s' p r' s'' q =
    let z = back unpermute permute s k (length-unpermute k s) (λ e. rounds-redone k s (omega (arith, (allowed (length s) k e).1)) b) (judged (length s) k)
    refl in
    (q.0 ∙ ap (λ (t : List ℕ). permute_number (length t) k) p.1 ∙ z.0 ∙ sym p.0, q.1 ∙ ap (λ (t : List ℕ). permute_state permute t k) p.1 ∙ z.1)
