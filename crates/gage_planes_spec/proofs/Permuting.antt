-- What each form of the rounds on planes makes of a state in planes is `permuted`, and a permuted state tells the permutation's bytes. Assumes nothing.
use Rattle.std.specs.Prelude.{◌≡◌, ℕ, ◌+◌, ◌-◌, ◌^◌, ◌≤◌, length, Ok}
use Rattle.std.proofs.Common.{sym, ◌∙◌, arith}
use Rattle.std.proofs.Math.Path.{ap}
use Rattle.base_lists.specs.Below.{Below, below_all}
use Rattle.gage_spec.specs.Permutation.{permute, judged, after}
use Rattle.gage_spec.specs.States.{length-permute, permute-below}
use Rattle.base_digits.specs.Held.{WORD}
use Rattle.gage_planes_spec.specs.declared.Planes.{Planes}
use Rattle.gage_planes_spec.specs.declared.State.{State}
use Rattle.gage_planes_spec.specs.declared.Windows.{Windows}
use Rattle.gage_planes_spec.specs.Planes.{cut, second_of, rejoined}
use Rattle.gage_planes_spec.specs.Told.{LOW, ROOM, told, state_of}
use Rattle.gage_planes_spec.specs.Bytes.{woven-told, length-told, told_below, told-state}
use Rattle.gage_planes_spec.specs.Exact.{state-exact, woven-holds}
use Rattle.gage_planes_spec.specs.Windows.{HoldBoth}
use Rattle.gage_planes_spec.proofs.WindowsLaws.{second_holds, rejoined-exact}
use Rattle.gage_planes_spec.specs.Rounds.{permuted, Permuted, PermutedBoth}

-- a state told is bytes
pub told-bytes : (n : ℕ) (t : State) → Below 256 (told n t)
told-bytes n t = below_all 256 (told n t) (λ k h. told_below n t k (omega (arith, length-told n t)))

module _ (n k : ℕ) (t : State) (is : judged n k ≡ Ok tt) where
  done : permuted n k t ≡ state_of (permute k (told n t))
  unfolding permuted
  done = ap (λ a. after a (state_of (permute k (told n t))) t) is

  -- what callers cite
  pub told-permuted : n ≤ ROOM → told n (permuted n k t) ≡ permute k (told n t)
  told-permuted room =
      ap (told n) done
      ∙ told-state n (permute k (told n t)) room (length-permute k (told n t) ∙ length-told n t) (permute-below k (told n t) (told-bytes n t))

  -- planes of one number
  pub one-permuted : {r : Planes} {m : ℕ} → n ≤ LOW → m ≡ 2 ^ n - 1 → Permuted n k t.low r
      → ◌≡◌ {A = State} (record { low = cut r m; rest = 0 }) (permuted n k t)
  one-permuted {r} fits e a =
      rw e
      (state-exact n (permute k (told n t)) (length-permute k (told n t) ∙ length-told n t) fits
      (a.each (told n t) (length-told n t) (told-bytes n t) (woven-holds n (told n t) (length-told n t) n t (omega arith) fits (woven-told n t)))
      ∙ sym done)

  -- two windows
  pub both-permuted : {w r : Windows} {m : ℕ} (h : ℕ) → n ≡ h + h → WORD ≤ h + h → h + h ≤ ROOM → m ≡ 2 ^ h - 1
      → w ≡ record { first = t.low; second = second_of t h }
      → PermutedBoth h k w r → rejoined r m h ≡ permuted n k t
  both-permuted {w} {r} h twice wide room e f a =
      let long : length (told n t) ≡ h + h = length-told n t ∙ twice in
      let held : HoldBoth h h w (told n t) =
      rw f
      (record {
        front = woven-holds (h + h) (told n t) long h t (omega arith) (omega arith) (rw twice (woven-told (h + h) t));
        back = second_holds h (told n t) t long wide room (rw twice (woven-told (h + h) t));
      }) in
      rw e (rejoined-exact h (permute k (told n t)) r (length-permute k (told n t) ∙ long) wide room (omega arith)
      (a.each (told n t) long (told-bytes n t) held)) ∙ sym done
