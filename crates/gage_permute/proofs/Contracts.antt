-- The inverse laws over the calls: at every permitted size and every count of rounds `unpermute` of what `permute` gave is the state that
-- `permute` took, and the other way round, whatever the two proved calls give. Stated over their contracts as the check reads them (`Post`). That a state has
-- 72 bytes is no premise on top: owning an array of them says so (`GoodsP`, which the check tells a function of its arguments). Assumes nothing.
use Rattle.std.specs.Prelude.{Ok}
use mathlib.Core.Path.{◌≡◌, ap, ◌∙◌}
use mathlib.Core.List.{List}
use Prim.Native.Nat.{ℕ, ◌≤◌}
use native.Mathlib.Omega.{arith}
use lib.ListN.{length, take}
use lib.Seq.{length-take-le}
use mir.Syntax.{w8}
use mir.Val.{Val}
use denote.Plain.{UInt}
use denote.Array.{Array}
use denote.Laws.{Is}
use contract.Lifetimes.{Lfts}
use denote.Triple.Clauses.{AtExit}
use borrow.Kind.Array.{e_int, good_length}
use borrow.Fn.Kinds.{Dens, GoodsP, ended_of}
use Rattle.base_lists.specs.Below.{Below, below-take}
use Rattle.gage_shuffle.specs.Sizes.{SMALLEST}
use Rattle.gage_spec.specs.declared.Permuted.{Permuted}
use Rattle.gage_spec.specs.Permutation.{LARGEST, judged, permute, unpermute, answered}
use Rattle.gage_spec.specs.States.{length-permute, length-unpermute}
use Rattle.gage_spec.specs.Inverse.{rounds-undone, rounds-redone}
use Rattle.gage_spec.specs.Answers.{answered-back}
use Rattle.gage_planes_spec.specs.Sizes.{allowed}
use Rattle.gage_weave.specs.Arrays.{array-bytes}
use Rattle.gage_permute.proofs.permute.Kinds as permute-kinds
use Rattle.gage_permute.proofs.permute.Reads as permute-reads
use Rattle.gage_permute.proofs.unpermute.Kinds as unpermute-kinds
use Rattle.gage_permute.proofs.unpermute.Reads as unpermute-reads

-- a state's first n bytes, where n is permitted and k a count of rounds
module _ (s : List ℕ) (n k : ℕ) (vs : List Val) (state : Is (Array (UInt w8) LARGEST) s vs) (h : judged n k ≡ Ok tt) where
  fits : n ≤ length s
  fits = let l : length s ≡ LARGEST = good_length (e_int w8) LARGEST s vs state in omega (arith, (allowed n k h).2)

  wide : SMALLEST ≤ length (take n s)
  wide = let l : length (take n s) ≡ n = length-take-le n s fits in omega (arith, (allowed n k h).1)

  bytes : Below 256 (take n s)
  bytes = below-take 256 n s (array-bytes LARGEST s vs state)

  undone : answered unpermute (answered permute s n k).state n k ≡ record { answer = Ok tt; state = s }
  undone = answered-back permute unpermute s n k h fits (length-permute k (take n s)) (rounds-undone k (take n s) wide bytes)

  redone : answered permute (answered unpermute s n k).state n k ≡ record { answer = Ok tt; state = s }
  redone = answered-back unpermute permute s n k h fits (length-unpermute k (take n s)) (rounds-redone k (take n s) wide bytes)

-- permute gave p; unpermute was called with its state, the same size and the same count of rounds, and gave q
pub permute-undone : (κs : Lfts 0) (a : Dens κs permute-kinds.ps) (p : Permuted) (x : AtExit (ended_of 0 permute-kinds.ps permute-kinds.r) κs)
    → GoodsP κs permute-kinds.ps a → judged a.1.0 a.1.1.0 ≡ Ok tt → permute-reads.Post κs a p x
    → (q : Permuted) (y : AtExit (ended_of 0 unpermute-kinds.ps unpermute-kinds.r) κs)
    → unpermute-reads.Post κs (p.state, a.1) q y → q ≡ record { answer = Ok tt; state = a.0 }
permute-undone κs a p x good h given q y back =
    back ∙ ap (λ (r : Permuted). answered unpermute r.state a.1.0 a.1.1.0) given ∙ undone a.0 a.1.0 a.1.1.0 _ good.0 h

-- unpermute gave p; permute was called with its state, the same size and the same count of rounds, and gave q
pub unpermute-undone : (κs : Lfts 0) (a : Dens κs unpermute-kinds.ps) (p : Permuted) (x : AtExit (ended_of 0 unpermute-kinds.ps unpermute-kinds.r) κs)
    → GoodsP κs unpermute-kinds.ps a → judged a.1.0 a.1.1.0 ≡ Ok tt → unpermute-reads.Post κs a p x
    → (q : Permuted) (y : AtExit (ended_of 0 permute-kinds.ps permute-kinds.r) κs)
    → permute-reads.Post κs (p.state, a.1) q y → q ≡ record { answer = Ok tt; state = a.0 }
unpermute-undone κs a p x good h given q y back =
    back ∙ ap (λ (r : Permuted). answered permute r.state a.1.0 a.1.1.0) given ∙ redone a.0 a.1.0 a.1.1.0 _ good.0 h
