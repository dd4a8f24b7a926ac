-- Bytes by their type: what a `&[u8]` that is passed holds is below 256. `given-is-written` and `open-exactly` (ingage_answers/specs/Exactly.antt) ask it
-- of lists of numbers, which do not say it. Whoever calls `read` or `open` has it of the arguments: it follows from what there is on entry by the
-- call's signature alone, and nothing of that is lost. Assumes nothing.
use Rattle.std.specs.Prelude.{List, [], ◌∷◌, ℕ, length}
use seplogic.Ra.Ura.{Ura}
use mir.Syntax.{Lifetime, named, w8}
use mir.Val.{Val}
use base.Logic.{ent, sep, guard}
use base.Fml.{Lft, Share, ftrue, flft}
use types.Logic.{Logic, sem}
use contract.Lifetimes.{Lfts}
use types.Kit.{Item, ‵, ◌⊛◌, given, later, ◌$◌, !, qed, move, learn, check}
use types.Kit.{use2, split, join, fsplit, fjoin, feq_l, feq_i, await, updating, now as at_once, done}
use borrow.Table.Referent.{f_int}
use borrow.Rule.Slice.Know.{AllWt, shs_known}
use borrow.Rule.Slice.Shared.{OwnH}
use Rattle.std.specs.Borrow.{u8, usize, Bor}
use denote.RattleType.{owns}
use denote.Slice.{slice_val, ShrSlice, MutSlice}
use denote.Triple.Entry.{Args, Vals, on_entry}
use Rattle.base_lists.specs.Below.{Below}
use Rattle.ingage_answers.specs.Exactly.{Bytes}
use Rattle.ingage_call.specs.contracts.«open» as opens
use Rattle.read_call.specs.contracts.Asked as Q
use Rattle.read_call.specs.contracts.read as reads

-- well typed entries are bytes
typed-below : (xs : List ℕ) → AllWt (f_int w8) xs → Below 256 xs
typed-below [] a = tt
typed-below (x ∷ xs) a = (a.0.fits, typed-below xs a.1)

module _ {M : Type 1} {𝓤 : Ura M} (𝓛 : Logic 𝓤) where
  -- what a `&[u8]` owns, with a token of its lifetime, is kept, and its elements are bytes
  open 𝓛 use {H, A}

  pub slice-bytes : (ℓ : Lifetime) (κ : Lft) (q : Share) (x : Bor (List ℕ)) (vs : List Val)
      → ent 𝓤 (sep 𝓤 (sem 𝓛 ((ShrSlice ℓ κ u8).own_val x vs)) (A.lft κ q))
      (H.⇛ (guard 𝓤 (Below 256 x.now) (sep 𝓤 (sem 𝓛 ((ShrSlice ℓ κ u8).own_val x vs)) (A.lft κ q))))
  slice-bytes ℓ κ q x vs =
      let v = slice_val x.ref_ptr (length x.now) in
      qed 𝓛 (‵ ((ShrSlice ℓ κ u8).own_val x vs) ∷ ‵ (flft κ q) ∷ []) {P = H.⇛ (guard 𝓤 (Below 256 x.now)
      (sep 𝓤 (sem 𝓛 ((ShrSlice ℓ κ u8).own_val x vs)) (A.lft κ q)))} (
      updating ! $ fsplit ! $ fsplit ! $ feq_l ! (λ e. fjoin ! $
      use2 𝓛 (later (given (AllWt (f_int w8) x.now) (‵ (OwnH 𝓛 (f_int w8) κ q x.ref_ptr.0 x.ref_ptr.1 x.now) ⊛ ‵ (flft κ q))))
      (shs_known 𝓛 (f_int w8) κ q x.ref_ptr.0 x.ref_ptr.1 x.now) $ await ! tt $ learn !
      (λ a. split ! $ at_once ! $ check ! (typed-below x.now a) $
      fsplit ! $ feq_i ! (List Val) vs (v ∷ []) e $ fjoin ! $ fjoin ! $ done !)))

  -- the stream that `read` is passed
  module _ (κ₀ κ₁ κ₂ κ₃ : Lft) (q₀ q₁ q₂ q₃ : Share) (a : Args reads.signature (κ₀, (κ₁, (κ₂, (κ₃, tt)))))
      (vss : Vals reads.signature (κ₀, (κ₁, (κ₂, (κ₃, tt))))) where
    abbrev others : Item 𝓤
    others = ‵ (flft κ₁ q₁) ⊛ ‵ (flft κ₂ q₂) ⊛ ‵ (flft κ₃ q₃) ⊛ ‵ ftrue

    pub read-bytes : ent 𝓤 (on_entry 𝓛 reads.signature (κ₀, (κ₁, (κ₂, (κ₃, tt)))) (q₀, (q₁, (q₂, (q₃, tt)))) a vss)
        (H.⇛ (guard 𝓤 (Below 256 a.0.now) (on_entry 𝓛 reads.signature (κ₀, (κ₁, (κ₂, (κ₃, tt)))) (q₀, (q₁, (q₂, (q₃, tt)))) a vss)))
    read-bytes =
        qed 𝓛 ((‵ (flft κ₀ q₀) ⊛ others) ∷ ‵ (owns (ShrSlice (named 0) κ₀ u8 ∷ usize ∷ ShrSlice (named 1) κ₁ u8 ∷ ShrSlice (named 2) κ₂ u8 ∷ Q.the_row ∷
        MutSlice (named 3) κ₃ u8 ∷ []) a vss) ∷ [])
        {P = H.⇛ (guard 𝓤 (Below 256 a.0.now) (on_entry 𝓛 reads.signature (κ₀, (κ₁, (κ₂, (κ₃, tt)))) (q₀, (q₁, (q₂, (q₃, tt)))) a vss))} (
        updating ! $ split ! $ move ! (2 ∷ []) $ fsplit ! $ move ! (0 ∷ 2 ∷ []) $
        use2 𝓛 (later (given (Below 256 a.0.now) (‵ ((ShrSlice (named 0) κ₀ u8).own_val a.0 vss.0) ⊛ ‵ (flft κ₀ q₀))))
        (slice-bytes (named 0) κ₀ q₀ a.0 vss.0) $ await ! tt $ learn ! (λ b.
        split ! $ at_once ! $ check ! b $ move ! (0 ∷ 2 ∷ []) $ fjoin ! $ move ! (1 ∷ 2 ∷ []) $ join ! $ done !))

  -- key, nonce, associated data, ciphertext and seal that `open` is passed behind the instance
  module _ (κ₀ κ₁ κ₂ κ₃ κ₄ κ₅ : Lft) (q₀ q₁ q₂ q₃ q₄ q₅ : Share) (a : Args opens.signature (κ₀, (κ₁, (κ₂, (κ₃, (κ₄, (κ₅, tt)))))))
      (vss : Vals opens.signature (κ₀, (κ₁, (κ₂, (κ₃, (κ₄, (κ₅, tt))))))) where
    abbrev κs : Lfts 6
    κs = (κ₀, (κ₁, (κ₂, (κ₃, (κ₄, (κ₅, tt))))))

    abbrev Passed : Type 0
    Passed = Bytes a.1.0.now a.1.1.0.now a.1.1.1.0.now a.1.1.1.1.0.now a.1.1.1.1.1.0.now

    pub open-bytes : ent 𝓤 (on_entry 𝓛 opens.signature κs (q₀, (q₁, (q₂, (q₃, (q₄, (q₅, tt)))))) a vss)
        (H.⇛ (guard 𝓤 Passed (on_entry 𝓛 opens.signature κs (q₀, (q₁, (q₂, (q₃, (q₄, (q₅, tt)))))) a vss)))
    open-bytes =
        qed 𝓛 ((‵ (flft κ₀ q₀) ⊛ ‵ (flft κ₁ q₁) ⊛ ‵ (flft κ₂ q₂) ⊛ ‵ (flft κ₃ q₃) ⊛ ‵ (flft κ₄ q₄) ⊛ ‵ (flft κ₅ q₅) ⊛ ‵ ftrue)
        ∷ ‵ (owns (usize ∷ ShrSlice (named 0) κ₀ u8 ∷ ShrSlice (named 1) κ₁ u8 ∷ ShrSlice (named 2) κ₂ u8 ∷ ShrSlice (named 3) κ₃ u8 ∷ ShrSlice (named 4) κ₄ u8
        ∷ MutSlice (named 5) κ₅ u8 ∷ []) a vss) ∷ [])
        {P = H.⇛ (guard 𝓤 Passed (on_entry 𝓛 opens.signature κs (q₀, (q₁, (q₂, (q₃, (q₄, (q₅, tt)))))) a vss))} (
        updating ! $ split ! $ move ! (1 ∷ []) $ split ! $ move ! (1 ∷ []) $ split ! $ move ! (1 ∷ []) $ split ! $ move ! (1 ∷ []) $ split ! $
        -- [4's token; 5's; 3's; 2's; 1's; 0's; what the parameters own]: the instance goes last and stays there, and then each `&[u8]` with its token
        move ! (6 ∷ []) $ fsplit ! $ move ! (1 ∷ 2 ∷ 3 ∷ 4 ∷ 5 ∷ 6 ∷ 7 ∷ []) $ fsplit ! $ move ! (0 ∷ 7 ∷ []) $
        use2 𝓛 (later (given (Below 256 a.1.0.now) (‵ ((ShrSlice (named 0) κ₀ u8).own_val a.1.0 vss.1.0) ⊛ ‵ (flft κ₀ q₀))))
        (slice-bytes (named 0) κ₀ q₀ a.1.0 vss.1.0) $ await ! tt $ learn ! (λ b₀. split ! $
        -- [0; its token; what the others own; 4's; 5's; 3's; 2's; 1's]
        move ! (2 ∷ []) $ fsplit ! $ move ! (0 ∷ 8 ∷ []) $
        use2 𝓛 (later (given (Below 256 a.1.1.0.now) (‵ ((ShrSlice (named 1) κ₁ u8).own_val a.1.1.0 vss.1.1.0) ⊛ ‵ (flft κ₁ q₁))))
        (slice-bytes (named 1) κ₁ q₁ a.1.1.0 vss.1.1.0) $ await ! tt $ learn ! (λ b₁. split ! $
        -- [1; its token; what the others own; 0; its token; 4's; 5's; 3's; 2's]
        move ! (2 ∷ []) $ fsplit ! $ move ! (0 ∷ 9 ∷ []) $
        use2 𝓛 (later (given (Below 256 a.1.1.1.0.now) (‵ ((ShrSlice (named 2) κ₂ u8).own_val a.1.1.1.0 vss.1.1.1.0) ⊛ ‵ (flft κ₂ q₂))))
        (slice-bytes (named 2) κ₂ q₂ a.1.1.1.0 vss.1.1.1.0) $ await ! tt $ learn ! (λ b₂. split ! $
        -- [2; its token; what the others own; 1; its token; 0; its token; 4's; 5's; 3's]
        move ! (2 ∷ []) $ fsplit ! $ move ! (0 ∷ 10 ∷ []) $
        use2 𝓛 (later (given (Below 256 a.1.1.1.1.0.now) (‵ ((ShrSlice (named 3) κ₃ u8).own_val a.1.1.1.1.0 vss.1.1.1.1.0) ⊛ ‵
        (flft κ₃ q₃)))) (slice-bytes (named 3) κ₃ q₃ a.1.1.1.1.0 vss.1.1.1.1.0) $ await ! tt $ learn ! (λ b₃. split ! $
        -- [3; its token; what the others own; 2; its token; 1; its token; 0; its token; 4's; 5's]
        move ! (2 ∷ []) $ fsplit ! $ move ! (0 ∷ 10 ∷ []) $
        use2 𝓛 (later (given (Below 256 a.1.1.1.1.1.0.now) (‵ ((ShrSlice (named 4) κ₄ u8).own_val a.1.1.1.1.1.0 vss.1.1.1.1.1.0) ⊛ ‵
        (flft κ₄ q₄)))) (slice-bytes (named 4) κ₄ q₄ a.1.1.1.1.1.0 vss.1.1.1.1.1.0) $ await ! tt $ learn ! (λ b₄. split ! $
        -- [4; its token; what the last owns; 3; its token; 2; its token; 1; its token; 0; its token; 5's]: all as it was
        at_once ! $ check ! (record { key-bytes = b₀; nonce-bytes = b₁; associated-bytes = b₂; cipher-bytes = b₃; seal-bytes = b₄ }) $
        move ! (0 ∷ 2 ∷ []) $ fjoin ! $ move ! (2 ∷ 0 ∷ []) $ fjoin ! $ move ! (3 ∷ 0 ∷ []) $ fjoin ! $ move ! (4 ∷ 0 ∷ []) $ fjoin ! $ move ! (5 ∷ 0 ∷ []) $
        fjoin ! $
        -- [what the slices own; 4's; 3's; 2's; 1's; 0's; 5's; the instance], and then [what the parameters own; 4's; 3's; 2's; 1's; 0's; 5's]
        move ! (7 ∷ 0 ∷ []) $ fjoin ! $
        move ! (1 ∷ 6 ∷ []) $ join ! $ move ! (2 ∷ 0 ∷ []) $ join ! $ move ! (2 ∷ 0 ∷ []) $ join ! $ move ! (2 ∷ 0 ∷ []) $ join ! $ move ! (2 ∷ 0 ∷ []) $ join
        ! $ done !))))))
