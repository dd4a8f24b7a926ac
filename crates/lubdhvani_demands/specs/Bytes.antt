-- Bytes by their type: what a `&[u8]` or a `&mut [u8]` that an exported call is passed holds is below 256. The theorems beside this ask it of lists of
-- numbers, which do not say it; whoever calls has it of the arguments, from what there is on entry by the call's signature alone, and nothing of that is
-- lost. Assumes nothing.
use Rattle.std.specs.Prelude.{List, [], ◌∷◌, ℕ, length}
use seplogic.Ra.Ura.{Ura}
use mir.Syntax.{Lifetime, named, w8}
use mir.Val.{Val}
use base.Logic.{ent, sep, guard}
use base.Fml.{Lft, Share, ftrue, flft}
use types.Logic.{Logic, sem}
use contract.Lifetimes.{Lfts}
use types.Kit.{Item, ‵, ◌⊛◌, ⋆, given, later, ◌$◌, !, qed, move, learn}
use types.Kit.{check, use2, split, join, fsplit, fjoin, feq_l, feq_i, await, updating, now as at_once, done}
use borrow.Table.Referent.{f_int}
use borrow.Rule.Slice.Know.{AllWt, sl_known}
use borrow.Rule.Slice.Element.{OwnS}
use Rattle.std.specs.Borrow.{u8, usize, Bor, MutBor}
use denote.RattleType.{RattleType, Denots, Valss, owns}
use denote.Slice.{slice_val, ShrSlice, MutSlice}
use denote.Triple.Entry.{Args, Vals, on_entry}
use Rattle.base_lists.specs.Below.{Below}
use Rattle.ingage_answers.specs.Exactly.{Bytes}
use Rattle.demand_reading.specs.Bytes.{slice-bytes, open-bytes}
use Rattle.lubdhvani.specs.contracts.read.Asked as Q
use Rattle.lubdhvani.specs.contracts.gage.lubdhvani_permute as permutes
use Rattle.lubdhvani.specs.contracts.gage.lubdhvani_unpermute as unpermutes
use Rattle.lubdhvani.specs.contracts.ingage.lubdhvani_open as opens
use Rattle.lubdhvani.specs.contracts.frame.lubdhvani_write as writes
use Rattle.lubdhvani.specs.contracts.frame.lubdhvani_write_two as writes-two
use Rattle.lubdhvani.specs.contracts.read.lubdhvani_read as reads
use Rattle.lubdhvani.specs.contracts.convert.lubdhvani_to_one as to_one
use Rattle.lubdhvani.specs.contracts.convert.lubdhvani_to_two as to-two

-- well typed entries are bytes
bytes_of : (xs : List ℕ) → AllWt (f_int w8) xs → Below 256 xs
bytes_of [] a = tt
bytes_of (x ∷ xs) a = (a.0.fits, bytes_of xs a.1)

module _ {M : Type 1} {𝓤 : Ura M} (𝓛 : Logic 𝓤) where
  -- what a `&mut [u8]` owns, with a token of its lifetime, is kept, and its elements are bytes
  open 𝓛 use {H, A}

  pub mut-slice-bytes : (ℓ : Lifetime) (κ : Lft) (q : Share) (x : MutBor (List ℕ)) (vs : List Val)
      → ent 𝓤 (sep 𝓤 (sem 𝓛 ((MutSlice ℓ κ u8).own_val x vs)) (A.lft κ q))
      (H.⇛ (guard 𝓤 (Below 256 x.now) (sep 𝓤 (sem 𝓛 ((MutSlice ℓ κ u8).own_val x vs)) (A.lft κ q))))
  mut-slice-bytes ℓ κ q x vs =
      let v = slice_val x.ref_ptr (length x.now) in
      qed 𝓛 (‵ ((MutSlice ℓ κ u8).own_val x vs) ∷ ‵ (flft κ q) ∷ []) {P = H.⇛ (guard 𝓤 (Below 256 x.now)
      (sep 𝓤 (sem 𝓛 ((MutSlice ℓ κ u8).own_val x vs)) (A.lft κ q)))} (
      updating ! $ fsplit ! $ fsplit ! $ feq_l ! (λ e. fjoin ! $
      use2 𝓛 (later (given (AllWt (f_int w8) x.now) (‵ (OwnS 𝓛 u8 κ q x.ref_ptr.0 x.ref_ptr.1 x.ghost_name x.now) ⊛ ‵ (flft κ q))))
      (sl_known 𝓛 (f_int w8) κ q x.ref_ptr.0 x.ref_ptr.1 x.ghost_name x.now) $ await ! tt $ learn !
      (λ a. split ! $ at_once ! $ check ! (bytes_of x.now a) $
      fsplit ! $ feq_i ! (List Val) vs (v ∷ []) e $ fjoin ! $ fjoin ! $ done !)))

  -- of a call whose first parameter is a `&[u8]`, whatever the others are
  module _ (κ : Lft) (q : Share) (others : Item 𝓤) (Ts : List RattleType) (x : Bor (List ℕ)) (y : Denots Ts) (vs : List Val) (ws : Valss Ts) where
    first-bytes : ent 𝓤 (⋆ 𝓛 ((‵ (flft κ q) ⊛ others) ∷ ‵ (owns (ShrSlice (named 0) κ u8 ∷ Ts) (x, y) (vs, ws)) ∷ []))
        (H.⇛ (guard 𝓤 (Below 256 x.now) (⋆ 𝓛 ((‵ (flft κ q) ⊛ others) ∷ ‵ (owns (ShrSlice (named 0) κ u8 ∷ Ts) (x, y) (vs, ws)) ∷ []))))
    first-bytes =
        qed 𝓛 ((‵ (flft κ q) ⊛ others) ∷ ‵ (owns (ShrSlice (named 0) κ u8 ∷ Ts) (x, y) (vs, ws)) ∷ [])
        {P = H.⇛ (guard 𝓤 (Below 256 x.now) (⋆ 𝓛 ((‵ (flft κ q) ⊛ others) ∷ ‵ (owns (ShrSlice (named 0) κ u8 ∷ Ts) (x, y) (vs, ws)) ∷ [])))} (
        updating ! $ split ! $ move ! (2 ∷ []) $ fsplit ! $ move ! (0 ∷ 2 ∷ []) $
        use2 𝓛 (later (given (Below 256 x.now) (‵ ((ShrSlice (named 0) κ u8).own_val x vs) ⊛ ‵ (flft κ q)))) (slice-bytes 𝓛 (named 0) κ q x vs) $ await ! tt
        $ learn ! (λ b.
        split ! $ at_once ! $ check ! b $ move ! (0 ∷ 2 ∷ []) $ fjoin ! $ move ! (1 ∷ 2 ∷ []) $ join ! $ done !))

  -- and of one whose first is a `&mut [u8]`
  module _ (κ : Lft) (q : Share) (others : Item 𝓤) (Ts : List RattleType) (x : MutBor (List ℕ)) (y : Denots Ts) (vs : List Val) (ws : Valss Ts) where
    first-mut-bytes : ent 𝓤 (⋆ 𝓛 ((‵ (flft κ q) ⊛ others) ∷ ‵ (owns (MutSlice (named 0) κ u8 ∷ Ts) (x, y) (vs, ws)) ∷ []))
        (H.⇛ (guard 𝓤 (Below 256 x.now) (⋆ 𝓛 ((‵ (flft κ q) ⊛ others) ∷ ‵ (owns (MutSlice (named 0) κ u8 ∷ Ts) (x, y) (vs, ws)) ∷ []))))
    first-mut-bytes =
        qed 𝓛 ((‵ (flft κ q) ⊛ others) ∷ ‵ (owns (MutSlice (named 0) κ u8 ∷ Ts) (x, y) (vs, ws)) ∷ [])
        {P = H.⇛ (guard 𝓤 (Below 256 x.now) (⋆ 𝓛 ((‵ (flft κ q) ⊛ others) ∷ ‵ (owns (MutSlice (named 0) κ u8 ∷ Ts) (x, y) (vs, ws)) ∷ [])))} (
        updating ! $ split ! $ move ! (2 ∷ []) $ fsplit ! $ move ! (0 ∷ 2 ∷ []) $
        use2 𝓛 (later (given (Below 256 x.now) (‵ ((MutSlice (named 0) κ u8).own_val x vs) ⊛ ‵ (flft κ q)))) (mut-slice-bytes (named 0) κ q x vs) $ await ! tt $
        learn ! (λ b.
        split ! $ at_once ! $ check ! b $ move ! (0 ∷ 2 ∷ []) $ fjoin ! $ move ! (1 ∷ 2 ∷ []) $ join ! $ done !))

  -- of one whose second parameter is a `&[u8]`
  module _ (κ κ₁ : Lft) (q q₁ : Share) (others : Item 𝓤) (T : RattleType) (Ts : List RattleType) (k : T.Denot) (x : Bor (List ℕ)) (y : Denots Ts)
      (us vs : List Val) (ws : Valss Ts) where
    second-bytes : ent 𝓤 (⋆ 𝓛 ((‵ (flft κ q) ⊛ ‵ (flft κ₁ q₁) ⊛ others) ∷ ‵ (owns (T ∷ ShrSlice (named 1) κ₁ u8 ∷ Ts) (k, (x, y)) (us, (vs, ws))) ∷ []))
        (H.⇛ (guard 𝓤 (Below 256 x.now) (⋆ 𝓛 ((‵ (flft κ q) ⊛ ‵ (flft κ₁ q₁) ⊛ others) ∷ ‵
        (owns (T ∷ ShrSlice (named 1) κ₁ u8 ∷ Ts) (k, (x, y)) (us, (vs, ws))) ∷ []))))
    second-bytes =
        qed 𝓛 ((‵ (flft κ q) ⊛ ‵ (flft κ₁ q₁) ⊛ others) ∷ ‵ (owns (T ∷ ShrSlice (named 1) κ₁ u8 ∷ Ts) (k, (x, y)) (us, (vs, ws))) ∷ [])
        {P = H.⇛ (guard 𝓤 (Below 256 x.now) (⋆ 𝓛 ((‵ (flft κ q) ⊛ ‵ (flft κ₁ q₁) ⊛ others) ∷ ‵
        (owns (T ∷ ShrSlice (named 1) κ₁ u8 ∷ Ts) (k, (x, y)) (us, (vs, ws))) ∷ [])))} (
        updating ! $ split ! $ move ! (1 ∷ []) $ split ! $ move ! (3 ∷ []) $ fsplit ! $ move ! (1 ∷ []) $ fsplit ! $
        -- [what the second owns; what the rest owns; what the first owns; the second's token; the others'; the first's]
        move ! (0 ∷ 3 ∷ []) $
        use2 𝓛 (later (given (Below 256 x.now) (‵ ((ShrSlice (named 1) κ₁ u8).own_val x vs) ⊛ ‵ (flft κ₁ q₁)))) (slice-bytes 𝓛 (named 1) κ₁ q₁ x vs) $ await
        ! tt $ learn ! (λ b.
        split ! $ at_once ! $ check ! b $ move ! (0 ∷ 2 ∷ []) $ fjoin ! $ move ! (2 ∷ 0 ∷ []) $ fjoin ! $
        -- [what the parameters own; the second's token; the others'; the first's]
        move ! (1 ∷ 2 ∷ []) $ join ! $ move ! (2 ∷ 0 ∷ []) $ join ! $ done !))

  -- the state that `lubdhvani_permute` and `lubdhvani_unpermute` are passed
  pub permute-bytes : (κ : Lft) (q : Share) (a : Args permutes.signature (κ, tt)) (vss : Vals permutes.signature (κ, tt))
      → ent 𝓤 (on_entry 𝓛 permutes.signature (κ, tt) (q, tt) a vss)
      (H.⇛ (guard 𝓤 (Below 256 a.0.now) (on_entry 𝓛 permutes.signature (κ, tt) (q, tt) a vss)))
  permute-bytes κ q a vss = first-mut-bytes κ q (‵ ftrue) (usize ∷ []) a.0 a.1 vss.0 vss.1

  pub unpermute-bytes : (κ : Lft) (q : Share) (a : Args unpermutes.signature (κ, tt)) (vss : Vals unpermutes.signature (κ, tt))
      → ent 𝓤 (on_entry 𝓛 unpermutes.signature (κ, tt) (q, tt) a vss)
      (H.⇛ (guard 𝓤 (Below 256 a.0.now) (on_entry 𝓛 unpermutes.signature (κ, tt) (q, tt) a vss)))
  unpermute-bytes κ q a vss = first-mut-bytes κ q (‵ ftrue) (usize ∷ []) a.0 a.1 vss.0 vss.1

  -- the stream that `lubdhvani_read` is passed
  module _ (κ₀ κ₁ κ₂ κ₃ : Lft) (q₀ q₁ q₂ q₃ : Share) (a : Args reads.signature (κ₀, (κ₁, (κ₂, (κ₃, tt)))))
      (vss : Vals reads.signature (κ₀, (κ₁, (κ₂, (κ₃, tt))))) where
    pub c-read-bytes : ent 𝓤 (on_entry 𝓛 reads.signature (κ₀, (κ₁, (κ₂, (κ₃, tt)))) (q₀, (q₁, (q₂, (q₃, tt)))) a vss)
        (H.⇛ (guard 𝓤 (Below 256 a.0.now) (on_entry 𝓛 reads.signature (κ₀, (κ₁, (κ₂, (κ₃, tt)))) (q₀, (q₁, (q₂, (q₃, tt)))) a vss)))
    c-read-bytes =
        first-bytes κ₀ q₀ (‵ (flft κ₁ q₁) ⊛ ‵ (flft κ₂ q₂) ⊛ ‵ (flft κ₃ q₃) ⊛ ‵ ftrue)
        (usize ∷ ShrSlice (named 1) κ₁ u8 ∷ ShrSlice (named 2) κ₂ u8 ∷ Q.the_row ∷ MutSlice (named 3) κ₃ u8 ∷ []) a.0 a.1 vss.0 vss.1

  -- the stretch that the converter's calls are passed
  module _ (κ₀ κ₁ κ₂ κ₃ κ₄ : Lft) (q₀ q₁ q₂ q₃ q₄ : Share) (a : Args to_one.signature (κ₀, (κ₁, (κ₂, (κ₃, (κ₄, tt))))))
      (vss : Vals to_one.signature (κ₀, (κ₁, (κ₂, (κ₃, (κ₄, tt)))))) where
    pub to-one-bytes : ent 𝓤 (on_entry 𝓛 to_one.signature (κ₀, (κ₁, (κ₂, (κ₃, (κ₄, tt))))) (q₀, (q₁, (q₂, (q₃, (q₄, tt))))) a vss)
        (H.⇛ (guard 𝓤 (Below 256 a.0.now) (on_entry 𝓛 to_one.signature (κ₀, (κ₁, (κ₂, (κ₃, (κ₄, tt))))) (q₀, (q₁, (q₂, (q₃, (q₄, tt))))) a vss)))
    to-one-bytes =
        first-bytes κ₀ q₀ (‵ (flft κ₁ q₁) ⊛ ‵ (flft κ₂ q₂) ⊛ ‵ (flft κ₃ q₃) ⊛ ‵ (flft κ₄ q₄) ⊛ ‵ ftrue)
        (ShrSlice (named 1) κ₁ u8 ∷ ShrSlice (named 2) κ₂ u8 ∷ usize ∷ ShrSlice (named 3) κ₃ u8 ∷ MutSlice (named 4) κ₄ u8 ∷ []) a.0 a.1 vss.0 vss.1

  module _ (κ₀ κ₁ κ₂ κ₃ κ₄ κ₅ : Lft) (q₀ q₁ q₂ q₃ q₄ q₅ : Share) (a : Args to-two.signature (κ₀, (κ₁, (κ₂, (κ₃, (κ₄, (κ₅, tt)))))))
      (vss : Vals to-two.signature (κ₀, (κ₁, (κ₂, (κ₃, (κ₄, (κ₅, tt))))))) where
    pub to-two-bytes : ent 𝓤 (on_entry 𝓛 to-two.signature (κ₀, (κ₁, (κ₂, (κ₃, (κ₄, (κ₅, tt)))))) (q₀, (q₁, (q₂, (q₃, (q₄, (q₅, tt)))))) a vss)
        (H.⇛ (guard 𝓤 (Below 256 a.0.now) (on_entry 𝓛 to-two.signature (κ₀, (κ₁, (κ₂, (κ₃, (κ₄, (κ₅, tt)))))) (q₀, (q₁, (q₂, (q₃, (q₄, (q₅, tt)))))) a
        vss)))
    to-two-bytes =
        first-bytes κ₀ q₀ (‵ (flft κ₁ q₁) ⊛ ‵ (flft κ₂ q₂) ⊛ ‵ (flft κ₃ q₃) ⊛ ‵ (flft κ₄ q₄) ⊛ ‵ (flft κ₅ q₅) ⊛ ‵ ftrue)
        (ShrSlice (named 1) κ₁ u8 ∷ ShrSlice (named 2) κ₂ u8 ∷ usize ∷ ShrSlice (named 3) κ₃ u8 ∷ ShrSlice (named 4) κ₄ u8 ∷ MutSlice (named 5) κ₅ u8 ∷ [])
        a.0 a.1 vss.0 vss.1

  -- the nonce that the writers are passed
  module _ (κ₀ κ₁ κ₂ κ₃ κ₄ : Lft) (q₀ q₁ q₂ q₃ q₄ : Share) (a : Args writes.signature (κ₀, (κ₁, (κ₂, (κ₃, (κ₄, tt))))))
      (vss : Vals writes.signature (κ₀, (κ₁, (κ₂, (κ₃, (κ₄, tt)))))) where
    pub write_bytes : ent 𝓤 (on_entry 𝓛 writes.signature (κ₀, (κ₁, (κ₂, (κ₃, (κ₄, tt))))) (q₀, (q₁, (q₂, (q₃, (q₄, tt))))) a vss)
        (H.⇛ (guard 𝓤 (Below 256 a.1.0.now) (on_entry 𝓛 writes.signature (κ₀, (κ₁, (κ₂, (κ₃, (κ₄, tt))))) (q₀, (q₁, (q₂, (q₃, (q₄, tt))))) a vss)))
    write_bytes =
        second-bytes κ₀ κ₁ q₀ q₁ (‵ (flft κ₂ q₂) ⊛ ‵ (flft κ₃ q₃) ⊛ ‵ (flft κ₄ q₄) ⊛ ‵ ftrue) (ShrSlice (named 0) κ₀ u8)
        (ShrSlice (named 2) κ₂ u8 ∷ usize ∷ ShrSlice (named 3) κ₃ u8 ∷ MutSlice (named 4) κ₄ u8 ∷ []) a.0 a.1.0 a.1.1 vss.0 vss.1.0
        vss.1.1

  module _ (κ₀ κ₁ κ₂ κ₃ κ₄ κ₅ : Lft) (q₀ q₁ q₂ q₃ q₄ q₅ : Share) (a : Args writes-two.signature (κ₀, (κ₁, (κ₂, (κ₃, (κ₄, (κ₅, tt)))))))
      (vss : Vals writes-two.signature (κ₀, (κ₁, (κ₂, (κ₃, (κ₄, (κ₅, tt))))))) where
    pub write-two-bytes : ent 𝓤 (on_entry 𝓛 writes-two.signature (κ₀, (κ₁, (κ₂, (κ₃, (κ₄, (κ₅, tt)))))) (q₀, (q₁, (q₂, (q₃, (q₄, (q₅, tt)))))) a vss)
        (H.⇛ (guard 𝓤 (Below 256 a.1.0.now) (on_entry 𝓛 writes-two.signature (κ₀, (κ₁, (κ₂, (κ₃, (κ₄, (κ₅, tt))))))
        (q₀, (q₁, (q₂, (q₃, (q₄, (q₅, tt)))))) a vss)))
    write-two-bytes =
        second-bytes κ₀ κ₁ q₀ q₁ (‵ (flft κ₂ q₂) ⊛ ‵ (flft κ₃ q₃) ⊛ ‵ (flft κ₄ q₄) ⊛ ‵ (flft κ₅ q₅) ⊛ ‵ ftrue) (ShrSlice (named 0) κ₀ u8)
        (ShrSlice (named 2) κ₂ u8 ∷ usize ∷ ShrSlice (named 3) κ₃ u8 ∷ ShrSlice (named 4) κ₄ u8 ∷ MutSlice (named 5) κ₅ u8 ∷ []) a.0 a.1.0 a.1.1
        vss.0 vss.1.0 vss.1.1

    -- and the job
    pub write-two-job-bytes : ent 𝓤 (on_entry 𝓛 writes-two.signature (κ₀, (κ₁, (κ₂, (κ₃, (κ₄, (κ₅, tt)))))) (q₀, (q₁, (q₂, (q₃, (q₄, (q₅, tt)))))) a vss)
        (H.⇛ (guard 𝓤 (Below 256 a.1.1.1.1.0.now) (on_entry 𝓛 writes-two.signature (κ₀, (κ₁, (κ₂, (κ₃, (κ₄, (κ₅, tt))))))
        (q₀, (q₁, (q₂, (q₃, (q₄, (q₅, tt)))))) a vss)))
    write-two-job-bytes =
        qed 𝓛 ((‵ (flft κ₀ q₀) ⊛ ‵ (flft κ₁ q₁) ⊛ ‵ (flft κ₂ q₂) ⊛ ‵ (flft κ₃ q₃) ⊛ (‵ (flft κ₄ q₄) ⊛ ‵ (flft κ₅ q₅) ⊛ ‵ ftrue))
        ∷ ‵ (owns (ShrSlice (named 0) κ₀ u8 ∷ ShrSlice (named 1) κ₁ u8 ∷ ShrSlice (named 2) κ₂ u8 ∷ usize ∷ ShrSlice (named 3) κ₃ u8 ∷ ShrSlice (named 4) κ₄ u8
        ∷ MutSlice (named 5) κ₅ u8 ∷ []) a vss) ∷ [])
        {P = H.⇛ (guard 𝓤 (Below 256 a.1.1.1.1.0.now) (on_entry 𝓛 writes-two.signature (κ₀, (κ₁, (κ₂, (κ₃, (κ₄, (κ₅, tt))))))
        (q₀, (q₁, (q₂, (q₃, (q₄, (q₅, tt)))))) a vss))} (
        updating ! $ split ! $ move ! (1 ∷ []) $ split ! $ move ! (1 ∷ []) $ split ! $ move ! (1 ∷ []) $ split ! $
        -- [3's token; the others'; 2's; 1's; 0's; what the parameters own]: each parameter up to the job by itself
        move ! (5 ∷ []) $ fsplit ! $ move ! (1 ∷ []) $ fsplit ! $ move ! (1 ∷ []) $ fsplit ! $ move ! (1 ∷ []) $ fsplit ! $ move ! (1 ∷ []) $ fsplit ! $
        -- [the job; the rest; the layout; 2; 1; 0; 3's token; the others'; 2's; 1's; 0's]
        move ! (0 ∷ 6 ∷ []) $
        use2 𝓛 (later (given (Below 256 a.1.1.1.1.0.now) (‵ ((ShrSlice (named 3) κ₃ u8).own_val a.1.1.1.1.0 vss.1.1.1.1.0) ⊛ ‵
        (flft κ₃ q₃)))) (slice-bytes 𝓛 (named 3) κ₃ q₃ a.1.1.1.1.0 vss.1.1.1.1.0) $ await ! tt $ learn ! (λ b.
        split ! $ at_once ! $ check ! b $
        -- [the job; its token; the rest; the layout; 2; 1; 0; the others'; 2's; 1's; 0's]: all as it was
        move ! (0 ∷ 2 ∷ []) $ fjoin ! $ move ! (2 ∷ 0 ∷ []) $ fjoin ! $ move ! (2 ∷ 0 ∷ []) $ fjoin ! $ move ! (2 ∷ 0 ∷ []) $ fjoin ! $ move ! (2 ∷ 0 ∷ []) $
        fjoin ! $
        -- [what the parameters own; 3's token; the others'; 2's; 1's; 0's]
        move ! (1 ∷ 2 ∷ []) $ join ! $ move ! (2 ∷ 0 ∷ []) $ join ! $ move ! (2 ∷ 0 ∷ []) $ join ! $ move ! (2 ∷ 0 ∷ []) $ join ! $ done !))

  -- key, nonce, associated data, ciphertext and seal that `lubdhvani_open` is passed behind the instance: its parameters are those of the call below
  module _ (κ₀ κ₁ κ₂ κ₃ κ₄ κ₅ : Lft) (q₀ q₁ q₂ q₃ q₄ q₅ : Share) (a : Args opens.signature (κ₀, (κ₁, (κ₂, (κ₃, (κ₄, (κ₅, tt)))))))
      (vss : Vals opens.signature (κ₀, (κ₁, (κ₂, (κ₃, (κ₄, (κ₅, tt))))))) where
    pub c-open-bytes : ent 𝓤 (on_entry 𝓛 opens.signature (κ₀, (κ₁, (κ₂, (κ₃, (κ₄, (κ₅, tt)))))) (q₀, (q₁, (q₂, (q₃, (q₄, (q₅, tt)))))) a vss)
        (H.⇛ (guard 𝓤 (Bytes a.1.0.now a.1.1.0.now a.1.1.1.0.now a.1.1.1.1.0.now a.1.1.1.1.1.0.now)
        (on_entry 𝓛 opens.signature (κ₀, (κ₁, (κ₂, (κ₃, (κ₄, (κ₅, tt)))))) (q₀, (q₁, (q₂, (q₃, (q₄, (q₅, tt)))))) a vss)))
    c-open-bytes = open-bytes 𝓛 κ₀ κ₁ κ₂ κ₃ κ₄ κ₅ q₀ q₁ q₂ q₃ q₄ q₅ a vss
