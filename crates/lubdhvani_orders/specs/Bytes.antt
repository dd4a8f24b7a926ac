-- Bytes by their type: the stream that `lubdhvani_accept` or `lubdhvani_index_update` is passed holds numbers below 256. The theorems beside this ask it of
-- lists of numbers, which do not say it; whoever calls has it of the argument, from what there is on entry by the call's signature alone, and nothing of that
-- is lost. Assumes nothing.
use Rattle.std.specs.Prelude.{List, [], ◌∷◌, ℕ}
use seplogic.Ra.Ura.{Ura}
use mir.Syntax.{named}
use mir.Val.{Val}
use base.Logic.{ent, guard}
use base.Fml.{Lft, Share, ftrue, flft}
use types.Logic.{Logic}
use types.Kit.{Item, ‵, ◌⊛◌, ⋆, given, later, ◌$◌, !, qed, move, learn}
use types.Kit.{check, use2, split, join, fsplit, fjoin, await, updating, now as at_once, done}
use Rattle.std.specs.Borrow.{u8, u32, usize, Bor}
use denote.RattleType.{RattleType, Denots, Valss, owns}
use denote.Slice.{ShrSlice, MutSlice}
use denote.Triple.Entry.{Args, Vals, on_entry}
use Rattle.base_lists.specs.Below.{Below}
use Rattle.demand_reading.specs.Bytes.{slice-bytes}
use Rattle.lubdhvani.specs.contracts.accept.lubdhvani_accept as accepts
use Rattle.lubdhvani.specs.contracts.index.lubdhvani_index_update as updates

module _ {M : Type 1} {𝓤 : Ura M} (𝓛 : Logic 𝓤) where
  -- of a call whose first parameter is a `&[u8]`, whatever the others are
  open 𝓛 use {H}

  module _ (κ : Lft) (q : Share) (others : Item 𝓤) (Ts : List RattleType) (x : Bor (List ℕ)) (y : Denots Ts) (vs : List Val) (ws : Valss Ts) where
    first-bytes : ent 𝓤 (⋆ 𝓛 ((‵ (flft κ q) ⊛ others) ∷ ‵ (owns (ShrSlice (named 0) κ u8 ∷ Ts) (x, y) (vs, ws)) ∷ []))
        (H.⇛ (guard 𝓤 (Below 256 x.now) (⋆ 𝓛 ((‵ (flft κ q) ⊛ others) ∷ ‵ (owns (ShrSlice (named 0) κ u8 ∷ Ts) (x, y) (vs, ws)) ∷ []))))
    first-bytes =
        qed 𝓛 ((‵ (flft κ q) ⊛ others) ∷ ‵ (owns (ShrSlice (named 0) κ u8 ∷ Ts) (x, y) (vs, ws)) ∷ [])
        {P = H.⇛ (guard 𝓤 (Below 256 x.now) (⋆ 𝓛 ((‵ (flft κ q) ⊛ others) ∷ ‵ (owns (ShrSlice (named 0) κ u8 ∷ Ts) (x, y) (vs, ws)) ∷ [])))} (
        updating ! $ split ! $ move ! (2 ∷ []) $ fsplit ! $ move ! (0 ∷ 2 ∷ []) $
        use2 𝓛 (later (given (Below 256 x.now) (‵ ((ShrSlice (named 0) κ u8).own_val x vs) ⊛ ‵ (flft κ q)))) (slice-bytes 𝓛 (named 0) κ q x vs) $ await ! tt
        $ learn ! (λ b.
        split ! $ at_once ! $ check ! b $ move ! (0 ∷ 2 ∷ []) $ fjoin ! $ move ! (1 ∷ 2 ∷ []) $ join ! $ done !))

  -- the stream that `lubdhvani_accept` is passed
  module _ (κ₀ κ₁ κ₂ : Lft) (q₀ q₁ q₂ : Share) (a : Args accepts.signature (κ₀, (κ₁, (κ₂, tt)))) (vss : Vals accepts.signature (κ₀, (κ₁, (κ₂, tt)))) where
    pub accept-bytes : ent 𝓤 (on_entry 𝓛 accepts.signature (κ₀, (κ₁, (κ₂, tt))) (q₀, (q₁, (q₂, tt))) a vss)
        (H.⇛ (guard 𝓤 (Below 256 a.0.now) (on_entry 𝓛 accepts.signature (κ₀, (κ₁, (κ₂, tt))) (q₀, (q₁, (q₂, tt))) a vss)))
    accept-bytes =
        first-bytes κ₀ q₀ (‵ (flft κ₁ q₁) ⊛ ‵ (flft κ₂ q₂) ⊛ ‵ ftrue)
        (ShrSlice (named 1) κ₁ u8 ∷ ShrSlice (named 2) κ₂ u8 ∷ usize ∷ usize ∷ []) a.0 a.1 vss.0 vss.1

  -- and `lubdhvani_index_update`
  module _ (κ₀ κ₁ κ₂ κ₃ : Lft) (q₀ q₁ q₂ q₃ : Share) (a : Args updates.signature (κ₀, (κ₁, (κ₂, (κ₃, tt)))))
      (vss : Vals updates.signature (κ₀, (κ₁, (κ₂, (κ₃, tt))))) where
    pub update-bytes : ent 𝓤 (on_entry 𝓛 updates.signature (κ₀, (κ₁, (κ₂, (κ₃, tt)))) (q₀, (q₁, (q₂, (q₃, tt)))) a vss)
        (H.⇛ (guard 𝓤 (Below 256 a.0.now) (on_entry 𝓛 updates.signature (κ₀, (κ₁, (κ₂, (κ₃, tt)))) (q₀, (q₁, (q₂, (q₃, tt)))) a vss)))
    update-bytes =
        first-bytes κ₀ q₀ (‵ (flft κ₁ q₁) ⊛ ‵ (flft κ₂ q₂) ⊛ ‵ (flft κ₃ q₃) ⊛ ‵ ftrue)
        (ShrSlice (named 1) κ₁ u8 ∷ ShrSlice (named 2) κ₂ u8 ∷ usize ∷ usize ∷ MutSlice (named 3) κ₃ u32 ∷ usize ∷ []) a.0 a.1 vss.0 vss.1
