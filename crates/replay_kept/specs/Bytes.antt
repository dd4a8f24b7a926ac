-- A trace is bytes by its type: what the `&[u8]` that `replay` and `stood` are passed first holds is below 256. The theorems beside this and those of
-- replay_reading ask it of a list of numbers, which does not say it; whoever calls has it from what there is on entry by the call's signature alone, and
-- nothing of that is lost. Assumes nothing.
use Rattle.std.specs.Prelude.{List, [], ◌∷◌, ℕ}
use seplogic.Ra.Ura.{Ura}
use mir.Syntax.{named}
use mir.Val.{Val}
use base.Logic.{ent, guard}
use base.Fml.{Lft, Share, ftrue, flft}
use types.Logic.{Logic}
use types.Kit.{Item, ‵, ◌⊛◌, ⋆, given, later, ◌$◌, !, qed, move, learn, check, use2, split, join, fsplit, fjoin, await, updating, now as at_once, done}
use Rattle.std.specs.Borrow.{u8, usize, Bor}
use denote.RattleType.{RattleType, Denots, Valss, owns}
use denote.Slice.{ShrSlice, MutSlice}
use denote.Triple.Entry.{Args, Vals, on_entry}
use Rattle.base_lists.specs.Below.{Below}
use Rattle.demand_reading.specs.Bytes.{slice-bytes}
use Rattle.line_layout.specs.contracts.Layout as Y
use Rattle.replay_call.specs.contracts.replay as replays
use Rattle.replay_call.specs.contracts.stood as stands

module _ {M : Type 1} {𝓤 : Ura M} (𝓛 : Logic 𝓤) where
  -- of a call whose first parameter is a `&[u8]`, whatever the others are
  open 𝓛 use {H}

  module _ (κ : Lft) (q : Share) (others : Item 𝓤) (Ts : List RattleType) (x : Bor (List ℕ)) (y : Denots Ts) (vs : List Val) (ws : Valss Ts) where
    first-bytes : ent 𝓤 (⋆ 𝓛 ((‵ (flft κ q) ⊛ others) ∷ ‵ (owns (ShrSlice (named 0) κ u8 ∷ Ts) (x, y) (vs, ws)) ∷ []))
        (H.⇛ (guard 𝓤 (Below 256 x.now) (⋆ 𝓛 ((‵ (flft κ q) ⊛ others) ∷ ‵ (owns (ShrSlice (named 0) κ u8 ∷ Ts) (x, y) (vs, ws)) ∷ []))))
    first-bytes =
        qed 𝓛 ((‵ (flft κ q) ⊛ others) ∷ ‵ (owns (ShrSlice (named 0) κ u8 ∷ Ts) (x, y) (vs, ws)) ∷ [])
        {P = H.⇛ (guard 𝓤 (Below 256 x.now) (⋆ 𝓛 ((‵ (flft κ q) ⊛ others) ∷ ‵ (owns (ShrSlice (named 0) κ u8 ∷ Ts) (x, y) (vs, ws)) ∷ [])))} (
        updating ! $ split ! $ move ! (2 ∷ []) $ fsplit ! $ move ! (0 ∷ 2 ∷ []) $
        use2 𝓛 (later (given (Below 256 x.now) (‵ ((ShrSlice (named 0) κ u8).own_val x vs) ⊛ ‵ (flft κ q)))) (slice-bytes 𝓛 (named 0) κ q x vs) $ await ! tt
        $ learn ! (λ b.
        split ! $ at_once ! $ check ! b $ move ! (0 ∷ 2 ∷ []) $ fjoin ! $ move ! (1 ∷ 2 ∷ []) $ join ! $ done !))

  module _ (κ₀ κ₁ κ₂ κ₃ : Lft) (q₀ q₁ q₂ q₃ : Share) (a : Args replays.signature (κ₀, (κ₁, (κ₂, (κ₃, tt)))))
      (vss : Vals replays.signature (κ₀, (κ₁, (κ₂, (κ₃, tt))))) where
    pub replay-bytes : ent 𝓤 (on_entry 𝓛 replays.signature (κ₀, (κ₁, (κ₂, (κ₃, tt)))) (q₀, (q₁, (q₂, (q₃, tt)))) a vss)
        (H.⇛ (guard 𝓤 (Below 256 a.0.now) (on_entry 𝓛 replays.signature (κ₀, (κ₁, (κ₂, (κ₃, tt)))) (q₀, (q₁, (q₂, (q₃, tt)))) a vss)))
    replay-bytes =
        first-bytes κ₀ q₀ (‵ (flft κ₁ q₁) ⊛ ‵ (flft κ₂ q₂) ⊛ ‵ (flft κ₃ q₃) ⊛ ‵ ftrue)
        (ShrSlice (named 1) κ₁ u8 ∷ ShrSlice (named 2) κ₂ u8 ∷ usize ∷ Y.the_row ∷ MutSlice (named 3) κ₃ u8 ∷ []) a.0 a.1 vss.0 vss.1

  module _ (κ₀ κ₁ κ₂ κ₃ : Lft) (q₀ q₁ q₂ q₃ : Share) (a : Args stands.signature (κ₀, (κ₁, (κ₂, (κ₃, tt)))))
      (vss : Vals stands.signature (κ₀, (κ₁, (κ₂, (κ₃, tt))))) where
    pub stood-bytes : ent 𝓤 (on_entry 𝓛 stands.signature (κ₀, (κ₁, (κ₂, (κ₃, tt)))) (q₀, (q₁, (q₂, (q₃, tt)))) a vss)
        (H.⇛ (guard 𝓤 (Below 256 a.0.now) (on_entry 𝓛 stands.signature (κ₀, (κ₁, (κ₂, (κ₃, tt)))) (q₀, (q₁, (q₂, (q₃, tt)))) a vss)))
    stood-bytes =
        first-bytes κ₀ q₀ (‵ (flft κ₁ q₁) ⊛ ‵ (flft κ₂ q₂) ⊛ ‵ (flft κ₃ q₃) ⊛ ‵ ftrue)
        (usize ∷ ShrSlice (named 1) κ₁ u8 ∷ ShrSlice (named 2) κ₂ u8 ∷ usize ∷ Y.the_row ∷ MutSlice (named 3) κ₃ u8 ∷ []) a.0 a.1 vss.0 vss.1
