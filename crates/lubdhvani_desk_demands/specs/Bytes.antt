-- A stream is bytes by its type: what the `&[u8]` that `lubdhvani_desk_copy` is passed first holds is below 256. The theorems of Reads.antt ask it of a list
-- of numbers, which does not say it; whoever calls has it from what there is on entry by the call's signature alone, and nothing of that is lost. Assumes
-- nothing.
use Rattle.std.specs.Prelude.{[], ◌∷◌}
use seplogic.Ra.Ura.{Ura}
use mir.Syntax.{named}
use base.Logic.{ent, guard}
use base.Fml.{Lft, Share, ftrue, flft}
use types.Logic.{Logic}
use types.Kit.{‵, ◌⊛◌}
use Rattle.std.specs.Borrow.{u8, u32, usize}
use denote.Slice.{ShrSlice, MutSlice}
use denote.Triple.Entry.{Args, Vals, on_entry}
use Rattle.base_lists.specs.Below.{Below}
use Rattle.lubdhvani_traces.specs.Bytes.{first-bytes}
use Rattle.lubdhvani_desk.specs.contracts.lubdhvani_desk_copy as copies

module _ {M : Type 1} {𝓤 : Ura M} (𝓛 : Logic 𝓤) where
  open 𝓛 use {H}

  module _ (κ₀ κ₁ κ₂ κ₃ κ₄ κ₅ : Lft) (q₀ q₁ q₂ q₃ q₄ q₅ : Share) (a : Args copies.signature (κ₀, (κ₁, (κ₂, (κ₃, (κ₄, (κ₅, tt)))))))
      (vss : Vals copies.signature (κ₀, (κ₁, (κ₂, (κ₃, (κ₄, (κ₅, tt))))))) where
    pub c-desk-bytes : ent 𝓤 (on_entry 𝓛 copies.signature (κ₀, (κ₁, (κ₂, (κ₃, (κ₄, (κ₅, tt)))))) (q₀, (q₁, (q₂, (q₃, (q₄, (q₅, tt)))))) a vss)
        (H.⇛ (guard 𝓤 (Below 256 a.0.now) (on_entry 𝓛 copies.signature (κ₀, (κ₁, (κ₂, (κ₃, (κ₄, (κ₅, tt)))))) (q₀, (q₁, (q₂, (q₃, (q₄, (q₅, tt)))))) a
        vss)))
    c-desk-bytes =
        first-bytes 𝓛 κ₀ q₀ (‵ (flft κ₁ q₁) ⊛ ‵ (flft κ₂ q₂) ⊛ ‵ (flft κ₃ q₃) ⊛ ‵ (flft κ₄ q₄) ⊛ ‵ (flft κ₅ q₅) ⊛ ‵ ftrue)
        (ShrSlice (named 1) κ₁ u8 ∷ ShrSlice (named 2) κ₂ u8 ∷ usize ∷ usize ∷ ShrSlice (named 3) κ₃ u32 ∷ usize ∷ ShrSlice (named 4) κ₄ u32
        ∷ MutSlice (named 5) κ₅ u8 ∷ []) a.0 a.1 vss.0 vss.1
