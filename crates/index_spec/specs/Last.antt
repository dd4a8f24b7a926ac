-- The last place recorded: that of the last entry, whatever stands before it; the stream's start where there is none. Assumes nothing.
use Rattle.std.specs.Prelude.{◌≡◌, refl, List, ℕ, zero, suc, ◌-◌, get_or}
use Rattle.std.proofs.Common.{ap, arith}
use Rattle.index_spec.specs.Entries.{entry_place}
use Rattle.index_spec.specs.Updating.{last_place}

pub last_some : (table : List ℕ) (count : ℕ) → (count ≡ 0 → ⊥) → entry_place (get_or table (count - 1) 0) ≡ last_place table count
unfolding last_place
last_some table zero h = absurd (h refl)
last_some table (suc n) h = let e : suc n - 1 ≡ n = omega arith in ap (λ (i : ℕ). entry_place (get_or table i 0)) e

pub last_none : (table : List ℕ) (count : ℕ) → count ≡ 0 → 0 ≡ last_place table count
unfolding last_place
last_none table zero h = refl
last_none table (suc n) h = absurd (omega (arith, h))
