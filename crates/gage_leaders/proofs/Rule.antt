-- The table follows order W9's rule in all its entries, by one computed test; its length, and that every leader is a cell. Assumes nothing.
use Rattle.std.specs.Prelude.{◌≡◌, refl, Bool, List, ℕ, zero, suc, ◌+◌, ◌<◌, ltb, length, get_or, take}
use Rattle.std.proofs.Common.{sym, ap, ◌∙◌, not-suc-le-zero, le_of_suc-le-suc, arith, ltb→lt, get_or-take}
use Rattle.base_lists.specs.Table.{at}
use Rattle.base_lists.specs.Below.{Below, below_all, below-take}
use Rattle.gage_leaders.specs.Leaders.{MOST-ROUNDS, leaders, thirty_two}
use Rattle.gage_leaders.specs.Register.{start, bit, shifted, entry, entries, after, register}

-- the rule over the whole table
pub by-rule : leaders ≡ entries start 0 MOST-ROUNDS
unfolding leaders entries shifted
by-rule = refl

-- entry k of those from entry i on
entry_at : (r i n k : ℕ) → k < n → get_or (entries r i n) k 0 ≡ entry (i + k) (bit (after r k))
unfolding entries after
entry_at r i zero k h = absurd (not-suc-le-zero h)
entry_at r i (suc n) zero h = let z : i + 0 ≡ i = omega arith in rw z refl
entry_at r i (suc n) (suc k) h =
    let z : i + suc k ≡ suc i + k = omega arith in rw z (entry_at (shifted r) (suc i) n k (le_of_suc-le-suc h))

-- the rule at an entry
pub leader-rule : (i : ℕ) → i < MOST-ROUNDS → get_or leaders i 0 ≡ entry i (bit (register i))
leader-rule i h = let z : 0 + i ≡ i = omega arith in rw by-rule (entry_at start 0 MOST-ROUNDS i h ∙ rw z refl)

-- document 01's thirty-two are the first of them
pub first-leaders : take (length thirty_two) leaders ≡ thirty_two
unfolding leaders thirty_two
first-leaders = refl

pub thirty-two-rule : (i : ℕ) → i < length thirty_two → get_or thirty_two i 0 ≡ entry i (bit (register i))
unfolding thirty_two
thirty-two-rule i h =
    ap (λ (l : List ℕ). get_or l i 0) (sym first-leaders) ∙ get_or-take (length thirty_two) leaders i 0 h ∙ leader-rule i (omega arith)

pub length-leaders : length leaders ≡ MOST-ROUNDS
unfolding leaders
length-leaders = refl

cell : ℕ → ℕ → Bool
cell k l = ltb l 4

-- every leader is a cell
pub leader-below : (i : ℕ) → i < MOST-ROUNDS → get_or leaders i 0 < 4
unfolding leaders cell
leader-below i h = ltb→lt (get_or leaders i 0) 4 (at cell leaders tt i h)

pub leaders-below : (k : ℕ) → Below 4 (take k leaders)
unfolding leaders
leaders-below k = below-take 4 k leaders (below_all 4 leaders leader-below)
