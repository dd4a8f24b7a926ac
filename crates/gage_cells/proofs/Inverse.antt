-- Each of substitution and its inverse undoes the other, at every state size and for every leader (document 003, Corollary 1).
-- Assumes nothing.
use Rattle.std.specs.Prelude.{◌≡◌, refl, List, [], ◌∷◌, ℕ, ◌/◌, ◌<◌, ◌%◌}
use Rattle.std.proofs.Common.{ap, ap₂, arith}
use Rattle.base_lists.specs.Below.{Below}
use Rattle.gage_cells.specs.Cells.{star, table, cells, bytes, follow, recover, substitute, restore}
use Rattle.gage_cells.specs.Quasigroup.{star-undoes, table-closed}
use Rattle.gage_cells.specs.Inverse.{Fours}

-- cells: each step undoes the other
recover-follow : (l : ℕ) (cs : List ℕ) → l < 4 → Below 4 cs → recover table l (follow table l cs) ≡ cs
unfolding recover follow
recover-follow l [] h b = refl
recover-follow l (a ∷ r) h b = rw (star-undoes l a h b.0) (ap (λ (x : List ℕ). a ∷ x) (recover-follow a r b.0 b.1))

follow-recover : (l : ℕ) (cs : List ℕ) → l < 4 → Below 4 cs → follow table l (recover table l cs) ≡ cs
unfolding recover follow
follow-recover l [] h b = refl
follow-recover l (c ∷ r) h b =
    ap₂ ◌∷◌ (star-undoes l c h b.0) (follow-recover (star table l c) r (table-closed.below l c) b.1)

-- bytes to cells and back
cells-below : (s : List ℕ) → Below 256 s → Below 4 (cells s)
unfolding cells
cells-below [] b = tt
cells-below (x ∷ r) b = let h : x < 256 = b.0 in (omega arith, (omega arith, (omega arith, (omega arith, cells-below r b.1))))

bytes-cells : (s : List ℕ) → Below 256 s → bytes (cells s) ≡ s
unfolding cells bytes
bytes-cells [] b = refl
bytes-cells (x ∷ r) b = let h : x < 256 = b.0 in ap₂ ◌∷◌ (omega arith) (bytes-cells r b.1)

-- four cells to a byte and back
cells-bytes : (cs : List ℕ) → Fours cs → cells (bytes cs) ≡ cs
unfolding cells bytes
cells-bytes [] f = refl
cells-bytes (a ∷ []) f = absurd f
cells-bytes (a ∷ b ∷ []) f = absurd f
cells-bytes (a ∷ b ∷ c ∷ []) f = absurd f
cells-bytes (a ∷ b ∷ c ∷ d ∷ r) (ha, hb, hc, hd, f) =
    ap₂ ◌∷◌ (omega arith) (ap₂ ◌∷◌ (omega arith) (ap₂ ◌∷◌ (omega arith) (ap₂ ◌∷◌ (omega arith) (cells-bytes r f))))

follow-fours : (l : ℕ) (s : List ℕ) → Fours (follow table l (cells s))
unfolding cells follow
follow-fours l [] = tt
follow-fours l (x ∷ r) =
    let below = table-closed.below in
    (below l (x / 64), below (x / 64) (x / 16 % 4), below (x / 16 % 4) (x / 4 % 4), below (x / 4 % 4) (x % 4), follow-fours (x % 4) r)

recover-fours : (l : ℕ) (s : List ℕ) → Fours (recover table l (cells s))
unfolding cells recover
recover-fours l [] = tt
recover-fours l (x ∷ r) =
    let a = star table l (x / 64) in
    let b = star table a (x / 16 % 4) in
    let c = star table b (x / 4 % 4) in
    let below = table-closed.below in
    (below l (x / 64), below a (x / 16 % 4), below b (x / 4 % 4), below c (x % 4), recover-fours (star table c (x % 4)) r)

pub restore-substitute : (l : ℕ) (s : List ℕ) → l < 4 → Below 256 s → restore table l (substitute table l s) ≡ s
unfolding restore substitute
restore-substitute l s h b = rw (cells-bytes (follow table l (cells s)) (follow-fours l s), recover-follow l (cells s) h (cells-below s b)) (bytes-cells s b)

pub substitute-restore : (l : ℕ) (s : List ℕ) → l < 4 → Below 256 s → substitute table l (restore table l s) ≡ s
unfolding restore substitute
substitute-restore l s h b = rw (cells-bytes (recover table l (cells s)) (recover-fours l s), follow-recover l (cells s) h (cells-below s b)) (bytes-cells s b)
