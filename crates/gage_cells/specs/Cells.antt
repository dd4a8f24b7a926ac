-- The nonlinear substitution of document 000, section 1.1.1 (expression 1.1 and Algorithm 1), over two-bit cells, and its
-- inverse (document 003, Proposition 1 and Corollary 1). Assumes nothing: these are definitions.
use Rattle.std.specs.Prelude.{ℕ, ◌<◌, ◌+◌, ◌*◌, ◌/◌, ◌%◌, List, [], ◌∷◌, ◌++◌, get_or, take, drop}

-- the table x * y (expression 1.1), rows first
abbrev pub table : List (List ℕ)
table =
    (1 ∷ 0 ∷ 3 ∷ 2 ∷ [])
    ∷ (0 ∷ 2 ∷ 1 ∷ 3 ∷ [])
    ∷ (2 ∷ 3 ∷ 0 ∷ 1 ∷ [])
    ∷ (3 ∷ 1 ∷ 2 ∷ 0 ∷ [])
    ∷ []

-- x * y by a table t
abbrev pub star : List (List ℕ) → ℕ → ℕ → ℕ
star t x y = get_or (get_or t x []) y 0

-- every product is a cell
pub record Closed (t : List (List ℕ)) : Type 0 where
  pub below : (x y : ℕ) → star t x y < 4

-- the cells of bytes, leftmost first
unfoldable pub cells : List ℕ → List ℕ
cells [] = []
cells (b ∷ r) = (b / 64) ∷ (b / 16 % 4) ∷ (b / 4 % 4) ∷ (b % 4) ∷ cells r

-- the bytes of cells, four to a byte
unfoldable pub bytes : List ℕ → List ℕ
bytes [] = []
bytes (a ∷ []) = []
bytes (a ∷ b ∷ []) = []
bytes (a ∷ b ∷ c ∷ []) = []
bytes (a ∷ b ∷ c ∷ d ∷ r) = (a * 64 + b * 16 + c * 4 + d) ∷ bytes r

-- Algorithm 1: l * a0, a0 * a1, a1 * a2, .. over the old cells
unfoldable pub follow : List (List ℕ) → ℕ → List ℕ → List ℕ
follow t l [] = []
follow t l (a ∷ r) = star t l a ∷ follow t a r

-- its inverse: a0 = l * c0, a1 = a0 * c1, .. each over the cell just recovered
unfoldable pub recover : List (List ℕ) → ℕ → List ℕ → List ℕ
recover t l [] = []
recover t l (c ∷ r) = star t l c ∷ recover t (star t l c) r

-- the substitution of a state with the leader l, and back
unfoldable pub substitute : List (List ℕ) → ℕ → List ℕ → List ℕ
substitute t l s = bytes (follow t l (cells s))

unfoldable pub restore : List (List ℕ) → ℕ → List ℕ → List ℕ
restore t l s = bytes (recover t l (cells s))

-- one byte of the substitution, after the cell p
unfoldable pub substituted_byte : List (List ℕ) → ℕ → ℕ → ℕ
substituted_byte t p b =
    star t p (b / 64) * 64 + star t (b / 64) (b / 16 % 4) * 16 + star t (b / 16 % 4) (b / 4 % 4) * 4 + star t (b / 4 % 4) (b % 4)

-- f on the first n bytes of a state; the rest stays
abbrev pub on_first : ℕ → (List ℕ → List ℕ) → List ℕ → List ℕ
on_first n f s = f (take n s) ++ drop n s
