-- What the sponge does with a state (document 000, Table 1.3): bytes XORed into its first ones, and the permutation called, each
-- call counted. Assumes nothing: these are definitions.
use Rattle.std.specs.Prelude.{ℕ, ◌+◌, List, [], ◌∷◌}
use Rattle.std.specs.Int.Bits.{bit_xor}

-- (S_r XOR b) || S_c: b XORed into the first bytes of s; the rest of s stays
unfoldable pub xored : List ℕ → List ℕ → List ℕ
xored [] s = s
xored (b ∷ bs) [] = []
xored (b ∷ bs) (x ∷ s) = bit_xor b x ∷ xored bs s

-- a state, and how often the permutation was called to reach it
pub record Run : Type 0 where
  pub state : List ℕ
  pub calls : ℕ

-- a run that starts in the state s
abbrev pub from : List ℕ → Run
from s = record { state = s; calls = 0 }

-- the state changed, with no call
abbrev pub changed : (List ℕ → List ℕ) → Run → Run
changed f r = record { state = f r.state; calls = r.calls }

-- the permutation p called once
abbrev pub called : (List ℕ → List ℕ) → Run → Run
called p r = record { state = p r.state; calls = r.calls + 1 }
