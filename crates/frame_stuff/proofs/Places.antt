-- Room for twice a body, in plain numbers. Assumes nothing.
use Prim.Native.Nat.{ℕ, ◌*◌, ◌/◌, ◌≤◌, ◌<◌}
use native.Mathlib.Omega.{arith}

-- half a buffer has room for a body, or has not
pub doubled : {b o : ℕ} → b ≤ o / 2 → 2 * b ≤ o
doubled h = omega arith

pub halved : {b o : ℕ} → o / 2 < b → o < 2 * b
halved h = omega arith
