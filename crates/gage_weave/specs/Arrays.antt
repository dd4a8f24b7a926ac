-- An array of bytes holds bytes. Assumes nothing.
use Rattle.std.specs.Prelude.{List, [], ◌∷◌, ℕ}
use Rattle.std.specs.Int.{w8}
use mir.Val.{Val}
use denote.Shadow.{shadow}
use denote.Plain.{UInt}
use denote.Array.{Array, each}
use denote.Laws.{Is}
use Rattle.base_lists.specs.Below.{Below}

each-byte : (xs : List ℕ) (us : List Val) → shadow (each ℕ (UInt w8).own_val xs us) → Below 256 xs
each-byte [] us s = tt
each-byte (x ∷ xs) [] s = absurd s
each-byte (x ∷ xs) (u ∷ us) s = (s.0.1, each-byte xs us s.1)

pub array-bytes : (n : ℕ) (xs : List ℕ) (vs : List Val) → Is (Array (UInt w8) n) xs vs → Below 256 xs
array-bytes n xs vs p = each-byte xs p.0 p.1.1
