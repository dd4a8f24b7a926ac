-- What a step leaves where its place is behind the array, and what a copy into the array's part from a place on leaves. Assumes nothing.
use mathlib.Core.Path.{◌≡◌, sym}
use mathlib.Core.List.{List, ◌++◌, append-nil}
use Prim.Native.Nat.{ℕ, ◌-◌, ◌≤◌, ◌<◌}
use native.Mathlib.Omega.{arith}
use lib.Bits.{bit_xor}
use lib.ListN.{length, get_or, take, drop, length-drop, drop_of_length-le}
use lib.Seq.{take_all, set_out}
use borrow.Author.Tests.{le-ltb}
use Rattle.base_lists.specs.Buffers.{copied}
use Rattle.ingage_steps.specs.Arrays.{last_of, put_at}

-- there is no such byte
pub last_out : (v n : ℕ) (s : List ℕ) → length s < n → last_of v n s ≡ s
unfolding last_of
last_out v n s h = rw (le-ltb n 1 (omega arith)) (set_out s (n - 1) (bit_xor v (get_or s (n - 1) 0)) (omega arith))

-- there is no such place
pub put-out : (at : ℕ) (b s : List ℕ) → length s ≤ at → s ≡ put_at at b s
unfolding put_at
put-out at b s h = rw (take_all at s h, drop_of_length-le s {i = at} h) (sym (append-nil s))

-- the part from a place to the array's end
pub put_in : (at end : ℕ) (b s part : List ℕ) → length s ≡ end → part ≡ copied b (take (end - at) (drop at s))
    → take at s ++ (part ++ drop (end - at) (drop at s)) ≡ put_at at b s
unfolding put_at
put_in at end b s part l e =
    let h : length (drop at s) ≤ end - at = omega (arith, length-drop at s) in
    rw (e, take_all (end - at) (drop at s) h, drop_of_length-le (drop at s) {i = end - at} h) (rw append-nil)
