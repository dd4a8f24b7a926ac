-- The stop byte put behind a rest that was copied over zeros makes the last block; what else the rest holds is cut off.
-- Assumes nothing.
use mathlib.Core.Path.{◌≡◌, refl, sym, ap, ◌∙◌}
use mathlib.Core.List.{List, [], ◌∷◌, ◌++◌, append-nil}
use Prim.Native.Nat.{ℕ, zero, suc, ◌-◌, ◌≤◌, ◌<◌}
use native.Mathlib.Nat.{not-suc-le-zero, le_of_suc-le-suc, sub-zero, suc-sub-suc}
use native.Mathlib.Omega.{arith}
use lib.ListN.{length, take, drop, set, get_or, replicate}
use lib.Seq.{take_all, take-suc, length-take-le, set_at}
use Rattle.base_lists.specs.Buffers.{copied}
use Rattle.gage_sponge.specs.Padding.{STOP, last_block, LARGEST-RATE}
use Rattle.gage_sponge.proofs.Blocks.{padded-short}

drop-replicate : (k n a : ℕ) → k ≤ n → drop k (replicate n a) ≡ replicate (n - k) a
drop-replicate zero n a h = rw (sub-zero n)
drop-replicate (suc k) zero a h = absurd (not-suc-le-zero h)
drop-replicate (suc k) (suc n) a h = rw (suc-sub-suc n k) (drop-replicate k n a (le_of_suc-le-suc h))

-- d over n zeros, with the stop byte behind it
stop-at : (d : List ℕ) (n : ℕ) → length d < n
    → set (d ++ drop (length d) (replicate n 0)) (length d) STOP ≡ d ++ (STOP ∷ replicate (n - 1 - length d) 0)
stop-at d n h =
    rw (drop-replicate (length d) n 0 (omega arith))
    (let e : n - length d ≡ suc (n - 1 - length d) = omega arith in
    rw e (set_at d 0 (replicate (n - 1 - length d) 0) STOP (length d) refl))

pub stop-behind : (rest : List ℕ) → length rest < LARGEST-RATE
    → set (copied rest (replicate LARGEST-RATE 0)) (length rest) STOP ≡ last_block rest
unfolding last_block
stop-behind rest h =
    rw (take_all LARGEST-RATE rest (omega arith), take_all (LARGEST-RATE - 1) rest (omega arith))
    (stop-at rest LARGEST-RATE h ∙ sym (padded-short LARGEST-RATE rest h))

-- the stop byte over the last byte of b
stop-over : (a b : List ℕ) (x n : ℕ) → length a ≡ n → b ≡ a ++ (x ∷ []) → set (b ++ []) n STOP ≡ a ++ (STOP ∷ [])
stop-over a b x n h e = rw (e, append-nil) (set_at a x [] STOP n h)

pub stop-last : (rest : List ℕ) → LARGEST-RATE ≤ length rest
    → set (copied rest (replicate LARGEST-RATE 0)) (LARGEST-RATE - 1) STOP ≡ last_block rest
unfolding last_block
stop-last rest h =
    let w : length (take LARGEST-RATE rest) ≡ LARGEST-RATE = length-take-le LARGEST-RATE rest h in
    let s : length (take (LARGEST-RATE - 1) rest) ≡ LARGEST-RATE - 1 = length-take-le (LARGEST-RATE - 1) rest (omega arith) in
    ap (λ (k : ℕ). set (take LARGEST-RATE rest ++ drop k (replicate LARGEST-RATE 0)) (LARGEST-RATE - 1) STOP) w
    ∙ stop-over (take (LARGEST-RATE - 1) rest) (take LARGEST-RATE rest) (get_or rest (LARGEST-RATE - 1) 0) (LARGEST-RATE - 1) s
    (take-suc rest (LARGEST-RATE - 1) 0 (omega arith))
    ∙ ap (λ (k : ℕ). take (LARGEST-RATE - 1) rest ++ (STOP ∷ replicate (LARGEST-RATE - 1 - k) 0)) (sym s)
    ∙ sym (padded-short LARGEST-RATE (take (LARGEST-RATE - 1) rest) (omega arith))
