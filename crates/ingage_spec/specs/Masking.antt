-- Laws of bytes XORed with a state's first bytes: twice is as they were, whatever stands behind them plays no part. Assumes nothing.
use Rattle.std.specs.Prelude.{◌≡◌, refl, List, [], ◌∷◌, ◌++◌, ℕ, zero, suc, ◌+◌, ◌-◌, ◌*◌, ◌/◌, ◌%◌, ◌≤◌, ◌<◌, length, take, replicate}
use Rattle.std.proofs.Common.{ap, ap₂, ◌∙◌, not-suc-le-zero, le_of_suc-le-suc, mod-lt, div-add-mod', arith, length-take}
use Rattle.std.proofs.Math.Arith.{bin_ind}
use Rattle.std.specs.Int.Bits.{bit_xor, differ, xor_step, xor_self}
use Rattle.std.proofs.lemmas.Nat.{xor_shr, xor_mod}
use Rattle.base_lists.specs.Below.{Below, below-take, below-append, below-replicate}
use Rattle.gage_sponge.specs.Absorbing.{xored}
use Rattle.gage_sponge.specs.Xor.{length-xored, xored-below}
use Rattle.ingage_spec.specs.Cipher.{masked, last_xored}

-- two bits
bit-back : (a b : ℕ) → a < 2 → b < 2 → differ (bit_xor a b) b ≡ a
bit-back zero zero h g = refl
bit-back zero (suc zero) h g = refl
bit-back zero (suc (suc b)) h g = absurd (omega arith)
bit-back (suc zero) zero h g = refl
bit-back (suc zero) (suc zero) h g = refl
bit-back (suc zero) (suc (suc b)) h g = absurd (omega arith)
bit-back (suc (suc a)) b h g = absurd (omega arith)

-- XOR undoes XOR
pub xor-back : (a b : ℕ) → bit_xor (bit_xor a b) b ≡ a
xor-back =
    bin_ind (λ (n : ℕ). (b : ℕ) → bit_xor (bit_xor n b) b ≡ n) (λ b. xor_self b)
    (λ n back b.
    xor_step (bit_xor n b) b
    ∙ ap₂ (λ (x y : ℕ). bit_xor x (b / 2) * 2 + differ y (b % 2)) (xor_shr n b 1) (xor_mod n b 1)
    ∙ ap₂ (λ (x y : ℕ). x * 2 + y) (back (b / 2)) (bit-back (n % 2) (b % 2) (mod-lt n (omega arith)) (mod-lt b (omega arith)))
    ∙ div-add-mod' n 2)

-- no byte behind the first k of b reaches the first k of the state
pub masked-take : (k : ℕ) (b s : List ℕ) → k ≤ length b → take k (xored b s) ≡ masked (take k b) s
unfolding xored masked
masked-take zero b s h = refl
masked-take (suc k) [] s h = absurd (not-suc-le-zero h)
masked-take (suc k) (x ∷ b) [] h = refl
masked-take (suc k) (x ∷ b) (y ∷ s) h = ap (λ (l : List ℕ). bit_xor x y ∷ l) (masked-take k b s (le_of_suc-le-suc h))

pub length-masked : (c s : List ℕ) → length c ≤ length s → length (masked c s) ≡ length c
unfolding masked
length-masked c s h = length-take (length c) (xored c s) ∙ omega (arith, length-xored c s)

-- masked twice
pub masked-back : (c s : List ℕ) → length c ≤ length s → masked (masked c s) s ≡ c
unfolding xored masked
masked-back [] s h = refl
masked-back (x ∷ c) [] h = absurd (not-suc-le-zero h)
masked-back (x ∷ c) (y ∷ s) h = ap₂ ◌∷◌ (xor-back x y) (masked-back c s (le_of_suc-le-suc h))

pub length-last-xored : (v : ℕ) (s : List ℕ) → length (last_xored v s) ≡ length s
unfolding last_xored
length-last-xored v s = length-xored (replicate (length s - 1) 0 ++ (v ∷ [])) s

pub masked_below : (c s : List ℕ) → Below 256 c → Below 256 s → Below 256 (masked c s)
unfolding masked
masked_below c s b d = below-take 256 (length c) (xored c s) (xored-below c s b d)

pub last-xored-below : (v : ℕ) (s : List ℕ) → v < 256 → Below 256 s → Below 256 (last_xored v s)
unfolding last_xored
last-xored-below v s h b =
    xored-below (replicate (length s - 1) 0 ++ (v ∷ [])) s
    (below-append 256 (replicate (length s - 1) 0) (v ∷ []) (below-replicate 256 (length s - 1) 0 (omega arith)) (h, tt)) b
