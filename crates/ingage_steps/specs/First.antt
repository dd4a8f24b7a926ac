-- The first bytes of the arrays that the steps leave, as many as the instance's state or its rate has, are the states and blocks of the crate
-- cipher's definitions. Assumes nothing.
use Rattle.std.specs.Prelude.{◌≡◌, refl, Bool, true, false, cond, List, [], ◌∷◌, ◌++◌, ℕ, zero, suc, ◌+◌, ◌-◌, ◌≤◌, ◌<◌, ltb, length, get_or, set, take, drop, replicate}
use Rattle.std.proofs.Common.{sym, ap, ap₂, ◌∙◌, not-suc-le-zero, le_of_suc-le-suc, arith, length-append, length-take, length-drop, take_all, length-take-le, get_or-take, drop_at, drop-drop, le-ltb}
use Rattle.std.specs.Int.Bits.{bit_xor, xor_zero_r}
use Rattle.std.proofs.lemmas.List.{length-replicate, get_or-replicate}
use Rattle.std.proofs.Math.Seq.{take-set-lt, take-append-add}
use Rattle.base_lists.specs.Below.{Below, below-replicate}
use Rattle.base_lists.specs.Buffers.{copied}
use Rattle.base_lists.specs.Over.{over-length}
use Rattle.gage_spec.specs.Permutation.{LARGEST, ROUNDS, permitted, permute, answered}
use Rattle.gage_spec.specs.Tables.{permitted-size}
use Rattle.gage_spec.specs.Answers.{answered-first, judged-done}
use Rattle.gage_spec.specs.States.{length-permute}
use Rattle.gage_sponge.specs.Padding.{last_block, LARGEST-RATE}
use Rattle.gage_sponge.specs.Absorbing.{xored, from}
use Rattle.gage_sponge.proofs.Blocks.{take-replicate, length-last-block}
use Rattle.gage_sponge.specs.Xor.{xored-take}
use Rattle.gage_planes_spec.specs.declared.State.{State}
use Rattle.gage_planes_spec.specs.Told.{told, mixed}
use Rattle.gage_planes_spec.specs.Bytes.{length-told}
use Rattle.gage_planes_spec.proofs.Permuting.{told-permuted}
use Rattle.gage_weave.specs.Mixing.{told-mixed}
use Rattle.ingage_spec.specs.declared.Instance.{Instance}
use Rattle.ingage_spec.specs.Instances.{Fitting}
use Rattle.ingage_spec.specs.Cipher.{LAST-BLOCK, AFTER-MESSAGE, whole, last_xored, keyed, started, finished}
use Rattle.ingage_steps.specs.Arrays.{whole_of, last_of, put_at, key_of, start_of, marked_block, marked_of, last_mixed, finish_of}

-- the permutation on a state of a permitted size
pub whole-first : (n : ℕ) (s : List ℕ) → permitted n ≡ true → length s ≡ LARGEST → take n (whole_of n s) ≡ whole (take n s)
unfolding whole_of
whole-first n s h l =
    let size = permitted-size n h in
    answered-first permute s n ROUNDS {p = answered permute s n ROUNDS} (length-permute ROUNDS) h refl (omega arith) refl

last-xored-at : (v n : ℕ) (s : List ℕ) → n < length s → set s n (bit_xor v (get_or s n 0)) ≡ xored (replicate n 0 ++ (v ∷ [])) s
unfolding xored
last-xored-at v n [] h = absurd (not-suc-le-zero h)
last-xored-at v zero (x ∷ s) h = refl
last-xored-at v (suc n) (x ∷ s) h = ap (λ (l : List ℕ). x ∷ l) (last-xored-at v n s (le_of_suc-le-suc h))

-- a store of the last of n bytes, with v XORed in
last-xored-take : (v n : ℕ) (s : List ℕ) → 1 ≤ n → n ≤ length s → take n (set s (n - 1) (bit_xor v (get_or s (n - 1) 0))) ≡ last_xored v (take n s)
unfolding last_xored
last-xored-take v n s h g =
    let l : length (take n s) ≡ n = length-take-le n s g in
    rw (take-set-lt n s (n - 1) (bit_xor v (get_or s (n - 1) 0)) (omega arith), sym (get_or-take n s (n - 1) 0 (omega arith)), l)
    (last-xored-at v (n - 1) (take n s) (omega arith))

-- v XORed into the last of n bytes
pub last-first : (v n : ℕ) (s : List ℕ) → 1 ≤ n → n ≤ length s → take n (last_of v n s) ≡ last_xored v (take n s)
unfolding last_of
last-first v n s h g = rw (le-ltb n 1 h) (last-xored-take v n s h g)

-- bytes with one changed
below_set : (m : ℕ) (s : List ℕ) (k v : ℕ) → Below m s → v < m → Below m (set s k v)
below_set m [] k v b h = tt
below_set m (x ∷ s) zero v b h = (h, b.1)
below_set m (x ∷ s) (suc k) v b h = (b.0, below_set m s k v b.1 h)

-- zeros with one byte changed, XORed into a state that ends there
nothing : (b : List ℕ) → xored b [] ≡ []
unfolding xored
nothing [] = refl
nothing (x ∷ b) = refl

last-only : (v k m : ℕ) (x : List ℕ) → k < m → length x ≡ suc k → xored (set (replicate m 0) k v) x ≡ xored (replicate k 0 ++ (v ∷ [])) x
unfolding xored
last-only v k zero x h e = absurd (not-suc-le-zero h)
last-only v k (suc m) [] h e = absurd (omega arith)
last-only v zero (suc m) (y ∷ []) h e = ap (λ (l : List ℕ). bit_xor v y ∷ l) (nothing (replicate m 0))
last-only v zero (suc m) (y ∷ z ∷ x) h e = absurd (omega arith)
last-only v (suc k) (suc m) (y ∷ x) h e = ap (λ (l : List ℕ). bit_xor 0 y ∷ l) (last-only v k m x (le_of_suc-le-suc h) (omega arith))

-- v XORed into the last byte of a state in planes
pub last-told : (v n : ℕ) (t : State) → v < 256 → 1 ≤ n → n ≤ LARGEST → told n (last_mixed v n t) ≡ last_xored v (told n t)
unfolding last_mixed last_of last_xored
last-told v n t small h g =
    let zeros : List ℕ = replicate LARGEST 0 in
    let none : get_or zeros (n - 1) 0 ≡ 0 = get_or-replicate LARGEST (n - 1) 0 0 (omega arith) in
    let one : bit_xor v (get_or zeros (n - 1) 0) ≡ v = ap (bit_xor v) none ∙ xor_zero_r v in
    let l = length-told n t in
    let is : cond (ltb n 1) zeros (set zeros (n - 1) (bit_xor v (get_or zeros (n - 1) 0))) ≡ set zeros (n - 1) v = rw (le-ltb n 1 h, one) in
    ap (λ (b : List ℕ). told n (mixed b t)) is
    ∙ told-mixed n (set zeros (n - 1) v) t g (below_set 256 zeros (n - 1) v (below-replicate 256 LARGEST 0 (omega arith)) small)
    ∙ last-only v (n - 1) LARGEST (told n t) (omega arith) (omega arith) ∙ rw l

-- the block of a piece of the associated data
pub marked-first : (R : ℕ) (p : List ℕ) → 1 ≤ R → R ≤ LARGEST-RATE → take R (marked_of R p) ≡ marked_block R p
unfolding marked_of marked_block
marked-first R p h g = go (ltb (length p) R)
  where
    go : (b : Bool) → take R (cond b (last_of LAST-BLOCK R (last_block p)) (last_block p)) ≡ cond b (last_xored LAST-BLOCK (take R (last_block p)))
        (take R (last_block p))
    go true = last-first LAST-BLOCK R (last_block p) h (omega (arith, length-last-block p))
    go false = refl

-- the end
pub finish-first : (z : Instance) (t : State) → Fitting z → told z.state (finish_of z.state t) ≡ (finished (from (told z.state t))).state
unfolding finish_of finished
finish-first z t fits =
    let e = fits.ends in
    let m = fits.moves in
    let h = fits.held in
    told-permuted z.state ROUNDS (last_mixed AFTER-MESSAGE z.state t) (judged-done z.state ROUNDS fits.allowed refl) (omega arith)
    ∙ ap whole (last-told AFTER-MESSAGE z.state t (omega arith) (omega arith) (omega arith))

-- bytes put at a place with room for them
put-room : (at : ℕ) (b s : List ℕ) → at + length b ≤ length s → put_at at b s ≡ take at s ++ (b ++ drop (at + length b) s)
unfolding put_at
put-room at b s h =
    rw (take_all (length (drop at s)) b (rw length-drop (omega arith)), drop-drop (length b) at s)

length-put : (at : ℕ) (b s : List ℕ) → length (put_at at b s) ≡ length s
unfolding put_at
length-put at b s =
    let a = length-append (take at s) (copied b (drop at s)) in
    let t = length-take at s in
    let o = over-length (take (length (drop at s)) b) (drop at s) (omega (arith, length-take (length (drop at s)) b)) in
    let d = length-drop at s in
    omega arith

drop-zeros : (k n : ℕ) → k ≤ n → drop {A = ℕ} k (replicate n 0) ≡ replicate (n - k) 0
drop-zeros zero n h = ap (λ (x : ℕ). replicate x 0) (let e : n ≡ n - 0 = omega arith in e)
drop-zeros (suc k) zero h = absurd (not-suc-le-zero h)
drop-zeros (suc k) (suc n) h = drop-zeros k n (le_of_suc-le-suc h) ∙ ap (λ (x : ℕ). replicate x 0) (let e : n - k ≡ suc n - suc k = omega arith in e)

-- front and key one behind the other, and zeros
keyed-front : (z : Instance) (front key : List ℕ) → Fitting z → length front ≡ z.nonce → length key ≡ z.key
    → take z.state (front ++ (key ++ replicate (LARGEST - (z.nonce + length key)) 0)) ≡ keyed z front key
unfolding keyed
keyed-front z front key fits f k =
    let b = fits.begins in
    let h = fits.held in
    let rest : ℕ = z.state - (z.nonce + z.key) in
    let zeros : List ℕ = replicate (LARGEST - (z.nonce + length key)) 0 in
    let i : z.state ≡ length front + (length key + rest) = omega arith in
    ap (λ (n : ℕ). take n (front ++ (key ++ zeros))) i ∙ take-append-add front (key ++ zeros) (length key + rest)
    ∙ ap (λ (l : List ℕ). front ++ l) (take-append-add key zeros rest
    ∙ ap (λ (l : List ℕ). key ++ l) (take-replicate rest (LARGEST - (z.nonce + length key)) 0 (omega arith)))

-- the start
pub start_first : (z : Instance) (key nonce : List ℕ) → Fitting z → length key ≡ z.key → length nonce ≡ z.nonce
    → take z.state (start_of z key nonce) ≡ (started z key nonce).state
unfolding start_of started
start_first z key nonce fits kl nl =
    let b = fits.begins in
    let l = fits.held in
    let front : List ℕ = replicate z.nonce 0 in
    let behind : List ℕ = key ++ replicate (LARGEST - (z.nonce + length key)) 0 in
    let k : List ℕ = key_of z key in
    let k-is : k ≡ front ++ behind =
    put-room z.nonce key (replicate LARGEST 0) (rw length-replicate (omega arith))
    ∙ ap₂ (λ (x y : List ℕ). x ++ (key ++ y)) (take-replicate z.nonce LARGEST 0 (omega arith)) (drop-zeros (z.nonce + length key) LARGEST (omega arith)) in
    let long : length k ≡ LARGEST = length-put z.nonce key (replicate LARGEST 0) ∙ length-replicate {A = ℕ} LARGEST 0 in
    let at : length front ≡ 0 + length nonce = rw length-replicate (omega arith) in
    let n-is : put_at 0 nonce k ≡ nonce ++ behind =
    put-room 0 nonce k (omega arith) ∙ ap (λ (x : List ℕ). nonce ++ x) (rw k-is (drop_at front behind (0 + length nonce) at)) in
    xored-take z.state k (whole_of z.state (put_at 0 nonce k))
    ∙ ap₂ xored (rw k-is (keyed-front z front key fits (length-replicate z.nonce 0) kl))
    (whole-first z.state (put_at 0 nonce k) fits.allowed (length-put 0 nonce k ∙ long) ∙ ap whole (rw n-is (keyed-front z nonce key fits nl kl)))
