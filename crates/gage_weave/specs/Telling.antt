-- Planes told as bytes, eight at a time. Assumes nothing.
use Rattle.std.specs.Prelude.{◌≡◌, refl, List, [], ◌∷◌, ◌++◌, ℕ, zero, suc, ◌+◌, ◌-◌, ◌*◌, ◌/◌, ◌%◌, ◌^◌, ◌≤◌, ◌<◌, length, get_or, take, drop}
use Rattle.std.proofs.Common.{sym, ap, ap₂, ◌∙◌, append_assoc, zero-add, add-zero, suc-add, add-suc, arith, length-append, length-drop, ext_get_or, drop-drop, drop_at, take_at, length-take-le, lt-ltb, le-ltb}
use Rattle.std.proofs.Math.Decide.{dec_lt}
use borrow.Rule.Slice.PartMut.{put_mid}
use Rattle.base_lists.specs.Buffers.{over}
use Rattle.base_lists.specs.Over.{over-length}
use Rattle.base_lists.specs.Upto.{Upto}
use Rattle.gage_shuffle.specs.Shuffling.{tabled}
use Rattle.gage_shuffle.specs.Bits.{eight}
use Rattle.gage_shuffle.specs.States.{length-tabled, tabled-at}
use Rattle.base_digits.specs.Digits.{digit, digit-shr, digit-mod, digits_same}
use Rattle.base_digits.proofs.Joined.{digit-joined}
use Rattle.gage_planes_spec.specs.declared.Planes.{Planes}
use Rattle.gage_planes_spec.specs.declared.State.{State}
use Rattle.gage_planes_spec.specs.Told.{LOW, ROOM, worth, digit_at, byte_at, told}
use Rattle.gage_planes_spec.specs.Bytes.{length-told, byte-digit, byte-below}
use Rattle.gage_weave.specs.Weaving.{woven, eight_of, bytes_of}
use Rattle.gage_weave.specs.Exchanging.{digit-woven}

-- the planes, the rightmost bits first, from digit i on
abbrev shifted : Planes → ℕ → List ℕ
shifted q i = q.h / 2 ^ i ∷ q.g / 2 ^ i ∷ q.f / 2 ^ i ∷ q.e / 2 ^ i ∷ q.d / 2 ^ i ∷ q.c / 2 ^ i ∷ q.b / 2 ^ i ∷ q.a / 2 ^ i ∷ []

shifted-worth : (q : Planes) (i c : ℕ) → c < 8 → get_or (shifted q i) c 0 ≡ get_or (worth q) c 0 / 2 ^ i
shifted-worth q i = eight (λ c. get_or (shifted q i) c 0 ≡ get_or (worth q) c 0 / 2 ^ i) refl refl refl refl refl refl refl refl

-- digit k of byte c of the eight is digit c of byte i + k
eight-digit : (t : State) (i c k : ℕ) → i % 8 ≡ 0 → i + k < ROOM → c < 8 → k < 8 → digit (eight_of t i) (8 * c + k) ≡ digit_at t (i + k) c
unfolding eight_of digit_at
eight-digit t i c k whole room h g = elim (dec_lt i LOW) [
  | yes p ↦
      rw (lt-ltb i LOW p, lt-ltb (i + k) LOW (omega (arith, p)))
      (digit-joined (shifted t.low i) c k g (omega arith) ∙ ap (λ (x : ℕ). digit x k) (shifted-worth t.low i c h) ∙ digit-shr (get_or (worth t.low) c 0)
      i k)
  | no p ↦
      let e : k ≡ i + k - LOW = omega (arith, p) in
      rw (le-ltb i LOW (omega (arith, p)), le-ltb (i + k) LOW (omega (arith, p))) (ap (λ (m : ℕ). digit t.rest (8 * c + m)) e)
]

told-byte : (t : State) (i k : ℕ) → i % 8 ≡ 0 → i + k < ROOM → k < 8 → woven (eight_of t i) / 2 ^ (8 * k) % 256 ≡ byte_at t (i + k)
told-byte t i k whole room few =
    let x = eight_of t i in
    digits_same 8 (woven x / 2 ^ (8 * k) % 256) (byte_at t (i + k)) (omega arith) (byte-below t (i + k))
    (λ c h.
    let f : (8 * k + c) % 8 * 8 + (8 * k + c) / 8 ≡ 8 * c + k = omega arith in
    digit-mod (woven x / 2 ^ (8 * k)) 8 c h ∙ digit-shr (woven x) (8 * k) c ∙ digit-woven x (8 * k + c) (omega arith) ∙ ap (digit x) f
    ∙ eight-digit t i c k whole room h few ∙ sym (byte-digit t (i + k) c h))

-- the eight bytes, or fewer
bytes-told : (t : State) (i m x : ℕ) → i % 8 ≡ 0 → i + m ≤ ROOM → m ≤ 8 → x ≡ woven (eight_of t i) → bytes_of x m ≡ tabled (byte_at t) i m
unfolding bytes_of
bytes-told t i m x whole room few e =
    let l = length-tabled (λ k. x / 2 ^ (8 * k) % 256) 0 m in
    ext_get_or 0 (tabled (λ k. x / 2 ^ (8 * k) % 256) 0 m) (tabled (byte_at t) i m) (l ∙ sym (length-tabled (byte_at t) i m))
    (λ k h.
    let g : k < m = omega arith in
    let z : 0 + k ≡ k = omega arith in
    tabled-at (λ j. x / 2 ^ (8 * j) % 256) 0 m k g ∙ rw (z, e) (told-byte t i k whole (omega arith) (omega arith)) ∙ sym (tabled-at (byte_at t) i m k g))

tabled-add : (f : ℕ → ℕ) (a i m : ℕ) → tabled f a (i + m) ≡ tabled f a i ++ tabled f (a + i) m
unfolding tabled
tabled-add f a zero m = rw (zero-add, add-zero)
tabled-add f a (suc i) m = rw (suc-add i m, add-suc a i, ← (suc-add a i)) (ap (λ (l : List ℕ). f a ∷ l) (tabled-add f (suc a) i m))

told_add : (i m : ℕ) (t : State) → told (i + m) t ≡ told i t ++ tabled (byte_at t) i m
unfolding told
told_add i m t = tabled-add (byte_at t) 0 i m ∙ rw (zero-add i)

-- bytes from `from` to `to` put into a buffer whose first bytes are told
module _ (t : State) (o out w : List ℕ) (from to x : ℕ) (whole : from % 8 ≡ 0) (order : from ≤ to) (room : to ≤ ROOM) (few : to ≤ from + 8)
    (fits : to ≤ length o)
    (e : x ≡ woven (eight_of t from)) (f : w ≡ bytes_of x (length (take (to - from) (drop from out)))) (g : out ≡ over (told from t) o) where
  part-long : length (take (to - from) (drop from out)) ≡ to - from
  part-long =
      let l : length out ≡ length o = ap length g ∙ over-length (told from t) o (rw (length-told from t) (omega arith)) in
      length-take-le (to - from) (drop from out) (rw length-drop (omega arith))

  bytes-are : w ≡ tabled (byte_at t) from (to - from)
  bytes-are = f ∙ rw part-long (bytes-told t from (to - from) x whole (omega arith) (omega arith) e)

  pub told_more : put_mid from (to - from) out w ≡ over (told to t) o
  told_more =
      let z : from + (to - from) ≡ to = omega arith in
      let lt = length-told from t in
      let long : length w ≡ to - from = ap length bytes-are ∙ length-tabled (byte_at t) from (to - from) in
      let next : told to t ≡ told from t ++ w = ap (λ (n : ℕ). told n t) (sym z) ∙ told_add from (to - from) t ∙ ap (λ (l : List ℕ). told from t ++ l)
      (sym bytes-are) in
      let all : length (told from t ++ w) ≡ to = length-append (told from t) w ∙ rw (lt, long) z in
      rw (g, next)
      (ap₂ (λ (u v : List ℕ). u ++ (w ++ drop (to - from) v)) (take_at (told from t) (drop (length (told from t)) o) from lt)
      (drop_at (told from t) (drop (length (told from t)) o) from lt ∙ ap (λ (n : ℕ). drop n o) lt)
      ∙ ap (λ (l : List ℕ). told from t ++ (w ++ l)) (drop-drop (to - from) from o ∙ ap (λ (n : ℕ). drop n o) z)
      ∙ sym (append_assoc (told from t) w (drop to o)) ∙ ap (λ (n : ℕ). (told from t ++ w) ++ drop n o) (sym all))

  pub more-long : length (put_mid from (to - from) out w) ≡ length o
  more-long = ap length told_more ∙ over-length (told to t) o (rw (length-told to t) fits)

pub told_none : (t : State) (o : List ℕ) → o ≡ over (told 0 t) o
unfolding told tabled
told_none t o = refl

-- the loop of `put`
pub put_all : (x n : ℕ) (out : List ℕ) → length out ≡ n → Upto (λ k. x / 2 ^ (8 * k) % 256) out n → out ≡ bytes_of x n
unfolding bytes_of
put_all x n out long u =
    let l = length-tabled (λ k. x / 2 ^ (8 * k) % 256) 0 n in
    ext_get_or 0 out (tabled (λ k. x / 2 ^ (8 * k) % 256) 0 n) (long ∙ sym l)
    (λ k h.
    let g : k < n = omega arith in
    let z : 0 + k ≡ k = omega arith in
    u.at k g ∙ sym (tabled-at (λ j. x / 2 ^ (8 * j) % 256) 0 n k g ∙ rw z refl))
