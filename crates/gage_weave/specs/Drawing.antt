-- Bytes drawn into planes, eight at a time, the last first, are the planes of those bytes. Assumes nothing.
use Rattle.std.specs.Prelude.{◌≡◌, ℕ, suc, ◌+◌, ◌-◌, ◌*◌, ◌/◌, ◌%◌, ◌^◌, ◌≤◌, ◌<◌, min, get_or, drop}
use Rattle.std.proofs.Math.Path.{refl, sym, ap, ap₂}
use Rattle.std.proofs.Common.{◌∙◌, add-zero, div-one, mod-lt, lt_of_lt_of_le, lt_of_le_of_lt, arith, length-append, pow_mono, pow_pos, length-take-le, take_all, drop-drop, drop-cons, get_or-append-add}
use mathlib.Core.List.{List, [], ◌∷◌, ◌++◌}
use Rattle.std.proofs.Math.Decide.{dec_lt}
use Rattle.std.specs.Int.Bits.{bit_and, bit_xor}
use Rattle.std.proofs.lemmas.Nat.{xor_lt, and_le_r}
use Rattle.std.proofs.Math.ListN.{length, take, length-take, length-drop, get_or-append, get_or-eq_default, take-append-drop}
use Rattle.std.proofs.Math.Seq.{get_or-take, get_or-drop, ext_get_or}
use Rattle.gage_shuffle.specs.Bits.{eight}
use Rattle.base_digits.specs.Digits.{digit, digit-shr, digit-high, digits_same}
use Rattle.base_digits.specs.Joined.{grown, joined}
use Rattle.base_digits.proofs.Joined.{grown-below, joined-below, grown-low, grown-high, digit-joined}
use Rattle.gage_planes_spec.specs.declared.Planes.{Planes}
use Rattle.gage_planes_spec.specs.Told.{LOW, ROOM, plane, planes_of, rest_of}
use Rattle.gage_planes_spec.specs.Bytes.{digit-plane, plane-below, worth-plane}
use Rattle.gage_planes_spec.specs.Exact.{same-planes}
use Rattle.gage_weave.specs.Weaving.{exchanged, woven, drawn}
use Rattle.gage_weave.specs.Exchanging.{digit-woven}

-- digit i of a woven block's byte c is digit c of its byte i, also where there is none
pub woven-at : (bs : List ℕ) (c i : ℕ) → c < 8 → i < 8 → digit (woven (joined bs) / 2 ^ (8 * c)) i ≡ digit (get_or bs i 0) c
woven-at bs c i h g =
    let w = joined bs in
    let e : (8 * c + i) % 8 * 8 + (8 * c + i) / 8 ≡ 8 * i + c = omega arith in
    digit-shr (woven w) (8 * c) i ∙ digit-woven w (8 * c + i) (omega arith) ∙ ap (digit w) e ∙ digit-joined bs i c h (omega arith)

-- one plane, with the bytes t behind a block, or none behind a shorter one
plane-more : (bs t : List ℕ) (c : ℕ) → c < 8 → length bs ≡ 8 → length t ≤ 56 → grown (plane c t) (woven (joined bs) / 2 ^ (8 * c)) ≡ plane c (bs ++ t)
plane-more bs t c h long few =
    let l : length (bs ++ t) ≤ 64 = omega (arith, length-append bs t) in
    digits_same 64 (grown (plane c t) (woven (joined bs) / 2 ^ (8 * c))) (plane c (bs ++ t)) (grown-below (plane c t) (woven (joined bs) / 2 ^ (8 * c)))
    (lt_of_lt_of_le (plane-below c (bs ++ t)) (pow_mono l))
    (λ i g. elim (dec_lt i 8) [
      | yes p ↦
          grown-low (plane c t) (woven (joined bs) / 2 ^ (8 * c)) i p ∙ woven-at bs c i h p
          ∙ sym (digit-plane c (bs ++ t) i ∙ ap (λ (b : ℕ). digit b c) (get_or-append bs t 0 i (omega (arith, p))))
      | no p ↦
          let k = i - 8 in
          let e : i ≡ 8 + k = omega (arith, p) in
          let f : 8 + k ≡ length bs + k = omega arith in
          rw e
          (grown-high (plane c t) (woven (joined bs) / 2 ^ (8 * c)) k (omega (arith, p)) ∙ digit-plane c t k
          ∙ sym (digit-plane c (bs ++ t) (8 + k) ∙ ap (λ (b : ℕ). digit b c) (ap (λ (m : ℕ). get_or (bs ++ t) m 0) f ∙ get_or-append-add bs t k 0)))
    ])

plane-last : (bs : List ℕ) (c : ℕ) → c < 8 → length bs ≤ 8 → grown 0 (woven (joined bs) / 2 ^ (8 * c)) ≡ plane c bs
plane-last bs c h few =
    digits_same 64 (grown 0 (woven (joined bs) / 2 ^ (8 * c))) (plane c bs) (grown-below 0 (woven (joined bs) / 2 ^ (8 * c)))
    (lt_of_lt_of_le (plane-below c bs) (pow_mono (let l : length bs ≤ 64 = omega arith in l)))
    (λ i g. elim (dec_lt i 8) [
      | yes p ↦ grown-low 0 (woven (joined bs) / 2 ^ (8 * c)) i p ∙ woven-at bs c i h p ∙ sym (digit-plane c bs i)
      | no p ↦
          let k = i - 8 in
          let e : i ≡ 8 + k = omega (arith, p) in
          let none : get_or bs (8 + k) 0 ≡ 0 = get_or-eq_default bs 0 (omega arith) in
          rw e
          (grown-high 0 (woven (joined bs) / 2 ^ (8 * c)) k (omega (arith, p)) ∙ digit-high 0 0 k (omega arith) (omega arith)
          ∙ sym (digit-plane c bs (8 + k) ∙ ap (λ (b : ℕ). digit b c) none ∙ digit-high 0 0 c (omega arith) (omega arith)))
    ])

pub drawn-more : (bs t : List ℕ) → length bs ≡ 8 → length t ≤ 56 → drawn (planes_of t) (woven (joined bs)) ≡ planes_of (bs ++ t)
drawn-more bs t long few =
    same-planes (plane-more bs t 7 (omega arith) long few) (plane-more bs t 6 (omega arith) long few) (plane-more bs t 5 (omega arith) long few)
    (plane-more bs t 4 (omega arith) long few) (plane-more bs t 3 (omega arith) long few) (plane-more bs t 2 (omega arith) long few)
    (plane-more bs t 1 (omega arith) long few) (rw (div-one (woven (joined bs))) at (plane-more bs t 0 (omega arith) long few))

pub drawn-last : (bs : List ℕ) → length bs ≤ 8
    → drawn (record { a = 0; b = 0; c = 0; d = 0; e = 0; f = 0; g = 0; h = 0 }) (woven (joined bs)) ≡ planes_of bs
drawn-last bs few =
    same-planes (plane-last bs 7 (omega arith) few) (plane-last bs 6 (omega arith) few) (plane-last bs 5 (omega arith) few) (plane-last bs 4 (omega arith) few)
    (plane-last bs 3 (omega arith) few) (plane-last bs 2 (omega arith) few) (plane-last bs 1 (omega arith) few)
    (rw (div-one (woven (joined bs))) at (plane-last bs 0 (omega arith) few))

-- the eight bytes at a place
abbrev pub block : List ℕ → ℕ → List ℕ
block s i =
    get_or s i 0 ∷ get_or s (i + 1) 0 ∷ get_or s (i + 2) 0 ∷ get_or s (i + 3) 0 ∷ get_or s (i + 4) 0 ∷ get_or s (i + 5) 0 ∷ get_or s (i + 6) 0 ∷ get_or s (i + 7) 0 ∷ []

block_at : (s : List ℕ) (i r : ℕ) → r < 8 → get_or (block s i) r 0 ≡ get_or s (i + r) 0
block_at s i = eight (λ r. get_or (block s i) r 0 ≡ get_or s (i + r) 0) (rw add-zero) refl refl refl refl refl refl refl

-- the first bytes of s that planes have room for: a block of them, and the last, shorter one
module _ (s : List ℕ) where
  low : List ℕ
  low = take LOW s

  block-is : (i : ℕ) → i + 8 ≤ length low → block s i ++ drop (i + 8) low ≡ drop i low
  unfolding low
  block-is i h =
      let few : i + 8 ≤ LOW = omega (arith, length-take LOW s) in
      let front : take 8 (drop i low) ≡ block s i =
      ext_get_or 0 (take 8 (drop i low)) (block s i) (length-take-le 8 (drop i low) (rw length-drop (omega arith)))
      (λ r g.
      let w : r < 8 = omega (arith, length-take 8 (drop i low)) in
      get_or-take 8 (drop i low) r 0 w ∙ get_or-drop i low r 0 ∙ get_or-take LOW s (i + r) 0 (omega arith) ∙ sym (block_at s i r w)) in
      ap₂ (λ (x y : List ℕ). x ++ y) (sym front) (sym (drop-drop 8 i low)) ∙ take-append-drop 8 (drop i low)

  pub planes-step : {q : Planes} (i w x : ℕ) → i + 8 ≤ length (take LOW s) → w ≡ joined (block s i) → x ≡ woven w → q ≡ planes_of (drop (i + 8) (take LOW s))
      → drawn q x ≡ planes_of (drop i (take LOW s))
  unfolding low
  planes-step i w x h e f g =
      let few : length (drop (i + 8) (take LOW s)) ≤ 56 = omega (arith, length-drop (i + 8) (take LOW s), length-take LOW s) in
      rw (f, e, g) (drawn-more (block s i) (drop (i + 8) (take LOW s)) refl few ∙ ap planes_of (block-is i h))

  first-bytes : (n : ℕ) → n ≡ min (length s) LOW → take n s ≡ take LOW s
  first-bytes n e = elim (dec_lt (length s) LOW) [
    | yes p ↦ take_all n s (omega (arith, p)) ∙ sym (take_all LOW s (omega (arith, p)))
    | no p ↦ ap (λ (k : ℕ). take k s) (let g : n ≡ LOW = omega (arith, p) in g)
  ]

  pub drop-take : (i n : ℕ) → i ≤ n → n ≤ length s → take (n - i) (drop i s) ≡ drop i (take n s)
  drop-take i n h g =
      let l : length (take (n - i) (drop i s)) ≡ n - i = length-take-le (n - i) (drop i s) (rw length-drop (omega arith)) in
      let m : length (drop i (take n s)) ≡ n - i = length-drop i (take n s) ∙ ap (λ (k : ℕ). k - i) (length-take-le n s g) in
      ext_get_or 0 (take (n - i) (drop i s)) (drop i (take n s)) (l ∙ sym m)
      (λ r w.
      let v : r < n - i = omega arith in
      get_or-take (n - i) (drop i s) r 0 v ∙ get_or-drop i s r 0 ∙ sym (get_or-drop i (take n s) r 0 ∙ get_or-take n s (i + r) 0 (omega arith)))

  pub planes-last : {q : Planes} (i n w x : ℕ) → n ≡ min (length s) LOW → i ≡ n / 8 * 8 → w ≡ joined (take (n - i) (drop i s)) → x ≡ woven w
      → q ≡ drawn (record { a = 0; b = 0; c = 0; d = 0; e = 0; f = 0; g = 0; h = 0 }) x → q ≡ planes_of (drop i (take LOW s))
  planes-last {q} i n w x e f g h d =
      let rest : take (n - i) (drop i s) ≡ drop i (take LOW s) = drop-take i n (omega arith) (omega arith) ∙ ap (drop i) (first-bytes n e) in
      let short : length (drop i (take LOW s)) ≤ 8 = omega (arith, length-drop i (take LOW s), length-take LOW s) in
      d ∙ rw (h, g, rest) (drawn-last (drop i (take LOW s)) short)

-- the bytes behind them, woven
exchanged-below : (x j m : ℕ) → x < 2 ^ 64 → m < 2 ^ 64 → exchanged x j m < 2 ^ 64
unfolding exchanged
exchanged-below x j m h g =
    let t = bit_and (bit_xor x (x / 2 ^ j)) m in
    xor_lt 64 (bit_xor x t) (t * 2 ^ j % 2 ^ 64) (xor_lt 64 x t h (lt_of_le_of_lt (and_le_r (bit_xor x (x / 2 ^ j)) m) g)) (mod-lt (t * 2 ^ j) (pow_pos 64))

woven-below : (x : ℕ) → x < 2 ^ 64 → woven x < 2 ^ 64
woven-below x h =
    exchanged-below (exchanged (exchanged x 7 0x00AA00AA00AA00AA) 14 0x0000CCCC0000CCCC) 28 0x00000000F0F0F0F0
    (exchanged-below (exchanged x 7 0x00AA00AA00AA00AA) 14 0x0000CCCC0000CCCC (exchanged-below x 7 0x00AA00AA00AA00AA h (omega arith)) (omega arith))
    (omega arith)

pub rest-woven : (t : List ℕ) → woven (joined t) ≡ rest_of t
unfolding rest_of
rest-woven t =
    let ps = plane 0 t ∷ plane 1 t ∷ plane 2 t ∷ plane 3 t ∷ plane 4 t ∷ plane 5 t ∷ plane 6 t ∷ plane 7 t ∷ [] in
    digits_same 64 (woven (joined t)) (joined ps) (woven-below (joined t) (joined-below t)) (joined-below ps)
    (λ q h.
    let c = q / 8 in
    let i = q % 8 in
    let e : 8 * c + i ≡ q = omega arith in
    rw (← e)
    (sym (digit-shr (woven (joined t)) (8 * c) i) ∙ woven-at t c i (omega arith) (omega arith)
    ∙ sym (digit-joined ps c i (omega arith) (omega arith) ∙ ap (λ (x : ℕ). digit x i) (worth-plane t c (omega arith)) ∙ digit-plane c t i)))

-- the bytes behind the first 64, as far as there are any
pub take-least : (s : List ℕ) (n : ℕ) → n ≡ min (length s) ROOM → LOW < length s → take (n - LOW) (drop LOW s) ≡ take (ROOM - LOW) (drop LOW s)
take-least s n e h = elim (dec_lt (length s) ROOM) [
  | yes p ↦
      take_all (n - LOW) (drop LOW s) (rw length-drop (omega (arith, p))) ∙ sym (take_all (ROOM - LOW) (drop LOW s) (rw length-drop (omega (arith, p))))
  | no p ↦ ap (λ (k : ℕ). take (k - LOW) (drop LOW s)) (let g : n ≡ ROOM = omega (arith, p) in g)
]

-- a block's bytes joined from the last on
pub joined-more : (bs : List ℕ) (i w v : ℕ) → i < length bs → w ≡ joined (drop (i + 1) bs) → v ≡ grown w (get_or bs i 0) → v ≡ joined (drop i bs)
joined-more bs i w v h e f =
    let g : i + 1 ≡ suc i = omega arith in
    f ∙ rw e (sym (ap joined (drop-cons bs i 0 h ∙ ap (λ (k : ℕ). get_or bs i 0 ∷ drop k bs) (sym g))))
