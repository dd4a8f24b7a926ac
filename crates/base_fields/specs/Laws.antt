-- How long a field is, that it is bytes, and that a field is found exactly where it was put. Assumes nothing.
use Rattle.std.specs.Prelude.{◌≡◌, Bool, cond, ℕ, ◌+◌, ◌*◌, ◌/◌, ◌%◌, ◌≤◌, ◌<◌, get_or, take, drop}
use Rattle.std.proofs.Math.Path.{refl}
use Rattle.std.proofs.Common.{ap, ◌∙◌, drop-drop}
use Rattle.std.proofs.Math.Bool.{true, false}
use mathlib.Core.List.{List, [], ◌∷◌, ◌++◌}
use Rattle.std.proofs.Math.Nat.{div-add-mod'}
use native.Mathlib.Omega.{arith}
use Rattle.std.proofs.Math.Dec.{eqb, leb}
use Rattle.std.proofs.Math.ListN.{length, length-append, take-append-drop}
use Rattle.std.proofs.Math.Seq.{take-append_seam, drop-append_seam, length-take-le}
use Rattle.std.proofs.lemmas.List.Edits.{sets}
use borrow.Author.Tests.{eq-eqb, le-leb, lt-leb, le-ltb, lt-ltb, eqb-true, leb-true}
use Rattle.base_lists.specs.Below.{Below}
use Rattle.base_lists.specs.Walk.{at}
use Rattle.base_fields.specs.Fields.{head_length, high_byte, field, Front, value, no_field, value_of, front, field_end, field_out}

pub length-field : (tag : ℕ) (v : List ℕ) → length (field tag v) ≡ head_length + length v
unfolding field
length-field tag v = omega arith

pub field_below : (tag : ℕ) (v : List ℕ) → tag < 256 → length v < high_byte * high_byte → Below 256 v → Below 256 (field tag v)
unfolding field
field_below tag v t l b = (t, (omega arith, (omega arith, b)))

-- a head at a place of some bytes: the tag, the length's two bytes, and what is behind
pub head_at : (b : List ℕ) (at : ℕ) → at + head_length ≤ length b
    → drop at b ≡ get_or b at 0 ∷ get_or b (at + 1) 0 ∷ get_or b (at + 2) 0 ∷ drop (at + head_length) b
head_at b i enough =
    on i (i + 1) refl (omega arith)
    ∙ ap (λ (s : List ℕ). get_or b i 0 ∷ s)
    (on (i + 1) (i + 2) (omega arith) (omega arith)
    ∙ ap (λ (s : List ℕ). get_or b (i + 1) 0 ∷ s) (on (i + 2) (i + head_length) (omega arith) (omega arith)))
  where
    on : (i j : ℕ) → j ≡ i + 1 → i < length b → drop i b ≡ get_or b i 0 ∷ drop j b
    on i j e h = rw e (at b i h)

module _ (takes : ℕ → ℕ → Bool) where
  -- in fewer bytes than a head has there is no field
  pub front-few : (tag : ℕ) (s : List ℕ) → length s < head_length → front takes tag s ≡ no_field
  unfolding front
  front-few tag [] h = refl
  front-few tag (t ∷ []) h = refl
  front-few tag (t ∷ high ∷ []) h = refl
  front-few tag (t ∷ high ∷ low ∷ s) h = absurd (omega arith)

  -- a field that stands first is found
  pub front-field : (tag : ℕ) (v s : List ℕ) → takes tag (length v) ≡ true → front takes tag (field tag v ++ s) ≡ value v s
  unfolding front field
  front-field tag v s h =
      rw (
        eq-eqb tag tag refl,
        div-add-mod' (length v) high_byte,
        h,
        le-leb (length v) (length (v ++ s)) (omega (arith, length-append v s)),
        take-append_seam v s,
        drop-append_seam v s,
      )

  -- and one of a length that the rule does not take is not
  pub front-other : (tag : ℕ) (v s : List ℕ) → takes tag (length v) ≡ false → front takes tag (field tag v ++ s) ≡ no_field
  unfolding front field
  front-other tag v s h = rw (eq-eqb tag tag refl, div-add-mod' (length v) high_byte, h)

  -- what one value of Front says of the bytes
  abbrev Says : ℕ → List ℕ → Front → Type 0
  Says tag b (value v s) = (b ≡ field tag v ++ s) × (takes tag (length v) ≡ true)
  Says tag b no_field = Unit {0}

  value-says : (tag high low : ℕ) (s : List ℕ) → low < high_byte → takes tag (high * high_byte + low) ≡ true
      → Says tag (tag ∷ high ∷ low ∷ s) (value_of (high * high_byte + low) s)
  unfolding field
  value-says tag high low s hl r = go (high * high_byte + low) refl r (leb (high * high_byte + low) (length s)) refl
    where
      go : (n : ℕ) → n ≡ high * high_byte + low → takes tag n ≡ true → (t : Bool) → leb n (length s) ≡ t
          → Says tag (tag ∷ high ∷ low ∷ s) (cond t (value (take n s) (drop n s)) no_field)
      go n e r true p =
          let l : length (take n s) ≡ n = length-take-le n s (leb-true n (length s) p) in
          let h : n / high_byte ≡ high = omega arith in
          let m : n % high_byte ≡ low = omega arith in
          (rw (l, h, m, take-append-drop n s), rw l r)
      go n e r false p = tt

  -- numbers in which a field is found are this field and what is behind it, where the low byte of the length is a byte
  front-says : (tag : ℕ) (b : List ℕ) → get_or b 2 0 < high_byte → Says tag b (front takes tag b)
  unfolding front
  front-says tag [] h = tt
  front-says tag (t ∷ []) h = tt
  front-says tag (t ∷ high ∷ []) h = tt
  front-says tag (t ∷ high ∷ low ∷ s) h = by-tag (eqb t tag) refl
    where
      by-rule : t ≡ tag → (u : Bool) → takes t (high * high_byte + low) ≡ u
          → Says tag (t ∷ high ∷ low ∷ s) (cond u (value_of (high * high_byte + low) s) no_field)
      by-rule e true p = rw e (value-says tag high low s h (rw e at p))
      by-rule e false p = tt

      by-tag : (u : Bool) → eqb t tag ≡ u
          → Says tag (t ∷ high ∷ low ∷ s) (cond u (cond (takes t (high * high_byte + low)) (value_of (high * high_byte + low) s) no_field) no_field)
      by-tag true p = by-rule (eqb-true t tag p) (takes t (high * high_byte + low)) refl
      by-tag false p = tt

  pub front-value : (tag : ℕ) (b v s : List ℕ) → Below 256 b → front takes tag b ≡ value v s
      → (b ≡ field tag v ++ s) × (takes tag (length v) ≡ true)
  front-value tag b v s h e = rw e at (front-says tag b (third b h))
    where
      third : (b : List ℕ) → Below 256 b → get_or b 2 0 < high_byte
      third [] h = omega arith
      third (t ∷ []) h = omega arith
      third (t ∷ high ∷ []) h = omega arith
      third (t ∷ high ∷ low ∷ s) h = h.1.1.0

  -- where a field's value stands, what is behind the field, what its length says, and that the rule takes it
  abbrev pub Standing : ℕ → List ℕ → List ℕ → List ℕ → Type 0
  Standing tag s v r =
      (v ≡ take (length v) (drop head_length s)) × (r ≡ drop (head_length + length v) s) × (head_length + length v ≤ length s)
      × (length v ≡ get_or s 1 0 * high_byte + get_or s 2 0) × (takes tag (length v) ≡ true)

  abbrev Stands : ℕ → List ℕ → Front → Type 0
  Stands tag s (value v r) = Standing tag s v r
  Stands tag s no_field = Unit {0}

  stands : (tag : ℕ) (s : List ℕ) → Stands tag s (front takes tag s)
  unfolding front
  stands tag [] = tt
  stands tag (t ∷ []) = tt
  stands tag (t ∷ high ∷ []) = tt
  stands tag (t ∷ high ∷ low ∷ s) =
      by_tests (eqb t tag) refl (high * high_byte + low) refl (takes t (high * high_byte + low)) refl (leb (high * high_byte + low) (length s)) refl
    where
      by_tests : (x : Bool) → eqb t tag ≡ x → (n : ℕ) → n ≡ high * high_byte + low → (y : Bool) → takes t n ≡ y → (z : Bool) → leb n (length s) ≡ z
          → Stands tag (t ∷ high ∷ low ∷ s) (cond x (cond y (cond z (value (take n s) (drop n s)) no_field) no_field) no_field)
      by_tests true is n e true r true p =
          let l : length (take n s) ≡ n = length-take-le n s (leb-true n (length s) p) in
          (rw l, rw l (drop-drop n head_length (t ∷ high ∷ low ∷ s)), omega (arith, leb-true n (length s) p), l ∙ e, rw (l, ← eqb-true t tag is) r)
      by_tests true is n e true r false p = tt
      by_tests true is n e false r z p = tt
      by_tests false is n e y r z p = tt

  pub front-stands : (tag : ℕ) (s v r : List ℕ) → front takes tag s ≡ value v r → Standing tag s v r
  front-stands tag s v r e = rw e at (stands tag s)

  -- so where a value has fewer bytes than the high byte counts, whatever numbers they are
  pub front-short : (tag : ℕ) (b v s : List ℕ) → front takes tag b ≡ value v s → length v < high_byte
      → (b ≡ field tag v ++ s) × (takes tag (length v) ≡ true)
  front-short tag b v s e h = rw e at (front-says tag b (omega (arith, (front-stands tag b v s e).3)))

  -- a value that is found has a length that the rule takes, whatever the bytes
  abbrev Taken : ℕ → Front → Type 0
  Taken tag (value v r) = takes tag (length v) ≡ true
  Taken tag no_field = Unit {0}

  taken : (tag : ℕ) (s : List ℕ) → Taken tag (front takes tag s)
  unfolding front
  taken tag [] = tt
  taken tag (t ∷ []) = tt
  taken tag (t ∷ high ∷ []) = tt
  taken tag (t ∷ high ∷ low ∷ s) = by-tag (eqb t tag) refl
    where
      by_length : (n : ℕ) → takes tag n ≡ true → (u : Bool) → leb n (length s) ≡ u → Taken tag (cond u (value (take n s) (drop n s)) no_field)
      by_length n r true p = rw (length-take-le n s (leb-true n (length s) p)) r
      by_length n r false p = tt

      by-rule : t ≡ tag → (n : ℕ) (u : Bool) → takes t n ≡ u → Taken tag (cond u (value_of n s) no_field)
      by-rule e n true p = by_length n (rw e at p) (leb n (length s)) refl
      by-rule e n false p = tt

      by-tag : (u : Bool) → eqb t tag ≡ u
          → Taken tag (cond u (cond (takes t (high * high_byte + low)) (value_of (high * high_byte + low) s) no_field) no_field)
      by-tag true p = by-rule (eqb-true t tag p) (high * high_byte + low) (takes t (high * high_byte + low)) refl
      by-tag false p = tt

  pub front-taken : (tag : ℕ) (s v r : List ℕ) → front takes tag s ≡ value v r → takes tag (length v) ≡ true
  front-taken tag s v r e = rw e at (taken tag s)

-- a field that has room is written
pub put-fits : (o : List ℕ) (at tag : ℕ) (v : List ℕ) → at + length (field tag v) ≤ length o → length v < high_byte * high_byte
    → (field_end o at tag v ≡ at + length (field tag v)) × (field_out o at tag v ≡ sets o at (field tag v))
unfolding field_end field_out
put-fits o at tag v h l =
    let room = le-leb (at + head_length + length v) (length o) (omega (arith, length-field tag v)) in
    let short = lt-ltb (length v) (high_byte * high_byte) l in
    (rw (short, room), rw (short, room))

-- and one that has none is not: its value is too long for two bytes, or it would end behind the buffer
pub put-long : (o : List ℕ) (at tag : ℕ) (v : List ℕ) → high_byte * high_byte ≤ length v → (field_end o at tag v ≡ at) × (field_out o at tag v ≡ o)
unfolding field_end field_out
put-long o at tag v h = let long = le-ltb (length v) (high_byte * high_byte) h in (rw long, rw long)

pub put-tight : (o : List ℕ) (at tag : ℕ) (v : List ℕ) → length v < high_byte * high_byte → length o < at + head_length + length v
    → (field_end o at tag v ≡ at) × (field_out o at tag v ≡ o)
unfolding field_end field_out
put-tight o at tag v l h =
    let short = lt-ltb (length v) (high_byte * high_byte) l in
    let tight = lt-leb (at + head_length + length v) (length o) h in
    (rw (short, tight), rw (short, tight))
