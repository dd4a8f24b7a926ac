-- The instances of InGAGE (document 000, Table 2.1), one row each, and the rule that every row keeps, by which the cipher's steps fit
-- its state: one test computed over the whole table. Assumes nothing.
use Rattle.std.specs.Prelude.{Some, None, Option}
use Rattle.std.specs.Prelude.{ℕ, suc, ◌+◌, ◌-◌, ◌*◌, ◌/◌, ◌≤◌, ◌<◌, ◌≡◌, refl, Bool, true, false, cond, List, [], ◌∷◌, T, leb, ltb, length, get_or, replicate}
use Rattle.std.proofs.Common.{arith, subst, leb→le, ltb→lt, ltb-false}
use Rattle.base_lists.specs.Buffers.{same}
use Rattle.base_lists.specs.Sameness.{same-eq}
use Rattle.base_lists.specs.Table.{at, both, both_left, both_right}
use Rattle.gage_spec.specs.Permutation.{LARGEST, among, permitted}
use Rattle.gage_spec.specs.Tables.{is_true, permitted-size}
use Rattle.gage_sponge.specs.Padding.{LARGEST-RATE}
use Rattle.ingage_spec.specs.declared.Instance.{Instance}

-- the bits of a byte
abbrev pub BYTE : ℕ
BYTE = 8

-- Table 2.1: |K|, |N|, |T|, b and r of each instance, in bits
abbrev pub instances : List (List ℕ)
instances =
    (128 ∷ 96 ∷ 128 ∷ 232 ∷ 8 ∷ []) ∷ (128 ∷ 96 ∷ 128 ∷ 240 ∷ 16 ∷ []) ∷ (128 ∷ 96 ∷ 128 ∷ 256 ∷ 32 ∷ [])
    ∷ (128 ∷ 128 ∷ 128 ∷ 320 ∷ 64 ∷ []) ∷ (256 ∷ 96 ∷ 128 ∷ 512 ∷ 64 ∷ []) ∷ (256 ∷ 128 ∷ 128 ∷ 512 ∷ 64 ∷ []) ∷ []

-- instances are counted from 1
unfoldable pub unknown : ℕ → Bool
unknown i = cond (ltb i 1) true (ltb (length instances) i)

-- a row's sizes in bytes, and in bits again
abbrev pub in_bytes : List ℕ → Instance
in_bytes row = record {
  key = get_or row 0 0 / BYTE;
  nonce = get_or row 1 0 / BYTE;
  seal = get_or row 2 0 / BYTE;
  state = get_or row 3 0 / BYTE;
  rate = get_or row 4 0 / BYTE;
}

abbrev in_bits : Instance → List ℕ
in_bits z = z.key * BYTE ∷ z.nonce * BYTE ∷ z.seal * BYTE ∷ z.state * BYTE ∷ z.rate * BYTE ∷ []

abbrev row_of : ℕ → List ℕ
row_of i = get_or instances (i - 1) []

unfoldable pub instance_of : ℕ → Instance
instance_of i = in_bytes (row_of i)

unfoldable pub named : ℕ → Option Instance
named i = cond (unknown i) None (Some (instance_of i))

-- the first, by which frames are sealed
abbrev pub FIRST : ℕ
FIRST = 1

abbrev pub first : Instance
first = in_bytes (128 ∷ 96 ∷ 128 ∷ 232 ∷ 8 ∷ [])

-- the rule of a row: the state has a permitted size; nonce and key fit in it; a block has a byte at least and is smaller than the
-- largest that `last_block` pads; and behind the rate there is room for the seal
pub record Fitting (z : Instance) : Type 0 where
  pub allowed : permitted z.state ≡ true
  pub held : z.state ≤ LARGEST
  pub begins : z.nonce + z.key ≤ z.state
  pub moves : 1 ≤ z.rate
  pub small : z.rate < LARGEST-RATE
  pub ends : z.rate + z.seal ≤ z.state

-- the same as a test that computes, and that every size is of whole bytes
fits : Instance → Bool
fits z =
    both (permitted z.state)
    (both (leb (z.nonce + z.key) z.state)
    (both (leb 1 z.rate)
    (both (ltb z.rate LARGEST-RATE)
    (leb (z.rate + z.seal) z.state))))

keeps : ℕ → Bool
keeps i = both (same (in_bits (instance_of i)) (row_of i)) (fits (instance_of i))

fitting : (z : Instance) → T (fits z) → Fitting z
unfolding fits
fitting z t =
    let allowed : permitted z.state ≡ true = is_true (permitted z.state) (both_left (permitted z.state) _ t) in
    let t₁ = both_right (permitted z.state) _ t in
    let t₂ = both_right (leb (z.nonce + z.key) z.state) _ t₁ in
    let t₃ = both_right (leb 1 z.rate) _ t₂ in
    record {
      allowed = allowed;
      held = (permitted-size z.state allowed).1;
      begins = leb→le (z.nonce + z.key) z.state (both_left (leb (z.nonce + z.key) z.state) _ t₁);
      moves = leb→le 1 z.rate (both_left (leb 1 z.rate) _ t₂);
      small = ltb→lt z.rate LARGEST-RATE (both_left (ltb z.rate LARGEST-RATE) _ t₃);
      ends = leb→le (z.rate + z.seal) z.state (both_right (ltb z.rate LARGEST-RATE) _ t₃);
    }

-- a number that is not unknown is one of the table's rows
known-row : (i : ℕ) → unknown i ≡ false → (1 ≤ i) × (i ≤ length instances)
unfolding unknown
known-row i e = row (ltb i 1) refl e
  where
    row : (b : Bool) → ltb i 1 ≡ b → cond b true (ltb (length instances) i) ≡ false → (1 ≤ i) × (i ≤ length instances)
    row true h g = absurd (let z : ◌≡◌ {A = ℕ} 0 1 = cc g in omega arith)
    row false h g = (ltb-false i 1 h, ltb-false (length instances) i g)

-- the test over all of them
row_keeps : (k : ℕ) → k < length instances → T (keeps (suc k))
unfolding keeps fits instance_of same permitted among
row_keeps k h = at (λ j x. keeps (suc j)) (replicate (length instances) 0) tt k h

known-keeps : (i : ℕ) → unknown i ≡ false → T (keeps i)
known-keeps i e =
    let r = known-row i e in
    let k : suc (i - 1) ≡ i = omega arith in
    subst (λ (j : ℕ). T (keeps j)) k (row_keeps (i - 1) (omega arith))

-- every row keeps the rule
pub known-fits : (i : ℕ) → unknown i ≡ false → Fitting (instance_of i)
unfolding keeps
known-fits i e = fitting (instance_of i) (both_right (same (in_bits (instance_of i)) (row_of i)) _ (known-keeps i e))

pub known-whole : (i : ℕ) → unknown i ≡ false → in_bits (instance_of i) ≡ row_of i
unfolding keeps
known-whole i e =
    let t = both_left (same (in_bits (instance_of i)) (row_of i)) (fits (instance_of i)) (known-keeps i e) in
    same-eq (in_bits (instance_of i)) (row_of i) (is_true (same (in_bits (instance_of i)) (row_of i)) t)

-- and so does every instance that a number names
pub named-fits : (i : ℕ) (z : Instance) → named i ≡ Some z → Fitting z
unfolding named
named-fits i z e = by (unknown i) refl e
  where
    by : (b : Bool) → unknown i ≡ b → cond b None (Some (instance_of i)) ≡ Some z → Fitting z
    by true h g = absurd (let z : ◌≡◌ {A = ℕ} 0 1 = cc g in omega arith)
    by false h g = let e : instance_of i ≡ z = cc g in rw (← e) (known-fits i h)

-- the first row
pub first-named : named FIRST ≡ Some first
unfolding named unknown instance_of
first-named = refl

pub first_fits : Fitting first
first_fits = named-fits FIRST first first-named
