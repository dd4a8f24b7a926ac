-- A nonce as two numbers, high byte first, and that no two nonces are the same two. Assumes nothing.
use Rattle.std.specs.Prelude.{◌≡◌, refl, Bool, true, false, cond, List, [], ◌∷◌, ◌++◌, ℕ, ◌+◌, ◌*◌, eqb, length, take, drop}
use Rattle.std.proofs.Common.{sym, ap, ap₂, ◌∙◌, arith, length-take, length-drop, take-append-drop, eqb-true, eq-eqb}
use Rattle.base_lists.specs.Never.{never}
use Rattle.base_lists.specs.Below.{Below, below-take, below-drop}
use Rattle.base_lists.specs.Buffers.{same}
use Rattle.base_lists.specs.Sameness.{same_refl, same-eq}
use Rattle.frame_body.specs.Job.{high_first}
use Rattle.read_nonce.specs.Sizes.{Twelve}
use Rattle.accept_nonces.specs.declared.Words.{Words}

-- so many bytes make the first number; the other has those behind them
abbrev pub high_length : ℕ
high_length = 8

-- how many numbers four bytes have
abbrev pub four_bytes : ℕ
four_bytes = 4294967296

abbrev pub high : List ℕ → ℕ
high n = high_first 0 (take high_length n)

abbrev pub low : List ℕ → ℕ
low n = high_first 0 (drop high_length n)

abbrev pub words_of : List ℕ → Words
words_of n = record { high = high n; low = low n }

-- as many bytes with one number are the same bytes
one_number : (x y : ℕ) (a b : List ℕ) → length a ≡ length b → Below 256 a → Below 256 b → high_first x a ≡ high_first y b → (x ≡ y) × (a ≡ b)
one_number x y [] [] l p q e = (e, refl)
one_number x y [] (d ∷ b) l p q e = absurd (omega arith)
one_number x y (c ∷ a) [] l p q e = absurd (omega arith)
one_number x y (c ∷ a) (d ∷ b) l p q e =
    let (h, t) = one_number (x * 256 + c) (y * 256 + d) a b (omega arith) p.1 q.1 e in
    let c-is : c ≡ d = omega (arith, h, p.0, q.0) in
    (omega (arith, h, p.0, q.0), ap₂ ◌∷◌ c-is t)

-- the two numbers are compared in the place of the twelve bytes
pub same-words : (m n : List ℕ) → Twelve m → Twelve n → cond (eqb (high m) (high n)) (eqb (low m) (low n)) false ≡ same m n
same-words m n x y = by-same (same m n) refl
  where
    equal : high m ≡ high n → low m ≡ low n → m ≡ n
    equal p q =
        let a : take high_length m ≡ take high_length n =
        (one_number 0 0 (take high_length m) (take high_length n) (omega (arith, x.0, y.0, length-take high_length m, length-take high_length n))
        (below-take 256 high_length m x.1) (below-take 256 high_length n y.1) p).1 in
        let b : drop high_length m ≡ drop high_length n =
        (one_number 0 0 (drop high_length m) (drop high_length n) (omega (arith, x.0, y.0, length-drop high_length m, length-drop high_length n))
        (below-drop 256 high_length m x.1) (below-drop 256 high_length n y.1) q).1 in
        sym (take-append-drop high_length m) ∙ ap₂ ◌++◌ a b ∙ take-append-drop high_length n

    differ : (t u : Bool) → eqb (high m) (high n) ≡ t → eqb (low m) (low n) ≡ u → same m n ≡ false → cond t u false ≡ false
    differ false u p q e = refl
    differ true false p q e = refl
    differ true true p q e =
        never (sym e ∙ ap (λ (z : List ℕ). same z n) (equal (eqb-true (high m) (high n) p) (eqb-true (low m) (low n) q)) ∙ same_refl n)

    by-same : (t : Bool) → same m n ≡ t → cond (eqb (high m) (high n)) (eqb (low m) (low n)) false ≡ t
    by-same true e =
        let i : m ≡ n = same-eq m n e in
        rw (eq-eqb (high m) (high n) (ap high i)) (eq-eqb (low m) (low n) (ap low i))
    by-same false e = differ (eqb (high m) (high n)) (eqb (low m) (low n)) refl refl e
