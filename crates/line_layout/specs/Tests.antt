-- The tests of a line of d account digits one after another, in the words of bytes and parts. Assumes nothing.
use Rattle.std.specs.Prelude.{◌≡◌, true, false, List, ℕ, ◌+◌, eqb, length, get_or}
use Rattle.std.proofs.Common.{eq-eqb, ne_eqb}
use Rattle.line_spec.specs.Lines.{nine, transit, on_us, all_digits}
use Rattle.line_spec.specs.Bytewise.{transit-is, transit-apart}
use Rattle.line_layout.specs.Layouts.{part, is_laid}

module _ (d : ℕ) (s : List ℕ) where
  pub other_length : (length s ≡ 12 + d → ⊥) → is_laid d s ≡ false
  unfolding is_laid
  other_length n = rw (ne_eqb (length s) (12 + d) n)

  module _ (l : length s ≡ 12 + d) where
    pub no-first : (get_or s 0 0 ≡ transit → ⊥) → is_laid d s ≡ false
    unfolding is_laid
    no-first n = rw (eq-eqb (length s) (12 + d) l, transit-apart (get_or s 0 0) n)

    module _ (f : get_or s 0 0 ≡ transit) where
      pub no_nine : all_digits (part 1 nine s) ≡ false → is_laid d s ≡ false
      unfolding is_laid
      no_nine n = rw (eq-eqb (length s) (12 + d) l, transit-is (get_or s 0 0) f, n)

      module _ (b : all_digits (part 1 nine s) ≡ true) where
        pub no_second : (get_or s 10 0 ≡ transit → ⊥) → is_laid d s ≡ false
        unfolding is_laid
        no_second n = rw (eq-eqb (length s) (12 + d) l, transit-is (get_or s 0 0) f, b, transit-apart (get_or s 10 0) n)

        module _ (g : get_or s 10 0 ≡ transit) where
          pub no-account : all_digits (part 11 d s) ≡ false → is_laid d s ≡ false
          unfolding is_laid
          no-account n = rw (eq-eqb (length s) (12 + d) l, transit-is (get_or s 0 0) f, b, transit-is (get_or s 10 0) g, n)

          -- the last byte decides
          pub by_last : all_digits (part 11 d s) ≡ true → is_laid d s ≡ eqb (get_or s (11 + d) 0) on_us
          unfolding is_laid
          by_last a =
              rw (eq-eqb (length s) (12 + d) l, transit-is (get_or s 0 0) f, b, transit-is (get_or s 10 0) g, a)
