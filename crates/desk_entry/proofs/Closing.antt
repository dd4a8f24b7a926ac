-- One law for each return of `closing_of`: what is known there gives the definition's place. Assumes nothing.
use mathlib.Core.Path.{◌≡◌, sym, ap, ◌∙◌}
use mathlib.Core.List.{List}
use Prim.Native.Nat.{ℕ, ◌≤◌, ◌<◌}
use lib.ListN.{length}
use borrow.Author.Tests.{eq-eqb, ne_eqb, lt-ltb, le-ltb}
use Rattle.frame_spec.specs.Told.{Told}
use Rattle.read_call.specs.declared.Reading.{Reading}
use Rattle.read_call.specs.Answers.{LINE, outcome_of}
use Rattle.desk_spec.specs.Desk.{anew, closing_of}

module _ (t : Told) (editions : ℕ) (s : List ℕ) (place : ℕ) where
  pub at-start : place ≡ 0 → 0 ≡ closing_of t editions s place
  unfolding closing_of
  at-start e = rw (eq-eqb place 0 e)

  module _ (some : place ≡ 0 → ⊥) where
    pub beyond : length s < place → 0 ≡ closing_of t editions s place
    unfolding closing_of
    beyond h = rw (ne_eqb place 0 some, lt-ltb (length s) place h)

    module _ (h : place ≤ length s) (r : Reading) (e : r ≡ anew t editions s place) where
      pub elsewhere : (r.first ≡ place → ⊥) → 0 ≡ closing_of t editions s place
      unfolding closing_of
      elsewhere d =
          let first : (anew t editions s place).first ≡ place → ⊥ = λ q. d (ap (λ (x : Reading). x.first) e ∙ q) in
          rw (ne_eqb place 0 some, le-ltb (length s) place h, ne_eqb (anew t editions s place).first place first)

      module _ (at : r.first ≡ place) (n : ℕ) (o : n ≡ outcome_of r.answer) where
        there : (anew t editions s place).first ≡ place
        there = sym (ap (λ (x : Reading). x.first) e) ∙ at

        is : n ≡ outcome_of (anew t editions s place).answer
        is = o ∙ ap (λ (x : Reading). outcome_of x.answer) e

        pub no_line : (n ≡ LINE → ⊥) → 0 ≡ closing_of t editions s place
        unfolding closing_of
        no_line d =
            rw (
              ne_eqb place 0 some,
              le-ltb (length s) place h,
              eq-eqb (anew t editions s place).first place there,
              ne_eqb (outcome_of (anew t editions s place).answer) LINE (λ q. d (is ∙ q)),
            )

        pub a-line : n ≡ LINE → r.closing ≡ closing_of t editions s place
        unfolding closing_of
        a-line q =
            rw (
              ne_eqb place 0 some,
              le-ltb (length s) place h,
              eq-eqb (anew t editions s place).first place there,
              eq-eqb (outcome_of (anew t editions s place).answer) LINE (sym is ∙ q),
            )
            (ap (λ (x : Reading). x.closing) e)
