-- What each return of `open_line` has to show, from the tests of the two lengths, and what `open_beside` has. Assumes nothing.
use Rattle.std.specs.Prelude.{Err, Result}
use mathlib.Core.Path.{◌≡◌, sym, ap, ◌∙◌}
use mathlib.Core.List.{List, []}
use Prim.Native.Nat.{ℕ, ◌-◌, ◌≤◌, ◌<◌}
use native.Mathlib.Omega.{arith}
use lib.ListN.{length, take, drop, replicate}
use borrow.Author.Tests.{lt-ltb, le-ltb}
use Rattle.line_spec.specs.Lines.{longest}
use Rattle.line_layout.specs.declared.Layout.{Layout}
use Rattle.ingage_spec.specs.Instances.{named, FIRST}
use Rattle.ingage_answers.specs.declared.OpenRefusal.{OpenRefusal}
use Rattle.ingage_answers.specs.Answers.{open_named}
use Rattle.read_open.specs.declared.OpenFault.{OpenFault}
use Rattle.read_open.specs.declared.OpenFault.TheVariants as found
use Rattle.read_open.specs.Opened.{found_by, line_by, LineCall, line_call, open_beside, open_line}

module _ (l : Layout) (key nonce A C T o : List ℕ) where
  -- what `open` answered and left, judged
  pub judged : (text : List ℕ) (a : Result ℕ OpenRefusal) (w : List ℕ) → a ≡ (open_named (named FIRST) key nonce A C T text).answer
      → w ≡ (open_named (named FIRST) key nonce A C T text).out
      → (r : Result ℕ OpenFault) (o' : List ℕ) → r ≡ found_by l a (take (length C - 0) (drop 0 w)) → o' ≡ line_by (found_by l a (take (length C - 0) (drop 0 w)))
      (take (length C - 0) (drop 0 w)) o
      → (r ≡ (open_beside l key nonce A C T text o).answer) × (o' ≡ (open_beside l key nonce A C T text o).line)
  unfolding open_beside
  judged text a w x y r o' p q = let z : length C - 0 ≡ length C = omega arith in (p ∙ rw (z, x, y), q ∙ rw (z, x, y))

  abbrev Met : Result ℕ OpenFault → List ℕ → Type 0
  Met r w = (r ≡ (open_line l key nonce A C T o).answer) × (w ≡ (open_line l key nonce A C T o).line)

  met : (x : LineCall) → open_line l key nonce A C T o ≡ x → Met x.answer x.line
  met x e = (ap (λ (y : LineCall). y.answer) (sym e), ap (λ (y : LineCall). y.line) (sym e))

  pub too_long : longest < length C → Met (Err found.Sizes) o
  unfolding open_line
  too_long h = met (line_call (Err found.Sizes) [] o) (rw (lt-ltb longest (length C) h))

  module _ (h : length C ≤ longest) where
    pub no_room : length o < length C → Met (Err found.Sizes) o
    unfolding open_line
    no_room g = met (line_call (Err found.Sizes) [] o) (rw (le-ltb longest (length C) h, lt-ltb (length o) (length C) g))

    pub beside : length C ≤ length o → (r : Result ℕ OpenFault) (o' : List ℕ) → r ≡ (open_beside l key nonce A C T (replicate longest 0) o).answer
        → o' ≡ (open_beside l key nonce A C T (replicate longest 0) o).line → Met r o'
    unfolding open_line
    beside g r o' p q =
        let m = met (open_beside l key nonce A C T (replicate longest 0) o) (rw (le-ltb longest (length C) h, le-ltb (length o) (length C) g)) in
        (p ∙ m.0, q ∙ m.1)
