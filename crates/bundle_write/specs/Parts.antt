-- The parts of a bundle stand in it. Assumes nothing.
use Rattle.std.specs.Prelude.{◌≡◌, refl, Bool, true, false, cond, List, ℕ, ◌+◌, ◌≤◌, ltb, length, Ok, Err, Result}
use Rattle.std.proofs.Common.{arith, ltb-true}
use Rattle.bundle_spec.specs.Bundles.{glyph_rows, characters, glyph_count}
use Rattle.bundle_spec.specs.Lengths.{beside_name}
use Rattle.bundle_spec.specs.Places.{glyph_at, index_of}
use Rattle.bundle_read.specs.declared.BundleFault.{BundleFault}
use Rattle.bundle_read.specs.declared.BundleFault.TheVariants.{Shape, Alike}
use Rattle.bundle_read.specs.Answers.{read_answer}
use Rattle.bundle_read.proofs.Exactly.{read_length}
use Rattle.bundle_write.specs.declared.Part.{Part}
use Rattle.bundle_write.specs.Answers.{part, no_part, name_by, name_part, rows_by, rows_part}

-- a part of some bytes ends within them
abbrev pub Inside : Part → List ℕ → Type 0
Inside p b = p.first + p.length ≤ length b

pub name-inside : (b : List ℕ) → Inside (name_part b) b
unfolding name_part
name-inside b = go (read_answer b) refl
  where
    go : (x : Result ℕ BundleFault) → read_answer b ≡ x → Inside (name_by x b) b
    go (Ok n) e = omega (arith, read_length b n e)
    go (Err Shape) e = omega arith
    go (Err Alike) e = omega arith

pub rows_inside : (b : List ℕ) (c : ℕ) → Inside (rows_part b c) b
unfolding rows_part
rows_inside b c = go (read_answer b) refl
  where
    by_place : (n i : ℕ) → length b ≡ beside_name + n → (t : Bool) → ltb i glyph_count ≡ t
        → Inside (cond t (part (glyph_at n i) glyph_rows) (no_part b)) b
    by_place n i l true p = omega (arith, l, ltb-true i glyph_count p)
    by_place n i l false p = omega arith

    go : (x : Result ℕ BundleFault) → read_answer b ≡ x → Inside (rows_by x (index_of c characters) b) b
    go (Ok n) e = by_place n (index_of c characters) (read_length b n e).0 (ltb (index_of c characters) glyph_count) refl
    go (Err Shape) e = omega arith
    go (Err Alike) e = omega arith
