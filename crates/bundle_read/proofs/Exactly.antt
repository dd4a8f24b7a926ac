-- The reader accepts exactly what the writer can make: bundles of a name and rows that fit, no two glyphs alike. Assumes nothing.
use Rattle.std.specs.Prelude.{◌≡◌, refl, Bool, true, false, cond, List, ℕ, ◌+◌, ◌≤◌, length, Ok}
use Rattle.std.proofs.Common.{ap, ◌∙◌, arith}
use Rattle.bundle_spec.specs.Bundles.{name_tag, longest_name, all_rows, takes, bundle_of, dotted, alike, Parts, parts, no-parts, parts_of}
use Rattle.bundle_spec.specs.Lengths.{beside_name, Fitting, length-bundle, name-taken}
use Rattle.bundle_spec.specs.Exactly.{parts-bundle, bundle-parts}
use Rattle.bundle_read.specs.Answers.{told, judged, read_answer}
use Rattle.bundle_read.specs.Exactly.{Bundled}

-- what is made of a name and rows of right lengths is read by its dots, and by whether two glyphs are alike
pub read_made : (name r : List ℕ) → takes name_tag (length name) ≡ true → length r ≡ all_rows
    → read_answer (bundle_of name r) ≡ told (dotted r) (alike r) (length name)
unfolding read_answer
read_made name r t h = ap judged (parts-bundle name r t h) ∙ go (dotted r)
  where
    go : (t : Bool) → judged (cond t (parts name r) no-parts) ≡ told t (alike r) (length name)
    go true = refl
    go false = refl

-- what the writer can make is read, with its name's length
pub written_read : {name r : List ℕ} → Fitting name r → alike r ≡ false → read_answer (bundle_of name r) ≡ Ok (length name)
written_read {name} {r} f u = read_made name r f.name-rule f.rows_are ∙ rw (f.dots, u)

-- and what is read, the writer can make
pub read-written : (b : List ℕ) (n : ℕ) → read_answer b ≡ Ok n → Bundled b n
unfolding read_answer
read-written b n e = go (parts_of b) refl e
  where
    by_alike : (name r : List ℕ) → parts_of b ≡ parts name r → (t : Bool) → alike r ≡ t → told true t (length name) ≡ Ok n → Bundled b n
    by_alike name r p true a q = absurd (let z : ◌≡◌ {A = ℕ} 0 1 = cc q in omega arith)
    by_alike name r p false a q =
        let made = bundle-parts b name r p in
        record { name = name; rows = r; is = made.0; fits = made.1; unlike = a; long = cc q }

    go : (x : Parts) → parts_of b ≡ x → judged x ≡ Ok n → Bundled b n
    go no-parts p q = absurd (let z : ◌≡◌ {A = ℕ} 0 1 = cc q in omega arith)
    go (parts name r) p q = by_alike name r p (alike r) refl q

-- a bundle's length, and the bound of its name's
pub read_length : (b : List ℕ) (n : ℕ) → read_answer b ≡ Ok n → (length b ≡ beside_name + n) × (n ≤ longest_name)
read_length b n e =
    let w = read-written b n e in (
      ap length w.is ∙ length-bundle w.name w.rows w.fits.rows_are ∙ ap (λ (k : ℕ). beside_name + k) w.long,
      omega (arith, name-taken (length w.name) w.fits.name-rule, w.long),
    )
