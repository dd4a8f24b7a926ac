-- The order of the refusals, one law for each answer, with the buffer that goes with it. Assumes nothing.
use Rattle.std.proofs.Math.Path.{◌≡◌, refl}
use Rattle.std.proofs.Common.{sym, ◌∙◌, arith}
use Rattle.std.specs.Prelude.{Bool, List, ℕ, ◌≤◌, ◌<◌, length, Ok, Err, Result}
use Rattle.std.proofs.Math.Bool.{true, false}
use Rattle.std.proofs.Math.Dec.{ltb}
use borrow.Author.Tests.{lt-ltb, le-ltb, eq-eqb, ne_eqb}
use Rattle.digest_spec.specs.Instances.{DIGEST}
use Rattle.digest_call.specs.Answers.{LONGEST-MESSAGE}
use Rattle.bundle_spec.specs.Bundles.{name_tag, all_rows, takes, bundle_of, dotted, fitting, alike}
use Rattle.bundle_spec.specs.Lengths.{longest_bundle}
use Rattle.bundle_read.specs.declared.BundleFault.{BundleFault}
use Rattle.bundle_read.specs.declared.BundleFault.TheVariants as bundle-is
use Rattle.bundle_read.specs.Answers.{told, read_answer}
use Rattle.bundle_read.proofs.Exactly.{read_made}
use Rattle.bundle_write.specs.declared.BundleRefusal.TheVariants as written_is
use Rattle.bundle_write.specs.declared.FontRefusal.TheVariants as digested-is
use Rattle.bundle_write.specs.Answers.{refusal_for, font_refusal_for, write_answer, write_out, digest_answer, digest_out}
use Rattle.bundle_write.specs.Steps.{given_answer, given_out, font_answer, font_out}

-- the writer: a name or rows of another length
module _ (name r o : List ℕ) where
  pub name-refused : takes name_tag (length name) ≡ false → (Err written_is.Shape ≡ write_answer name r o) × (o ≡ write_out name r o)
  unfolding write_answer write_out fitting
  name-refused e = (rw e, rw e)

  pub rows-refused : takes name_tag (length name) ≡ true → (length r ≡ all_rows → ⊥) → (Err written_is.Shape ≡ write_answer name r o) × (o ≡ write_out name r o)
  unfolding write_answer write_out fitting
  rows-refused e h = let n = ne_eqb (length r) all_rows h in (rw (e, n), rw (e, n))

  -- and what the reader says of the bundle of others
  module _ (rule : takes name_tag (length name) ≡ true) (rows_are : length r ≡ all_rows) where
    fits : fitting name r ≡ dotted r
    unfolding fitting
    fits = rw (rule, eq-eqb (length r) all_rows rows_are)

    by-dots : (x : Result ℕ BundleFault) → read_answer (bundle_of name r) ≡ x → (t : Bool) → dotted r ≡ t → (u : Bool) → alike r ≡ u → told t u (length name) ≡ x
    by-dots x e t p u q = rw (← p, ← q) (sym (read_made name r rule rows_are) ∙ e)

    pub shape-refused : read_answer (bundle_of name r) ≡ Err bundle-is.Shape → (Err written_is.Shape ≡ write_answer name r o) × (o ≡ write_out name r o)
    unfolding write_answer write_out
    shape-refused e = go (dotted r) refl (alike r) refl
      where
        go : (t : Bool) → dotted r ≡ t → (u : Bool) → alike r ≡ u → (Err written_is.Shape ≡ write_answer name r o) × (o ≡ write_out name r o)
        go false p u q = (rw (fits, p), rw (fits, p))
        go true p true q = absurd (let z : ◌≡◌ {A = ℕ} 0 1 = cc (by-dots (Err bundle-is.Shape) e true p true q) in omega arith)
        go true p false q = absurd (let z : ◌≡◌ {A = ℕ} 0 1 = cc (by-dots (Err bundle-is.Shape) e true p false q) in omega arith)

    pub alike-refused : read_answer (bundle_of name r) ≡ Err bundle-is.Alike → (Err written_is.Alike ≡ write_answer name r o) × (o ≡ write_out name r o)
    unfolding write_answer write_out
    alike-refused e = go (dotted r) refl (alike r) refl
      where
        go : (t : Bool) → dotted r ≡ t → (u : Bool) → alike r ≡ u → (Err written_is.Alike ≡ write_answer name r o) × (o ≡ write_out name r o)
        go true p true q = (rw (fits, p, q), rw (fits, p, q))
        go false p u q = absurd (let z : ◌≡◌ {A = ℕ} 0 1 = cc (by-dots (Err bundle-is.Alike) e false p u q) in omega arith)
        go true p false q = absurd (let z : ◌≡◌ {A = ℕ} 0 1 = cc (by-dots (Err bundle-is.Alike) e true p false q) in omega arith)

    pub fault-refused : (f : BundleFault) → read_answer (bundle_of name r) ≡ Err f → (Err (refusal_for f) ≡ write_answer name r o) × (o ≡ write_out name r o)
    fault-refused bundle-is.Shape = shape-refused
    fault-refused bundle-is.Alike = alike-refused

    pub given : (n : ℕ) → read_answer (bundle_of name r) ≡ Ok n
        → (given_answer (bundle_of name r) o ≡ write_answer name r o) × (given_out (bundle_of name r) o ≡ write_out name r o)
    unfolding write_answer write_out
    given n e = go (dotted r) refl (alike r) refl (ltb (length o) longest_bundle) refl
      where
        go : (t : Bool) → dotted r ≡ t → (u : Bool) → alike r ≡ u → (v : Bool) → ltb (length o) longest_bundle ≡ v
            → (given_answer (bundle_of name r) o ≡ write_answer name r o) × (given_out (bundle_of name r) o ≡ write_out name r o)
        go true p false q true s = (rw (fits, p, q, s), rw (fits, p, q, s))
        go true p false q false s = (rw (fits, p, q, s), rw (fits, p, q, s))
        go false p u q v s = absurd (let z : ◌≡◌ {A = ℕ} 0 1 = cc (by-dots (Ok n) e false p u q) in omega arith)
        go true p true q v s = absurd (let z : ◌≡◌ {A = ℕ} 0 1 = cc (by-dots (Ok n) e true p true q) in omega arith)

-- the digest: too long, or what the reader says
module _ (b o : List ℕ) where
  pub long-refused : LONGEST-MESSAGE < length b → (Err digested-is.TooLong ≡ digest_answer b o) × (o ≡ digest_out b o)
  unfolding digest_answer digest_out
  long-refused h = let l = lt-ltb LONGEST-MESSAGE (length b) h in (rw l, rw l)

  module _ (fits : length b ≤ LONGEST-MESSAGE) where
    pub faulty-bundle : (f : BundleFault) → read_answer b ≡ Err f → (Err (font_refusal_for f) ≡ digest_answer b o) × (o ≡ digest_out b o)
    unfolding digest_answer digest_out
    faulty-bundle bundle-is.Shape e = let l = le-ltb LONGEST-MESSAGE (length b) fits in (rw (l, e), rw (l, e))
    faulty-bundle bundle-is.Alike e = let l = le-ltb LONGEST-MESSAGE (length b) fits in (rw (l, e), rw (l, e))

    pub no-bundle : read_answer b ≡ Err bundle-is.Shape → (Err digested-is.Shape ≡ digest_answer b o) × (o ≡ digest_out b o)
    no-bundle = faulty-bundle bundle-is.Shape

    pub alike-bundle : read_answer b ≡ Err bundle-is.Alike → (Err digested-is.Alike ≡ digest_answer b o) × (o ≡ digest_out b o)
    alike-bundle = faulty-bundle bundle-is.Alike

    pub of-bundle : (n : ℕ) → read_answer b ≡ Ok n → (font_answer o ≡ digest_answer b o) × (font_out b o ≡ digest_out b o)
    unfolding digest_answer digest_out
    of-bundle n e = go (ltb (length o) DIGEST) refl
      where
        go : (t : Bool) → ltb (length o) DIGEST ≡ t → (font_answer o ≡ digest_answer b o) × (font_out b o ≡ digest_out b o)
        go true p = let l = le-ltb LONGEST-MESSAGE (length b) fits in (rw (l, e, p), rw (l, e, p))
        go false p = let l = le-ltb LONGEST-MESSAGE (length b) fits in (rw (l, e, p), rw (l, e, p))
