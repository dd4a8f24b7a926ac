-- What the steps of the calls tell. Assumes nothing: these are definitions.
use Rattle.std.specs.Prelude.{cond, List, ℕ, ltb, length, Ok, Err, Result, ⊤}
use Rattle.base_lists.specs.Buffers.{over}
use Rattle.digest_spec.specs.Instances.{DIGEST}
use Rattle.bundle_spec.specs.Lengths.{longest_bundle}
use Rattle.bundle_write.specs.declared.BundleRefusal.{BundleRefusal}
use Rattle.bundle_write.specs.declared.BundleRefusal.TheVariants as written_is
use Rattle.bundle_write.specs.declared.FontRefusal.{FontRefusal}
use Rattle.bundle_write.specs.declared.FontRefusal.TheVariants as digested-is
use Rattle.bundle_write.specs.Answers.{bundle_digest}

-- a bundle b given out: room for the longest (4), else it stands over the buffer's first bytes
abbrev pub given_answer : List ℕ → List ℕ → Result ℕ BundleRefusal
given_answer b o = cond (ltb (length o) longest_bundle) (Err written_is.NoRoom) (Ok (length b))

abbrev pub given_out : List ℕ → List ℕ → List ℕ
given_out b o = cond (ltb (length o) longest_bundle) o (over b o)

-- the digest of a bundle b given out: room (4), else it stands over the buffer's first bytes
abbrev pub font_answer : List ℕ → Result ⊤ FontRefusal
font_answer o = cond (ltb (length o) DIGEST) (Err digested-is.NoRoom) (Ok tt)

abbrev pub font_out : List ℕ → List ℕ → List ℕ
font_out b o = cond (ltb (length o) DIGEST) o (over (bundle_digest b) o)
