-- The steps of `sealed_body` on plain lists: the associated data, the sealed line and the body, each in its scratch. Assumes nothing.
use Rattle.std.specs.Prelude.{Ok}
use mathlib.Core.Path.{◌≡◌, ap, ◌∙◌}
use mathlib.Core.List.{List}
use Prim.Native.Nat.{ℕ, ◌≤◌}
use native.Mathlib.Omega.{arith}
use lib.ListN.{length, take, drop}
use Rattle.base_lists.specs.Buffers.{over}
use Rattle.base_lists.specs.Over.{take-over}
use Rattle.ingage_spec.specs.Instances.{named, FIRST, first}
use Rattle.ingage_answers.specs.Answers.{SealCall, seal_call, seal_named}
use Rattle.ingage_answers.specs.Naming.{seal-first}
use Rattle.ingage_answers.specs.Exactly.{sealed-within}
use Rattle.frame_body.specs.declared.Edition.TheVariants.{Two}
use Rattle.frame_body.specs.Fields.{Own, associated}
use Rattle.frame_body.specs.Lengths.{associated_length, longest_body}
use Rattle.frame_body.proofs.Lengths.{job-field-most, length-associated}
use Rattle.frame_put.specs.Answers.{associated_out, put_out}
use Rattle.frame_put.specs.Outcomes.{associated-done, put-done}
use Rattle.frame_spec.specs.Told.{Told}
use Rattle.frame_spec.specs.Frames.{sealed_line, sealed_body}
use Rattle.frame_spec.specs.Lengths.{Sealable, length-cipher, sealed-sized, sealed-body-lengths}

module _ {t : Told} {own : Own} {line : List ℕ} (z : Sealable t own line) where
  abbrev assoc : List ℕ
  assoc = associated own.edition t.font own.job

  length-assoc : length assoc ≡ associated_length own.edition
  length-assoc = length-associated own.edition t.font own.job z.font-is z.job_is

  -- the first bytes of a scratch that has room for the longest are the associated data
  pub associated-put : (o x : List ℕ) → length o ≡ associated_length Two → x ≡ associated_out own.edition t.font own.job o
      → (n : ℕ) → n ≡ associated_length own.edition → take n (drop 0 x) ≡ assoc
  associated-put o x e h n k =
      let room : length assoc ≤ length o = omega (arith, length-assoc, job-field-most own.edition) in
      let held : x ≡ over assoc o = h ∙ (associated-done own.edition t.font own.job o z.font-is z.job_is room).1 in
      rw held (take-over assoc o n (omega (arith, length-assoc)))

  -- seal makes the sealed line
  module _ (A cipher seal : List ℕ) (e : A ≡ assoc) (l : length line ≤ length cipher) (k : length seal ≡ first.seal) where
    sealed-call : seal_call first t.key own.nonce A line cipher seal ≡ record {
      answer = Ok (sealed_line t own line).calls;
      out = over (sealed_line t own line).text cipher;
      seal = (sealed_line t own line).seal;
    }
    unfolding sealed_line
    sealed-call =
        rw e
        (sealed-within first t.key own.nonce assoc line seal cipher (record {
          key-size = z.key-is;
          nonce-size = z.nonce-is;
          seal-size = k;
          associated = omega (arith, length-assoc, job-field-most own.edition);
          short = omega (arith, z.line-to);
          room = l;
        }))

    pub sealed-text : (x : List ℕ) → x ≡ (seal_named (named FIRST) t.key own.nonce A line cipher seal).out → x ≡ over (sealed_line t own line).text cipher
    sealed-text x h = h ∙ ap (λ (w : SealCall). w.out) (seal-first t.key own.nonce A line cipher seal ∙ sealed-call)

    pub sealed-seal : (x : List ℕ) → x ≡ (seal_named (named FIRST) t.key own.nonce A line cipher seal).seal → x ≡ (sealed_line t own line).seal
    sealed-seal x h = h ∙ ap (λ (w : SealCall). w.seal) (seal-first t.key own.nonce A line cipher seal ∙ sealed-call)

  -- the first bytes of the scratch are the ciphertext
  cipher-taken : (o x : List ℕ) → x ≡ over (sealed_line t own line).text o → take (length line) (drop 0 x) ≡ (sealed_line t own line).text
  cipher-taken o x e = rw e (take-over (sealed_line t own line).text o (length line) (omega (arith, length-cipher z)))

  -- and put_body the sealed body
  pub body-put : (c cipher seal o x : List ℕ) → cipher ≡ over (sealed_line t own line).text c → seal ≡ (sealed_line t own line).seal
      → longest_body Two ≤ length o → x ≡ put_out own t.font (take (length line) (drop 0 cipher)) seal o → x ≡ over (sealed_body t own line) o
  unfolding sealed_body
  body-put c cipher seal o x e s l h =
      h
      ∙ rw (cipher-taken c cipher e, s)
      (put-done own t.font (sealed_line t own line).text (sealed_line t own line).seal o (sealed-sized z)
      (omega (arith, sealed-body-lengths z, job-field-most own.edition))).1
