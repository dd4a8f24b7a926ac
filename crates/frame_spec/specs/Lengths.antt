-- What the writer can seal, how long bodies, stretches and frames then are (document 01, 'A frame and a stream', and order W6), and what it
-- counts. Assumes nothing.
use Rattle.std.specs.Prelude.{◌≡◌, refl, List, ℕ, ◌+◌, ◌*◌, ◌≤◌, ◌<◌, length}
use Rattle.std.proofs.Common.{◌∙◌, length-append}
use native.Mathlib.Omega.{arith}
use Rattle.line_spec.specs.Lines.{longest}
use Rattle.ingage_spec.specs.Instances.{first, first_fits}
use Rattle.ingage_spec.proofs.Results.{seal-calls-first, length-encrypted, length-seal}
use Rattle.frame_body.specs.declared.Edition.{Edition}
use Rattle.frame_body.specs.declared.Edition.TheVariants.{Two}
use Rattle.frame_body.specs.Fields.{nonce_length, digest_length, shortest, job_size, Own, associated}
use Rattle.frame_body.specs.Lengths.{Sized, job_field_length, beside_cipher, shortest_body, longest_body}
use Rattle.frame_body.proofs.Lengths.{job-field-most, length-associated, length-body}
use Rattle.frame_stuff_spec.specs.Stuffing.{longest_stretch, stuffed}
use Rattle.frame_stuff_spec.specs.Lengths.{stuffed-at-most, stuffed-at-least}
use Rattle.frame_spec.specs.Told.{Told, key_length}
use Rattle.frame_spec.specs.Frames.{sealed_line, sealed_body, framed, frame_of}

-- what the writer counts for a line of n bytes is n + 39 (document 01, 'Numbers returned'), in edition two n + 46 (order W6)
abbrev pub beside_line : Edition → ℕ
beside_line e = 39 + job_field_length e

-- the room that a frame asks for, whatever its own length: 276 (document 01, number 4), in edition two 290 (order W6)
abbrev pub frame_room : Edition → ℕ
frame_room e = 276 + 2 * job_field_length e

-- the shortest frame: two marks and the shortest body with no byte escaped
abbrev pub shortest_frame : Edition → ℕ
shortest_frame e = 75 + job_field_length e

-- order W6's numbers for edition two
pub edition-two-frames : (beside_line Two ≡ 46) × (frame_room Two ≡ 290)
edition-two-frames = (refl, refl)

-- key, nonce, job, font digest and line with their lengths
pub record Sealable (t : Told) (own : Own) (line : List ℕ) : Type 0 where
  pub key-is : length t.key ≡ key_length
  pub nonce-is : length own.nonce ≡ nonce_length
  pub job_is : length own.job ≡ job_size own.edition
  pub font-is : length t.font ≡ digest_length
  pub line-from : shortest ≤ length line
  pub line-to : length line ≤ longest

pub length-framed : (b : List ℕ) → length (framed b) ≡ length (stuffed b) + 2
unfolding framed
length-framed b = rw length-append (omega arith)

module _ {t : Told} {own : Own} {line : List ℕ} (z : Sealable t own line) where
  pub length-cipher : length (sealed_line t own line).text ≡ length line
  unfolding sealed_line
  length-cipher = length-encrypted first first_fits t.key own.nonce _ z.key-is z.nonce-is line

  pub length-sealed : length (sealed_line t own line).seal ≡ first.seal
  unfolding sealed_line
  length-sealed = length-seal first first_fits t.key own.nonce _ z.key-is z.nonce-is line

  -- the body's values have their lengths
  pub sealed-sized : Sized own t.font (sealed_line t own line).text (sealed_line t own line).seal
  sealed-sized = record {
    nonce-is = z.nonce-is;
    job_is = z.job_is;
    digest-is = z.font-is;
    cipher-from = rw length-cipher z.line-from;
    cipher-to = rw length-cipher z.line-to;
    seal-is = length-sealed;
  }

  pub length-sealed-body : length (sealed_body t own line) ≡ beside_cipher own.edition + length line
  unfolding sealed_body
  length-sealed-body = length-body sealed-sized ∙ rw length-cipher

  pub sealed-body-lengths : (shortest_body own.edition ≤ length (sealed_body t own line)) × (length (sealed_body t own line) ≤ longest_body own.edition)
  sealed-body-lengths = (omega (arith, length-sealed-body, z.line-from), omega (arith, length-sealed-body, z.line-to))

  -- what stands between the marks is a stretch that is judged
  pub stretch-some : 0 < length (stuffed (sealed_body t own line))
  stretch-some = omega (arith, stuffed-at-least (sealed_body t own line), sealed-body-lengths)

  pub stretch-within : length (stuffed (sealed_body t own line)) ≤ longest_stretch
  stretch-within = omega (arith, stuffed-at-most (sealed_body t own line), sealed-body-lengths, job-field-most own.edition)

  pub frame-lengths : (shortest_frame own.edition ≤ length (frame_of t own line)) × (length (frame_of t own line) ≤ frame_room own.edition)
  unfolding frame_of
  frame-lengths = (
    omega (arith, length-framed (sealed_body t own line), stuffed-at-least (sealed_body t own line), sealed-body-lengths),
    omega (arith, length-framed (sealed_body t own line), stuffed-at-most (sealed_body t own line), sealed-body-lengths),
  )

  -- the calls of the permutation, counted on the cipher's steps
  pub write-calls : (sealed_line t own line).calls ≡ length line + beside_line own.edition
  unfolding sealed_line
  write-calls =
      omega (
        arith,
        seal-calls-first t.key own.nonce (associated own.edition t.font own.job) line,
        length-associated own.edition t.font own.job z.font-is z.job_is,
      )
