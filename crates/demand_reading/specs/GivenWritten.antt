-- The buyer's demand 3, second half, from the promises of `read` and `write` alone: a line is given exactly when the bytes between its
-- marks are those that a write call makes for that line under that key and font and some nonce and in edition two some job, and every frame that
-- a write call makes, standing anywhere in a stream, is read as its line, with its edition and its job. That a line is given asks that its edition
-- is allowed, and the calls of the permutation it takes; that
-- a line given is one written holds whatever is allowed. That the stream is bytes is a premise of `given-is-written`; what `read` is passed
-- meets it by its type (Bytes.antt, `read-bytes`). Assumes nothing.
use Rattle.std.specs.Prelude.{◌≡◌, true, ℕ, ◌≤◌, take, Result}
use mathlib.Core.List.{List}
use Rattle.std.proofs.Math.ListN.{length}
use Rattle.base_lists.specs.Below.{Below}
use Rattle.read_stretch.specs.Stretches.{span, bytes_at}
use Rattle.frame_body.specs.Fields.{nonce_length, job_size, Own}
use Rattle.frame_write.specs.Answers.{frame_made}
use Rattle.frame_write.specs.declared.Written.{Written}
use Rattle.frame_write.specs.declared.FrameRefusal.{FrameRefusal}
use Rattle.line_layout.specs.declared.Layout.{Layout}
use Rattle.frame_spec.specs.Told.{Told}
use Rattle.frame_spec.specs.Lengths.{frame_room}
use Rattle.read_call.specs.declared.Asked.{Asked}
use Rattle.read_call.specs.declared.Reading.{Reading}
use Rattle.read_call.specs.declared.Answer.TheVariants as answer-is
use Rattle.read_spec.specs.Sizes.{Sizes}
use Rattle.read_spec.specs.Editions.{allows}
use Rattle.read_spec.specs.Judged.{Label, label_of, line}
use Rattle.read_spec.specs.Judging.{judge}
use Rattle.read_call.specs.Answers.{stretch, found}
use Rattle.read_call.specs.Answers.{reading_at}
use Rattle.demand_reading.specs.Promises.{Writes}
use Rattle.demand_reading.specs.Written.{marked}

-- a line of n bytes is given for the stretch at these places with this edition and job, after k calls of the permutation
abbrev pub gives : ℕ → ℕ → Label → ℕ → ℕ → Reading
gives first closing b n k = reading_at (span first closing) (record { answer = answer-is.Line n k; edition = b.edition; job = b.job })

-- the stretch s' is what a write call of the line L with this key, font and layout, and with what is the frame's own, makes between the marks, in any
-- buffer with room
abbrev pub MadeWith : List ℕ → List ℕ → Layout → List ℕ → ℕ → List ℕ → Own → Type 0
MadeWith key font lay L k s' own =
    (f : List ℕ) (w : Result Written FrameRefusal) (f' : List ℕ) → frame_room own.edition ≤ length f → Writes key own font lay L f w f'
    → (n : ℕ) × (w ≡ frame_made n k) × (take n f' ≡ marked s')

-- by some nonce of 12 bytes and in edition two some job of 4, in an edition that is allowed; b is its edition and job as numbers
pub record Made (key font : List ℕ) (lay : Layout) (ed : ℕ) (b : Label) (L : List ℕ) (k : ℕ) (s' : List ℕ) : Type 0 where
  pub own : Own
  pub nonce-is : length own.nonce ≡ nonce_length
  pub job_is : length own.job ≡ job_size own.edition
  pub allowed : allows ed own.edition ≡ true
  pub labelled : label_of own ≡ b
  pub nonce-bytes : Below 256 own.nonce
  pub job-bytes : Below 256 own.job
  pub makes : MadeWith key font lay L k s' own

-- what a call that gives a line found: with its frame's own edition, nonce and job
pub record Gave (t : Told) (asked : Asked) (s : List ℕ) (from room p q : ℕ) (b : Label) (n k : ℕ) : Type 0 where
  pub sizes : Sizes t
  pub own : Own
  pub labelled : label_of own ≡ b
  pub the-line : List ℕ
  pub long : length the-line ≡ n
  pub found-is : found t asked s from room ≡ stretch (span p q) (line own the-line k)
  pub judged : judge t asked.editions (bytes_at s (span p q)) ≡ line own the-line k
