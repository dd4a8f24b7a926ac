-- Demand 3, second half, over the definitions: a reader's judge gives a line for a stretch's bytes exactly when the writer's frame of that line,
-- of an edition that the reader allows, under that key and font and some nonce and in edition two some job, has those bytes between its marks;
-- and the edition, the nonce and the job that it is found with are the frame's. Assumes nothing.
use Rattle.std.specs.Prelude.{◌≡◌, true, ℕ}
use mathlib.Core.List.{List, [], ◌∷◌, ◌++◌}
use Rattle.base_lists.specs.Below.{Below}
use Rattle.frame_stuff_spec.specs.Stuffing.{mark}
use Rattle.frame_body.specs.Fields.{Own}
use Rattle.frame_spec.specs.Told.{Told}
use Rattle.frame_spec.specs.Frames.{frame_of}
use Rattle.frame_write.specs.Outcomes.{Accepts}
use Rattle.read_spec.specs.Editions.{allows}

-- the bytes s between two marks
abbrev pub marked : List ℕ → List ℕ
marked s = mark ∷ s ++ (mark ∷ [])

-- the writer accepts the line L with this nonce and job of bytes, in an edition that is allowed, and its frame has s between its marks
pub record Written (t : Told) (ed : ℕ) (s : List ℕ) (own : Own) (L : List ℕ) : Type 0 where
  pub accepts : Accepts t own L
  pub allowed : allows ed own.edition ≡ true
  pub nonce-bytes : Below 256 own.nonce
  pub job-bytes : Below 256 own.job
  pub makes : frame_of t own L ≡ marked s
