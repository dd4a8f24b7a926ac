-- Fields written one behind the other from the start of a buffer. Assumes nothing.
use Rattle.std.specs.Prelude.{◌≡◌, refl, List, [], ◌∷◌, ◌++◌, ℕ, suc, ◌+◌, ◌*◌, ◌≤◌, ◌<◌, length, set}
use Rattle.std.proofs.Common.{ap, ◌∙◌, arith, length-append}
use Rattle.std.proofs.lemmas.List.Edits.{sets}
use Rattle.base_lists.specs.Buffers.{over}
use Rattle.base_lists.specs.Over.{over-more, over-length}
use Rattle.base_fields.specs.Fields.{high_byte, field, field_end, field_out}
use Rattle.base_fields.specs.Laws.{put-fits}

-- w is laid from the start of the buffer o, and ends at the place `at`
pub record Laid (o out w : List ℕ) (at : ℕ) : Type 0 where
  pub held : out ≡ over w o
  pub end : at ≡ length w
  pub fits : length w ≤ length o

pub laid_none : (o : List ℕ) → Laid o o [] 0
laid_none o = record { held = refl; end = refl; fits = omega arith }

-- a buffer o with room for f behind w
pub record Space (w f o : List ℕ) : Type 0 where
  pub both : length w + length f ≤ length o

pub laid-room : {o out w f : List ℕ} {at : ℕ} → Laid o out w at → Space w f o → at + length f ≤ length out
laid-room {o} {out} {w} {f} {at} l h = omega (arith, ap length l.held ∙ over-length w o l.fits, l.end, h.both)

-- more bytes laid behind
pub laid_more : {o out out' w f : List ℕ} {at r : ℕ} → Laid o out w at → Space w f o → r ≡ at + length f → out' ≡ sets out at f → Laid o out' (w ++ f) r
laid_more {o} {out} {out'} {w} {f} {at} {r} l h e g = record {
  held = g ∙ rw (l.held, l.end) (over-more w f o h.both);
  end = e ∙ rw length-append (omega (arith, l.end));
  fits = rw length-append h.both;
}

-- one more field
pub laid-field : {o out out' w : List ℕ} {at r : ℕ} (tag : ℕ) (v : List ℕ) → Laid o out w at → Space w (field tag v) o
    → length v < high_byte * high_byte → r ≡ field_end out at tag v → out' ≡ field_out out at tag v → Laid o out' (w ++ field tag v) r
laid-field {o} {out} {out'} {w} {at} {r} tag v l h short e g =
    let put = put-fits out at tag v (laid-room l h) short in laid_more l h (e ∙ put.0) (g ∙ put.1)

-- what is written at a place, and then what is written behind it, is written there as one
pub sets_more : (f g o : List ℕ) (at k : ℕ) → k ≡ at + length f → sets (sets o at f) k g ≡ sets o at (f ++ g)
sets_more [] g o at k e = let same : k ≡ at = omega arith in rw same
sets_more (a ∷ f) g o at k e = sets_more f g (set o at a) (suc at) k (omega arith)
