-- What a step promises, on plain lists (FromContracts.antt beside this has that it is its contract), what a caller sees of it, and runs of steps over a
-- link. Assumes nothing: these are definitions.
use Rattle.std.specs.Prelude.{◌≡◌, List, [], ◌∷◌, ◌++◌, ℕ, ◌+◌, ◌<◌, ◌≤◌, length, take, drop, Ok, Err, Some, None, Result, Option}
use Rattle.read_call.specs.declared.Answer.{Answer as ReadAnswer}
use Rattle.line_spec.specs.Lines.{longest}
use Rattle.frame_spec.specs.Told.{told}
use Rattle.read_spec.specs.Judged.{number_in, line_in, label_in, calls_in}
use Rattle.read_readings.specs.Readings.{Reading}
use Rattle.read_call.specs.declared.Asked.{Asked}
use Rattle.read_call.specs.Answers as read-answers
use Rattle.live_spec.specs.declared.Numbers.{Numbers}
use Rattle.live_spec.specs.declared.LiveRefusal.{LiveRefusal}
use Rattle.live_spec.specs.declared.LiveRefusal.TheVariants as answer-is
use Rattle.live_spec.specs.declared.Step.{Step}
use Rattle.live_spec.specs.Taking.{no_bytes}
use Rattle.live_spec.specs.Steps.{most_bytes, nonce_in, step_answer, step_window, step_line, step_number}

-- a step with this key and font, and what it is asked, over the numbers n, the window w and the piece p, with the line buffer l before it, may answer r
-- and leave w' and l'
abbrev pub Steps : List ℕ → List ℕ → Asked → Numbers → List ℕ → List ℕ → List ℕ → Step → List ℕ → List ℕ → Type 0
Steps key font asked n w p l r w' l' =
    (r ≡ step_answer (told key font asked.layout) asked n w p l)
    × ((w' ≡ step_window (told key font asked.layout) asked n w p l) × (l' ≡ step_line (told key font asked.layout) asked n w p l))

-- all that a caller is given with a reading: document 01's number and values, places from the link's first byte, and the line's bytes
pub record Given : Type 0 where
  pub number : ℕ
  pub first : ℕ
  pub closing : ℕ
  pub calls : ℕ
  pub edition : ℕ
  pub job : ℕ
  pub nonce : List ℕ
  pub line : List ℕ

-- of a reading of a whole stream
abbrev pub given_of : Reading → Given
given_of r = record {
  number = number_in r.judged;
  first = r.place.first;
  closing = r.place.closing;
  calls = calls_in r.judged;
  edition = (label_in r.judged).edition;
  job = (label_in r.judged).job;
  nonce = nonce_in r.judged;
  line = line_in r.judged;
}

-- by a step: its answer's number, calls and length, and what stands in the line buffer
abbrev pub given_with : Step → ℕ → ℕ → List ℕ → Given
given_with r calls long l' = record {
  number = step_number r.answer;
  first = r.first;
  closing = r.closing;
  calls = calls;
  edition = r.edition;
  job = r.job;
  nonce = r.nonce;
  line = take long l';
}

-- nothing where it waits
abbrev pub given_for : Result (Option ReadAnswer) LiveRefusal → Step → List ℕ → List Given
given_for (Ok None) r l' = []
given_for (Ok (Some a)) r l' = given_with r (read-answers.calls_of a) (read-answers.length_of a) l' ∷ []
given_for (Err f) r l' = given_with r 0 0 l' ∷ []

abbrev pub given_by : Step → List ℕ → List Given
given_by r l' = given_for r.answer r l'

module _ (key font : List ℕ) (asked : Asked) where
  -- a moment of a link: from numbers all zero some steps were made, each over a piece that can still be counted and with room for a line; these bytes
  -- were taken in, these are numbers and window, and this was given
  pub data Moment (w₀ : List ℕ) : List ℕ → Numbers → List ℕ → List Given → Type 0 where
    start : Moment w₀ [] no_bytes w₀ []
    next : {s : List ℕ} {n : Numbers} {w : List ℕ} {g : List Given} → Moment w₀ s n w g → (p l : List ℕ) (r : Step) (w' l' : List ℕ)
        → length s + length p ≤ most_bytes → longest ≤ length l → Steps key font asked n w p l r w' l'
        → Moment w₀ (s ++ take r.took p) r.numbers w' (g ++ given_by r l')

  -- a run of steps over pieces: one as long as bytes of a piece are left, none over an empty rest; what is given, and numbers and window at its end
  pub data Run : Numbers → List ℕ → List (List ℕ) → List Given → Numbers → List ℕ → Type 0 where
    over : {n : Numbers} {w : List ℕ} → Run n w [] [] n w
    rest : {n m : Numbers} {w v : List ℕ} {ps : List (List ℕ)} {g : List Given} → Run n w ps g m v → Run n w ([] ∷ ps) g m v
    step : {n m : Numbers} {w v : List ℕ} {ps : List (List ℕ)} {g : List Given} (p l : List ℕ) (r : Step) (w' l' : List ℕ)
        → 0 < length p → longest ≤ length l → Steps key font asked n w p l r w' l'
        → Run r.numbers w' (drop r.took p ∷ ps) g m v → Run n w (p ∷ ps) (given_by r l' ++ g) m v

-- the whole of a cutting
abbrev pub whole : List (List ℕ) → List ℕ
whole [] = []
whole (p ∷ ps) = p ++ whole ps
