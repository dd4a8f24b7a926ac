-- What `read` and `write` promise of one call, on plain lists (FromContracts.antt beside this has that it is their contracts), and what a caller
-- sees of a reading. Assumes nothing: these are definitions.
use Rattle.std.specs.Prelude.{◌≡◌, Bool, true, false, List, [], ◌∷◌, ℕ, ◌-◌, ◌≤◌, length, take, Result}
use Rattle.line_spec.specs.Lines.{longest}
use Rattle.frame_body.specs.Fields.{Own}
use Rattle.frame_write.specs.declared.Written.{Written}
use Rattle.frame_write.specs.declared.FrameRefusal.{FrameRefusal}
use Rattle.line_layout.specs.declared.Layout.{Layout}
use Rattle.frame_spec.specs.Told.{told}
use Rattle.frame_write.specs.Answers.{write_call}
use Rattle.read_call.specs.declared.Asked.{Asked}
use Rattle.read_call.specs.declared.Answer.{Answer}
use Rattle.read_call.specs.declared.Answer.TheVariants as answer-is
use Rattle.read_call.specs.declared.Reading.{Reading}
use Rattle.read_call.specs.Answers.{read_answer, read_out, answer_number, length_of, calls_of}

-- a read call with this key and font, and what it is asked, of the stream s from a place, with the line buffer l before it, may answer r
-- and leave l' in it
abbrev pub Reads : List ℕ → List ℕ → Asked → List ℕ → ℕ → List ℕ → Reading → List ℕ → Type 0
Reads key font asked s from l r l' = (r ≡ read_answer (told key font asked.layout) asked s from l)
    × (l' ≡ read_out (told key font asked.layout) asked s from l)

-- a write call of the line L under this key, font and layout, and with what is the frame's own, with the buffer f before it, may answer w and leave
-- f' in it
abbrev pub Writes : List ℕ → Own → List ℕ → Layout → List ℕ → List ℕ → Result Written FrameRefusal → List ℕ → Type 0
Writes key own font lay L f w f' = (w ≡ (write_call (told key font lay) own L f).answer) × (f' ≡ (write_call (told key font lay) own L f).frame)

-- the end of the stream is its own answer
abbrev pub is_end : Answer → Bool
is_end answer-is.Sizes = false
is_end answer-is.TooLong = false
is_end answer-is.NoRoom = false
is_end answer-is.Beyond = false
is_end answer-is.End = true
is_end answer-is.Shape = false
is_end answer-is.Stuffing = false
is_end answer-is.Font = false
is_end answer-is.Work = false
is_end (answer-is.Seal n) = false
is_end (answer-is.Unlisted n) = false
is_end (answer-is.Trade n) = false
is_end (answer-is.Layout n) = false
is_end (answer-is.Line k n) = false

-- all that a caller sees of a reading: document 01's number and values, and the line's bytes in the buffer
pub record Seen : Type 0 where
  pub number : ℕ
  pub ended : Bool
  pub first : ℕ
  pub closing : ℕ
  pub calls : ℕ
  pub edition : ℕ
  pub job : ℕ
  pub line : List ℕ

-- with places counted from place i
abbrev pub seen_from : ℕ → Reading → List ℕ → Seen
seen_from i r l' = record {
  number = answer_number r.answer;
  ended = is_end r.answer;
  first = r.first - i;
  closing = r.closing - i;
  calls = calls_of r.answer;
  edition = r.edition;
  job = r.job;
  line = take (length_of r.answer) l';
}

-- some read calls one after the other with room enough for a line, the first from a place, each next one from where the one before
-- closed; and what is seen of them with places counted from place i. Each call may have a line buffer of its own
pub data Run (key font : List ℕ) (asked : Asked) (s : List ℕ) (i : ℕ) : ℕ → List Seen → Type 0 where
  none : {from : ℕ} → Run key font asked s i from []
  next : {from : ℕ} (r : Reading) (l l' : List ℕ) {rest : List Seen} → longest ≤ length l → Reads key font asked s from l r l'
      → Run key font asked s i r.closing rest → Run key font asked s i from (seen_from i r l' ∷ rest)
