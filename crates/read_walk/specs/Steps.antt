-- What one step of a walker comes to, and what `next` promises of a walker, on plain lists (Single.antt in proofs/ has that it is the
-- contract). Assumes nothing: these are definitions.
use Rattle.std.specs.Prelude.{◌≡◌, List, ℕ}
use Rattle.frame_spec.specs.Told.{Told, told}
use Rattle.read_call.specs.Answers.{read_answer, read_out}
use Rattle.read_call.specs.declared.Asked.{Asked}
use Rattle.read_call.specs.declared.Reading.{Reading}
use Rattle.read_walk.specs.declared.Step.{Step}
use Rattle.read_walk.specs.declared.Walker.{Walker}

-- of a stream from a place, with the line buffer o: the reading of the read call, and the place where that reading ends
abbrev pub step_of : Told → Asked → List ℕ → ℕ → List ℕ → Step
step_of t a s from o = record { reading = read_answer t a s from o; at = (read_answer t a s from o).closing }

-- the stream that a walker holds, and the place reached
abbrev pub stream_of : Walker → List ℕ
stream_of w = w.stream.now

abbrev pub place_of : Walker → ℕ
place_of w = w.at

-- a call of `next` with this key and font, and what it is asked, of the walker w with the line buffer l before it, may answer r and leave
-- w' and l': it is a read call from the place reached, and w' is w at the place where that reading ends
abbrev pub Nexts : List ℕ → List ℕ → Asked → Walker → List ℕ → Reading → Walker → List ℕ → Type 0
Nexts key font asked w l r w' l' =
    (r ≡ read_answer (told key font asked.layout) asked (stream_of w) (place_of w) l)
    × (l' ≡ read_out (told key font asked.layout) asked (stream_of w) (place_of w) l)
    × (w'.stream ≡ w.stream)
    × (w'.at ≡ r.closing)
