-- What a request of any stream comes to, as `request` gives it. Assumes nothing: these are definitions.
use Rattle.std.specs.Prelude.{true, false, not, cond, List, ℕ, ltb, length}
use Rattle.base_lists.specs.Buffers.{over}
use Rattle.frame_spec.specs.Told.{Told}
use Rattle.read_call.specs.declared.Reading.{Reading}
use Rattle.read_call.specs.Answers.{longest_stream, sized_told, read_answer, read_out, length_of, outcome_of}
use Rattle.replay_spec.specs.Press.{Given, nothing, gives, Met, met, request}
use Rattle.replay_spec.specs.Answers.{all_asked, judging, zeros}
use Rattle.replay_request.specs.declared.Reached.{Reached}
use Rattle.replay_request.specs.declared.Look.{Look}

-- what one read call tells, of a reading and what it leaves in a line buffer
abbrev pub look_of : Reading → List ℕ → Look
look_of r l = record { first = r.first; closing = r.closing; outcome = outcome_of r.answer; length = length_of r.answer; line = l }

abbrev pub looked : Told → ℕ → List ℕ → ℕ → Look
looked t ed s at = look_of (read_answer t (all_asked ed t.layout) s at zeros) (read_out t (all_asked ed t.layout) s at zeros)

-- a request's line with its length, and zeros behind it
abbrev pub reached : ℕ → Given → Reached
reached at nothing = record { found = false; place = at; length = 0; line = zeros }
reached at (gives l) = record { found = true; place = at; length = length l; line = over l zeros }

abbrev pub reached_of : Met → Reached
reached_of m = reached m.place m.given

-- of a stream within the limit, told key and font digest of their sizes
unfoldable pub requested : Told → ℕ → List ℕ → ℕ → Met
requested t ed s from =
    cond (not (sized_told t)) (met nothing from)
    (cond (ltb longest_stream (length s)) (met nothing from)
    (request (judging t ed) s from))
