-- What accepting a stream answers (order W12): 2, 3, 19, then stretch by stretch the reader's number and after it 22. Every stretch is allowed all the
-- work it takes. Assumes nothing: these are definitions.
use Rattle.std.specs.Prelude.{not, cond, List, [], ◌∷◌, ◌++◌, ℕ, eqb, ltb, length, Ok, Err, Result, ⊤}
use Rattle.read_stretch.specs.declared.Span.{Span}
use Rattle.read_stretch.specs.Stretches.{span, bytes_at}
use Rattle.frame_spec.specs.Told.{Told}
use Rattle.read_spec.specs.Judged.{Judged, shape, number_in}
use Rattle.read_spec.specs.Judging.{judge}
use Rattle.read_readings.specs.Readings.{Reading, readings}
use Rattle.read_nonce.specs.Nonces.{nonce_of}
use Rattle.read_call.specs.Answers.{longest_stream, sized_told}
use Rattle.accept_spec.specs.declared.AcceptFault.{AcceptFault}
use Rattle.accept_spec.specs.declared.AcceptFault.TheVariants as answer-is
use Rattle.accept_spec.specs.declared.Accepted.{Accepted}
use Rattle.accept_spec.specs.Nonces.{met}

-- the most stretches of a stream that is accepted
abbrev pub most_stretches : ℕ
most_stretches = 512

-- an answer with its places
abbrev pub at : Span → Result ⊤ AcceptFault → Accepted
at p a = record { first = p.first; closing = p.closing; answer = a }

-- the call is refused
abbrev pub refused : Result ⊤ AcceptFault → Accepted
refused a = at (span 0 0) a

module _ (s : List ℕ) where
  -- the nonce of a stretch of the stream, by its fields
  abbrev pub nonce_at : Reading → List ℕ
  nonce_at r = nonce_of (bytes_at s r.place)

  abbrev pub yes : Accepted
  yes = at (span (length s) (length s)) (Ok tt)

  -- stretch by stretch, with the nonces of the lines before: a number other than 0 is the reader's refusal, then 22
  unfoldable pub accept_from : List (List ℕ) → List Reading → Accepted
  accept_from seen [] = yes
  accept_from seen (r ∷ rest) =
      cond (not (eqb (number_in r.judged) 0)) (at r.place (Err (answer-is.Refused (number_in r.judged))))
      (cond (met seen (nonce_at r)) (at r.place (Err answer-is.Repeated))
      (accept_from (seen ++ (nonce_at r ∷ [])) rest))

-- the readings of a stream from its start to its end, without a ceiling on the work
abbrev pub read_all : Told → ℕ → List ℕ → List Reading
read_all t ed s = readings (judge t ed) s 0

-- how many stretches a stream has, whatever each is found to be
abbrev pub stretches_in : List ℕ → ℕ
stretches_in s = length (readings (λ (b : List ℕ). shape) s 0)

unfoldable pub accept_answer : Told → ℕ → List ℕ → Accepted
accept_answer t ed s =
    cond (not (sized_told t)) (refused (Err answer-is.Sizes))
    (cond (ltb longest_stream (length s)) (refused (Err answer-is.TooLong))
    (cond (ltb most_stretches (stretches_in s)) (refused (Err answer-is.TooMany))
    (accept_from s [] (read_all t ed s))))

-- the number of each answer (document 01, 'Numbers returned'; order W12)
abbrev pub accept_number : Result ⊤ AcceptFault → ℕ
accept_number (Ok tt) = 0
accept_number (Err answer-is.Sizes) = 2
accept_number (Err answer-is.TooLong) = 3
accept_number (Err answer-is.TooMany) = 19
accept_number (Err (answer-is.Refused n)) = n
accept_number (Err answer-is.Repeated) = 22
