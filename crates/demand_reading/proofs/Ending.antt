-- Read calls one after the other, each from where the one before closed, come to the end of the stream: of more calls than the stream has
-- bytes, some first ones are made until the end. From the promise of `read` alone. Assumes nothing.
use Rattle.std.specs.Prelude.{◌≡◌, refl, true, false, List, [], ◌∷◌, ℕ, ◌+◌, ◌≤◌, ◌<◌, length}
use Rattle.std.proofs.Common.{ap, ◌∙◌, arith, eq-eqb}
use Rattle.line_spec.specs.Lines.{longest}
use Rattle.read_stretch.specs.Stretches.{span, next_span}
use Rattle.read_stretch.specs.Places.{Next, nothing, something}
use Rattle.read_stretch.proofs.Places.{next-cases}
use Rattle.frame_spec.specs.Told.{told}
use Rattle.read_call.specs.declared.Asked.{Asked}
use Rattle.read_call.specs.declared.Reading.{Reading}
use Rattle.read_call.specs.declared.Answer.TheVariants as answer-is
use Rattle.read_spec.specs.Sizes.{Sizes}
use Rattle.read_call.specs.Answers.{longest_stream, call, found, reading_of}
use Rattle.demand_reading.specs.Promises.{Reads, is_end, Seen, seen_from, Run, none, next}
use Rattle.demand_reading.proofs.Resync.{sized}
use Rattle.demand_reading.proofs.GivenWritten.{told-sized}
use Rattle.demand_reading.specs.Reaching.{at-end, before-end}
use Rattle.demand_reading.proofs.Reaching.{stretch-seen}
use Rattle.demand_reading.specs.Ending.{Ends}

module _ (key font : List ℕ) (asked : Asked) (s : List ℕ) (z : Sizes (told key font asked.layout)) (h : length s ≤ longest_stream) where
  end_seen : (from : ℕ) → from ≤ length s → next_span s from ≡ span (length s) (length s)
      → (l : List ℕ) (r : Reading) (l' : List ℕ) → longest ≤ length l → Reads key font asked s from l r l' → is_end r.answer ≡ true
  end_seen from f e l r l' g p =
      let t = told key font asked.layout in
      let q : found t asked s from (length l) ≡ call (length s) answer-is.End =
      sized t asked s from (length l) h g f (told-sized t z.key-is z.font-is) ∙ rw (e, eq-eqb (length s) (length s) refl) in
      ap (λ (x : Reading). is_end x.answer) (p.0 ∙ ap reading_of q)

  end_on : (from : ℕ) → from ≤ length s → (r : Reading) (l l' : List ℕ) (rest : List Seen) → longest ≤ length l → Reads key font asked s from l r l'
      → (from < r.closing → r.closing < length s → Ends key font asked s r.closing rest)
      → Next s from (next_span s from) → Ends key font asked s from (seen_from 0 r l' ∷ rest)
  end_on from f r l l' rest g p on (nothing e no_one) = record {
    to_end = seen_from 0 r l' ∷ [];
    more = rest;
    parts = refl;
    run = next r l l' g p none;
    ended = at-end (end_seen from f e l r l' g p);
  }
  end_on from f r l l' rest g p on (something x) =
      let y = stretch-seen key font asked s z h from f x l r l' g p in
      one_more y.1 (on (rw y.0 (omega (arith, x.later, x.stretch.some))) (rw y.0 x.stretch.ends))
    where
      one_more : is_end r.answer ≡ false → Ends key font asked s r.closing rest → Ends key font asked s from (seen_from 0 r l' ∷ rest)
      one_more e u = record {
        to_end = seen_from 0 r l' ∷ u.to_end;
        more = u.more;
        parts = ap (λ (w : List Seen). seen_from 0 r l' ∷ w) u.parts;
        run = next r l l' g p u.run;
        ended = before-end e u.ended;
      }

  pub run_ends : (from : ℕ) {seen : List Seen} → from ≤ length s → length s < from + length seen
      → Run key font asked s 0 from seen → Ends key font asked s from seen
  run_ends from f k none = absurd (omega (arith, f, k))
  run_ends from f k (next r l l' {rest} g p q) =
      end_on from f r l l' rest g p (λ a b. run_ends r.closing (omega (arith, b)) (omega (arith, k, a)) q) (next-cases s from)
