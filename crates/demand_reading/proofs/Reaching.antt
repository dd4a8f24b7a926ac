-- Read calls made from an earlier place until the end of the stream come to every mark on their way: some of them close at the mark or
-- before it, and the others are calls made from the mark. From the promise of `read` alone. Assumes nothing.
use Rattle.std.specs.Prelude.{◌≡◌, refl, false, List, [], ◌∷◌, ℕ, ◌≤◌, length}
use Rattle.std.proofs.Math.Path.{sym, ap}
use Rattle.std.proofs.Common.{◌∙◌, arith}
use Rattle.std.proofs.Math.Bool.{cond}
use Rattle.base_lists.specs.Never.{never}
use Rattle.line_spec.specs.Lines.{longest}
use Rattle.read_stretch.specs.declared.Span.{Span}
use Rattle.read_stretch.specs.Stretches.{bytes_at, next_span, next_stretch}
use Rattle.read_stretch.specs.Places as places
use Rattle.frame_spec.specs.Told.{told}
use Rattle.read_call.specs.declared.Asked.{Asked}
use Rattle.read_call.specs.declared.Reading.{Reading}
use Rattle.read_call.specs.declared.Answer.TheVariants as answer-is
use Rattle.read_spec.specs.Sizes.{Sizes}
use Rattle.read_readings.specs.Readings.{ends}
use Rattle.read_readings.specs.Resync.{Mark}
use Rattle.read_readings.specs.Reaching.{UpTo, closes, behind, up_to}
use Rattle.read_call.specs.Answers.{longest_stream, Found, call, stretch, judged_within, found, reading_of, buffer}
use Rattle.demand_reading.specs.Promises.{Reads, is_end, Seen, seen_from, Run, none, next}
use Rattle.demand_reading.proofs.Resync.{seen_at, sized}
use Rattle.demand_reading.proofs.GivenWritten.{told-sized, found-next}
use Rattle.demand_reading.specs.Reaching.{Ended, at-end, before-end, Reaches}

-- a call that is not the end is not the last
not_last : {v : Seen} {rest : List Seen} → Ended (v ∷ rest) → v.ended ≡ false → Ended rest
not_last (at-end a) b = never (sym b ∙ a)
not_last (before-end a k) b = k

module _ (key font : List ℕ) (asked : Asked) (s : List ℕ) (z : Sizes (told key font asked.layout)) (h : length s ≤ longest_stream) where
  -- where the next stretch is the same, a call may answer the same
  same_reads : (from i : ℕ) → from ≤ length s → i ≤ length s → next_span s from ≡ next_span s i
      → (l : List ℕ) (r : Reading) (l' : List ℕ) → longest ≤ length l → Reads key font asked s from l r l' → Reads key font asked s i l r l'
  unfolding next_stretch
  same_reads from i f k e l r l' g p =
      let t = told key font asked.layout in
      let y = told-sized t z.key-is z.font-is in
      let q : found t asked s from (length l) ≡ found t asked s i (length l) =
      sized t asked s from (length l) h g f y
      ∙ ap (λ (o : Span). cond (ends o) (call (length s) answer-is.End) (stretch o (judged_within t asked (bytes_at s o)))) e
      ∙ sym (sized t asked s i (length l) h g k y) in
      (p.0 ∙ ap reading_of q, p.1 ∙ ap (λ (o : Found). buffer o l) q)

  -- a call that finds a stretch closes where it does, and is not the end
  pub stretch-seen : (from : ℕ) → from ≤ length s → places.Found s from (next_span s from)
      → (l : List ℕ) (r : Reading) (l' : List ℕ) → longest ≤ length l → Reads key font asked s from l r l'
      → (r.closing ≡ (next_span s from).closing) × (is_end r.answer ≡ false)
  stretch-seen from f x l r l' g p =
      let t = told key font asked.layout in
      let o = next_span s from in
      let j = judged_within t asked (next_stretch s from) in
      let q : found t asked s from (length l) ≡ stretch o j = found-next t asked z s from (length l) h g f o refl (λ u. omega (arith, u, x.stretch.some)) in
      let a : r ≡ reading_of (stretch o j) = p.0 ∙ ap reading_of q in
      (ap (λ (x : Reading). x.closing) a, ap (λ (x : Reading). is_end x.answer) a ∙ ap (λ (v : Seen). v.ended) (seen_at 0 o j l))

  -- a call that closes at place i or before it, and then others that reach it
  one_more : (i : ℕ) (v : Seen) (rest : List Seen) → v.closing ≤ i → Reaches key font asked s i rest → Reaches key font asked s i (v ∷ rest)
  one_more i v rest c u = record {
    before = v ∷ u.before;
    after = u.after;
    parts = ap (λ (w : List Seen). v ∷ w) u.parts;
    closed = (c, u.closed);
    run = u.run;
    ended = u.ended;
  }

  module _ (i : ℕ) (m : Mark s i) where
    reach-on : (from : ℕ) → from ≤ i → (r : Reading) (l l' : List ℕ) (rest : List Seen) → longest ≤ length l → Reads key font asked s from l r l'
        → Run key font asked s 0 r.closing rest → Ended (seen_from 0 r l' ∷ rest)
        → (r.closing ≤ i → Ended rest → Reaches key font asked s i rest) → UpTo s from i → Reaches key font asked s i (seen_from 0 r l' ∷ rest)
    reach-on from f r l l' rest g p q e on (behind b) = record {
      before = [];
      after = seen_from 0 r l' ∷ rest;
      parts = refl;
      closed = tt;
      run = next r l l' g (same_reads from i (omega (arith, f, m.inside)) (omega (arith, m.inside)) b l r l' g p) q;
      ended = e;
    }
    reach-on from f r l l' rest g p q e on (closes x c) =
        let y = stretch-seen from (omega (arith, f, m.inside)) x l r l' g p in
        let k : r.closing ≤ i = rw y.0 c in
        one_more i (seen_from 0 r l') rest (omega (arith, k)) (on k (not_last e y.1))

    -- calls from any place up to the mark, made until the end
    pub run-reaches : (from : ℕ) {seen : List Seen} → from ≤ i → Run key font asked s 0 from seen → Ended seen → Reaches key font asked s i seen
    run-reaches from f none e = elim e [ ]
    run-reaches from f (next r l l' {rest} g p q) e =
        reach-on from f r l l' rest g p q e (λ c k. run-reaches r.closing c q k) (up_to s from i f m)
