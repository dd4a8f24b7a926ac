-- Demand 3 over the exported calls: a line is given exactly for what a write call makes, every frame that a write call makes is given as its line, and two
-- streams equal from a mark on read alike behind it; for steps of a walker too. That a stream is bytes is a premise of `c-given-is-written`; what the call is
-- passed meets it by its type (Bytes.antt). Assumes nothing.
use Rattle.std.specs.Prelude.{◌≡◌, refl, true, List, [], ◌∷◌, ◌++◌, map, ℕ, ◌+◌, ◌-◌, ◌≤◌, eqb, length, take, drop}
use Rattle.std.proofs.Common.{sym, ap, subst, ◌∙◌, arith}
use Rattle.base_lists.specs.Below.{Below}
use Rattle.base_lists.specs.Buffers.{over}
use Rattle.line_spec.specs.Lines.{longest}
use Rattle.line_layout.specs.Layouts.{layout_of}
use Rattle.frame_body.specs.Fields.{Own}
use Rattle.frame_spec.specs.Told.{told}
use Rattle.read_stretch.specs.Stretches.{span, bytes_at}
use Rattle.read_stretch.specs.Meaning.{Stretch}
use Rattle.read_spec.specs.Sizes.{Sizes}
use Rattle.read_spec.specs.Editions.{allows}
use Rattle.read_spec.specs.Judged.{Label, label, label_of}
use Rattle.read_call.specs.declared.Answer.{Answer}
use Rattle.read_call.specs.declared.Answer.TheVariants as answer-is
use Rattle.read_call.specs.declared.Reading as reading
use Rattle.read_call.specs.Answers.{longest_stream, length_of, calls_of, read_answer}
use Rattle.demand_reading.specs.Promises as inner
use Rattle.demand_reading.specs.Promises.{Seen, is_end}
use Rattle.demand_reading.specs.Reaching.{Ended, Reaches}
use Rattle.demand_reading.specs.Written.{marked}
use Rattle.demand_reading.specs.GivenWritten.{gives, Made}
use Rattle.demand_reading.proofs.GivenWritten.{wrote, made-written, given-is-written, written-is-given}
use Rattle.demand_reading.specs.EveryLine.{SeenGiven}
use Rattle.demand_reading.proofs.EveryLine.{every-line-given, every-frame-given}
use Rattle.read_readings.specs.Resync.{Mark}
use Rattle.demand_reading.specs.FromStart.{counted_from}
use Rattle.demand_reading.proofs.FromStart.{resync-from-start}
use Rattle.frame_write.specs.Answers.{frame_made}
use Rattle.lubdhvani.specs.Readings.{LINE, outcome_of, asked_of, reading_out}
use Rattle.lubdhvani.specs.declared.frame.Framed.{Framed}
use Rattle.lubdhvani.specs.declared.read.Asked.{Asked}
use Rattle.lubdhvani.specs.declared.read.Reading.{Reading}
use Rattle.lubdhvani.specs.declared.walk.Walker.{Walker}
use Rattle.lubdhvani_demands.specs.Promises.{Writes, Reads, Nexts, seen_from, Run, none, next, Walk, stays, moves}
use Rattle.lubdhvani_demands.specs.Written.{c-written}

-- the outcome of a line is a line's alone
line-is : (a : Answer) → outcome_of a ≡ LINE → a ≡ answer-is.Line (length_of a) (calls_of a)
line-is answer-is.Sizes e = absurd (omega (arith, e))
line-is answer-is.TooLong e = absurd (omega (arith, e))
line-is answer-is.NoRoom e = absurd (omega (arith, e))
line-is answer-is.Beyond e = absurd (omega (arith, e))
line-is answer-is.End e = absurd (omega (arith, e))
line-is answer-is.Shape e = absurd (omega (arith, e))
line-is answer-is.Stuffing e = absurd (omega (arith, e))
line-is answer-is.Font e = absurd (omega (arith, e))
line-is answer-is.Work e = absurd (omega (arith, e))
line-is (answer-is.Seal n) e = absurd (omega (arith, e))
line-is (answer-is.Unlisted n) e = absurd (omega (arith, e))
line-is (answer-is.Trade n) e = absurd (omega (arith, e))
line-is (answer-is.Layout n) e = absurd (omega (arith, e))
line-is (answer-is.Line k n) e = refl

-- and the end's is the end's
end_is : (a : Answer) → eqb (outcome_of a) 0 ≡ is_end a
end_is answer-is.Sizes = refl
end_is answer-is.TooLong = refl
end_is answer-is.NoRoom = refl
end_is answer-is.Beyond = refl
end_is answer-is.End = refl
end_is answer-is.Shape = refl
end_is answer-is.Stuffing = refl
end_is answer-is.Font = refl
end_is answer-is.Work = refl
end_is (answer-is.Seal n) = refl
end_is (answer-is.Unlisted n) = refl
end_is (answer-is.Trade n) = refl
end_is (answer-is.Layout n) = refl
end_is (answer-is.Line k n) = refl

gives_line : (q : reading.Reading) → outcome_of q.answer ≡ LINE
    → q ≡ gives q.first q.closing (label q.edition q.job) (length_of q.answer) (calls_of q.answer)
gives_line q e = ap (λ (a : Answer). record { first = q.first; closing = q.closing; answer = a; edition = q.edition; job = q.job }) (line-is q.answer e)

-- what C sees of a reading is what a caller of the read call sees of it
seen-is : (i : ℕ) (q : reading.Reading) (l' : List ℕ) → seen_from i (reading_out q) l' ≡ inner.seen_from i q l'
seen-is i q l' = ap (λ (b : _). record {
  number = (reading_out q).number;
  ended = b;
  first = q.first - i;
  closing = q.closing - i;
  calls = calls_of q.answer;
  edition = q.edition;
  job = q.job;
  line = take (length_of q.answer) l';
}) (end_is q.answer)

-- a run of C calls is a run of read calls, which see the same
pub c-run : {key font : List ℕ} {asked : Asked} {s : List ℕ} {i from : ℕ} {seen : List Seen} → Run key font asked s i from seen
    → inner.Run key font (asked_of asked) s i from seen
c-run none = inner.none
c-run {key} {font} {asked} {s} {i} {from} (next r l l' {rest} g p q) =
    let a = read_answer (told key font (layout_of asked.layout)) (asked_of asked) s from l in
    let on : inner.Run key font (asked_of asked) s i a.closing rest =
    subst (λ (n : ℕ). inner.Run key font (asked_of asked) s i n rest) (ap (λ (x : Reading). x.closing) p.0) (c-run q) in
    let seen : seen_from i r l' ≡ inner.seen_from i a l' = ap (λ (x : Reading). seen_from i x l') p.0 ∙ seen-is i a l' in
    subst (λ (x : Seen). inner.Run key font (asked_of asked) s i from (x ∷ rest)) (sym seen) (inner.next a l l' g (refl, p.1) on)

-- steps of a walker are a run over its stream from the place reached
pub c-walk-run : {key font : List ℕ} {asked : Asked} {w : Walker} {seen : List Seen} → Walk key font asked w seen
    → Run key font asked w.stream.now 0 w.at seen
c-walk-run stays = none
c-walk-run {key} {font} {asked} {w} (moves r w' l l' {rest} g p q) =
    let on : Run key font asked w.stream.now 0 r.closing rest =
    subst (λ (s : List ℕ). Run key font asked s 0 r.closing rest) (ap (λ x. x.now) p.2)
    (subst (λ (n : ℕ). Run key font asked w'.stream.now 0 n rest) p.3 (c-walk-run q)) in
    next r l l' g (p.0, p.1) on

-- a line that is given is what a write call makes of it, with the same count, edition and job
pub c-given-is-written : (key font : List ℕ) (asked : Asked) (s : List ℕ) → Below 256 s → (from : ℕ) (l : List ℕ) (r : Reading) (l' : List ℕ)
    → Reads key font asked s from l r l' → r.outcome ≡ LINE
    → Made key font (layout_of asked.layout) asked.editions (label r.edition r.job) (take r.length l') r.calls
    (bytes_at s (span r.first r.closing))
c-given-is-written key font asked s bytes from l r l' p e =
    let q = read_answer (told key font (layout_of asked.layout)) (asked_of asked) s from l in
    let one : outcome_of q.answer ≡ LINE = sym (ap (λ (y : Reading). y.outcome) p.0) ∙ e in
    rw p.0 (given-is-written key font (asked_of asked) s bytes from l q l' (refl, p.1)
    q.first q.closing (label q.edition q.job) (length_of q.answer) (calls_of q.answer) (gives_line q one))

-- what a write call leaves, answering 0, stands between two marks as what that call makes: with a nonce and a job of bytes, as the call's are by their type
-- (Bytes.antt), and in an edition that is allowed
pub c-made : (key : List ℕ) (own : Own) (font : List ℕ) (lay : ℕ) (L f : List ℕ) (w : Framed) (f' : List ℕ) → Writes key own font lay L f w f' → w.number ≡ 0
    → Below 256 own.nonce → Below 256 own.job → (ed : ℕ) → allows ed own.edition ≡ true → (s' : List ℕ) → take w.length f' ≡ marked s'
    → Made key font (layout_of lay) ed (label_of own) L w.calls s'
c-made key own font lay L f w f' p e nonce job ed may s' is =
    let z = wrote key own font (layout_of lay) L f (frame_made w.length w.calls) f' (sym (c-written key own font lay L f w f' p e), p.1) w.length
    w.calls refl in
    subst (λ (k : ℕ). Made key font (layout_of lay) ed (label_of own) L k s') (sym z.calls)
    (made-written key font (layout_of lay) ed own L s' (record {
      accepts = z.accepts;
      allowed = may;
      nonce-bytes = nonce;
      job-bytes = job;
      makes = sym z.frame ∙ is;
    }))

-- and every stretch that a write call makes gives its line, read from its opening mark, where its edition and its calls are allowed
pub c-written-is-given : (key font : List ℕ) (asked : Asked) (b : Label) (L : List ℕ) (k : ℕ) → k ≤ asked.allowed
    → (s : List ℕ) (p q : ℕ) → length s ≤ longest_stream → Stretch s p q
    → Made key font (layout_of asked.layout) asked.editions b L k (bytes_at s (span p q))
    → (l : List ℕ) (r : Reading) (l' : List ℕ) → longest ≤ length l → Reads key font asked s (p - 1) l r l'
    → (r ≡ reading_out (gives p q b (length L) k)) × (r.outcome ≡ LINE) × (l' ≡ over L l)
c-written-is-given key font asked b L k enough s p q h x made l r l' g c =
    let a = read_answer (told key font (layout_of asked.layout)) (asked_of asked) s (p - 1) l in
    let z = written-is-given key font (asked_of asked) b L k enough s p q h x made l a l' g (refl, c.1) in
    let r-is : r ≡ reading_out (gives p q b (length L) k) = c.0 ∙ ap reading_out z.0 in
    (r-is, ap (λ (y : Reading). y.outcome) r-is, z.1)

-- every stretch that a write call makes is given as its line by a run from the stream's start to its end
pub c-every-line-given : (key font : List ℕ) (asked : Asked) (b : Label) (L : List ℕ) (k : ℕ) → k ≤ asked.allowed
    → (s : List ℕ) (p q : ℕ) → length s ≤ longest_stream → Stretch s p q
    → Made key font (layout_of asked.layout) asked.editions b L k (bytes_at s (span p q)) → {seen : List Seen} → Run key font asked s 0 0 seen → Ended seen
    → SeenGiven p q b L k seen
c-every-line-given key font asked b L k enough s p q h x made run end =
    every-line-given key font (asked_of asked) b L k enough s p q h x made (c-run run) end

-- and every frame that a write call makes, answering 0, standing anywhere in a stream within the limit
pub c-every-frame-given : (key : List ℕ) (own : Own) (font : List ℕ) (lay : ℕ) (L f : List ℕ) (w : Framed) (f' : List ℕ) → Writes key own font lay L f w f'
    → w.number ≡ 0
    → (asked : Asked) → asked.layout ≡ lay → allows asked.editions own.edition ≡ true → w.calls ≤ asked.allowed
    → (a c : List ℕ) → length (a ++ (take w.length f' ++ c)) ≤ longest_stream
    → {seen : List Seen} → Run key font asked (a ++ (take w.length f' ++ c)) 0 0 seen → Ended seen
    → SeenGiven (length a + 1) (length a + w.length - 1) (label_of own) L w.calls seen
c-every-frame-given key own font lay L f w f' p e asked same may enough a c h run end =
    every-frame-given key own font (layout_of lay) L f (frame_made w.length w.calls) f' (sym (c-written key own font lay L f w f' p e), p.1)
    w.length w.calls refl
    (asked_of asked) (ap layout_of same) may enough a c h (c-run run) end

-- two streams equal from a mark on, each read from its start to its end with the same key and font and told the same: both runs come to the mark, and what is
-- seen behind it, with places counted from it, is the same
pub c-resync : (key font : List ℕ) (asked : Asked) (x y : List ℕ) (i j : ℕ) → Sizes (told key font (layout_of asked.layout)) → length x ≤ longest_stream
    → length y ≤ longest_stream
    → Mark x i → Mark y j → drop i x ≡ drop j y → {sx sy : List Seen}
    → Run key font asked x 0 0 sx → Ended sx → Run key font asked y 0 0 sy → Ended sy
    → (u : Reaches key font (asked_of asked) x i sx) × (v : Reaches key font (asked_of asked) y j sy)
    × (map (counted_from i) u.after ≡ map (counted_from j) v.after)
c-resync key font asked x y i j z hx hy m n e p a q b =
    resync-from-start key font (asked_of asked) x y i j z hx hy m n e (c-run p) a (c-run q) b
