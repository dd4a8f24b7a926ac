-- `replay-given-written` (order W11, demand 3), from the promises of `read` and `write` alone: a line that a request gives is what a write call makes, under
-- that key and font and some nonce, of a stretch of the stream received before it; and every such line of that stream is one of those that the requests come
-- to, and was given where a request gives nothing. Assumes nothing.
use Rattle.std.specs.Prelude.{◌≡◌, refl, Bool, true, false, cond, List, [], ◌∷◌, ◌++◌, ℕ, zero, suc, ◌-◌, ◌≤◌, eqb, length, drop}
use Rattle.std.proofs.Common.{sym, ◌∙◌, arith}
use Rattle.std.proofs.Math.Path.{ap}
use Rattle.base_lists.specs.Below.{Below, below-take, below-drop}
use Rattle.line_spec.specs.Lines.{longest}
use Rattle.line_layout.specs.declared.Layout.{Layout}
use Rattle.read_stretch.specs.Stretches.{span, bytes_at, next_span, next_stretch}
use Rattle.read_stretch.specs.Meaning.{Stretch}
use Rattle.read_stretch.specs.Places as places
use Rattle.read_stretch.specs.Places.{Next, nothing, something}
use Rattle.read_stretch.proofs.Places.{next-cases}
use Rattle.frame_body.specs.Fields.{Own}
use Rattle.frame_body.proofs.Lengths.{job-field-most}
use Rattle.frame_spec.specs.Told.{told}
use Rattle.read_spec.specs.Judged.{Label, label_of, Judged, shape, stuffing, font, work, seal, unlisted, trade, layout, line, number_in}
use Rattle.read_spec.specs.Judging.{judge}
use Rattle.read_spec.specs.Sizes.{Sizes}
use Rattle.read_spec.specs.Ceiling.{all_work}
use Rattle.read_spec.proofs.Allowance.{not-work}
use Rattle.read_readings.specs.Readings.{reading}
use Rattle.read_call.specs.declared.Asked.{Asked}
use Rattle.read_call.specs.declared.Reading.{Reading}
use Rattle.read_call.specs.Answers.{longest_stream, judged_within}
use Rattle.demand_reading.specs.Promises.{Reads, Seen, seen_from, Run, none, next}
use Rattle.demand_reading.proofs.Written.{given_made}
use Rattle.demand_reading.specs.GivenWritten.{Made}
use Rattle.demand_reading.proofs.GivenWritten.{made-written, written-made}
use Rattle.demand_reading.proofs.EveryLine.{every-line-given}
use Rattle.demand_reading.specs.Whole.{WholeRun}
use Rattle.demand_joined.specs.Seeing.{seen_of, the_end, end_seen, stretch-seen}
use Rattle.replay_spec.specs.declared.Kind.TheVariants as kinds
use Rattle.replay_spec.specs.declared.Event.{Event}
use Rattle.replay_spec.specs.Events.{events}
use Rattle.replay_spec.specs.Press as press-of
use Rattle.replay_spec.specs.Press.{Given, gives, given_by, start, is_done, run}
use Rattle.replay_reading.specs.Order.{ahead, line_at, line-behind, gave}
use Rattle.replay_reading.specs.Streams.{stream-few, stream-below}
use Rattle.replay_reading.proofs.Given.{lines_seen, line-seen, J, given-in-order, drained}

-- some stretch of s is what a write call makes of the line L, with this key, font and layout, in an edition that is allowed
pub record WrittenIn (key font : List ℕ) (lay : Layout) (ed : ℕ) (s L : List ℕ) : Type 0 where
  pub first : ℕ
  pub closing : ℕ
  pub stretch : Stretch s first closing
  pub label : Label
  pub calls : ℕ
  pub made : Made key font lay ed label L calls (bytes_at s (span first closing))

-- what gives a line is judged to be it
line-judged : (j : Judged) (L : List ℕ) → given_by j ≡ gives L → (own : Own) × (n : ℕ) × (j ≡ line own L n)
line-judged shape L e = absurd (let z : ◌≡◌ {A = ℕ} 0 1 = cc e in omega arith)
line-judged stuffing L e = absurd (let z : ◌≡◌ {A = ℕ} 0 1 = cc e in omega arith)
line-judged font L e = absurd (let z : ◌≡◌ {A = ℕ} 0 1 = cc e in omega arith)
line-judged work L e = absurd (let z : ◌≡◌ {A = ℕ} 0 1 = cc e in omega arith)
line-judged (seal n) L e = absurd (let z : ◌≡◌ {A = ℕ} 0 1 = cc e in omega arith)
line-judged (unlisted n) L e = absurd (let z : ◌≡◌ {A = ℕ} 0 1 = cc e in omega arith)
line-judged (trade n) L e = absurd (let z : ◌≡◌ {A = ℕ} 0 1 = cc e in omega arith)
line-judged (layout n) L e = absurd (let z : ◌≡◌ {A = ℕ} 0 1 = cc e in omega arith)
line-judged (line own l n) L e =
    let q : l ≡ L = cc e in
    (own, n, ap (λ (x : List ℕ). line own x n) q)

-- line number n behind what a stretch gives: its own, or one of the others
data Among (g : Given) (l : List (List ℕ)) (L : List ℕ) : Type 0 where
  its_own : g ≡ gives L → Among g l L
  behind-it : (m : ℕ) → line_at m l ≡ gives L → Among g l L

among : (g : Given) (l : List (List ℕ)) (L : List ℕ) (n : ℕ) → line_at n (ahead g l) ≡ gives L → Among g l L
among press-of.nothing l L n e = behind-it n e
among (gives x) l L zero e = its_own e
among (gives x) l L (suc n) e = behind-it n e

pub lines-seen-append : (a b : List Seen) → lines_seen (a ++ b) ≡ lines_seen a ++ lines_seen b
lines-seen-append [] b = refl
lines-seen-append (v ∷ a) b = go v.ended (eqb v.number 0) (lines-seen-append a b)
  where
    go : (x y : Bool) → lines_seen (a ++ b) ≡ lines_seen a ++ lines_seen b
        → cond x (lines_seen (a ++ b)) (cond y (v.line ∷ lines_seen (a ++ b)) (lines_seen (a ++ b)))
        ≡ cond x (lines_seen a) (cond y (v.line ∷ lines_seen a) (lines_seen a)) ++ lines_seen b
    go true y e = e
    go false true e = ap (λ (l : List (List ℕ)). v.line ∷ l) e
    go false false e = e

module _ (key font : List ℕ) (asked : Asked) (z : Sizes (told key font asked.layout)) (enough : all_work ≤ asked.allowed) where
  module _ (s : List ℕ) (h : length s ≤ longest_stream) (bytes : Below 256 s) where
    abbrev W : ℕ → Judged
    W at = judged_within (told key font asked.layout) asked (next_stretch s at)

    abbrev Is : List ℕ → Type 0
    Is L = WrittenIn key font asked.layout asked.editions s L

    -- the stretch that a call finds, where it is judged to be a line
    its-written : (at : ℕ) → places.Found s at (next_span s at) → (L : List ℕ) → given_by (W at) ≡ gives L → Is L
    unfolding judged_within next_stretch
    its-written at x L e =
        let t = told key font asked.layout in
        let p = next_span s at in
        let ed = asked.editions in
        let b : Below 256 (bytes_at s p) = below-take 256 (p.closing - p.first) (drop p.first s) (below-drop 256 p.first s bytes) in
        let (own, n, q) = line-judged (W at) L e in
        let its : judge t ed (bytes_at s p) ≡ line own L n =
        not-work asked.allowed (judge t ed (bytes_at s p)) (line own L n) q (λ k. omega (arith, ap number_in k)) in
        record {
          first = p.first;
          closing = p.closing;
          stretch = x.stretch;
          label = label_of own;
          calls = _;
          made = made-written key font asked.layout ed own L (bytes_at s p) (given_made t z ed (bytes_at s p) b own L n its);
        }

    by_next : (at : ℕ) → at ≤ length s → (r : Reading) (l l' : List ℕ) (rest : List Seen) → longest ≤ length l → Reads key font asked s at l r l'
        → (n : ℕ) (L : List ℕ) → line_at n (lines_seen (seen_from 0 r l' ∷ rest)) ≡ gives L
        → (r.closing ≤ length s → (m : ℕ) → line_at m (lines_seen rest) ≡ gives L → Is L)
        → Next s at (next_span s at) → Is L
    by_next at f r l l' rest g p n L e more (nothing o no_one) =
        let v : seen_from 0 r l' ≡ the_end (length s) = end_seen key font asked s z h at f o l r l' g p in
        more (omega (arith, ap (λ (x : Seen). x.closing) v)) n (sym (ap (λ (x : Seen). line_at n (lines_seen (x ∷ rest))) v) ∙ e)
    by_next at f r l l' rest g p n L e more (something x) = go (among (given_by (W at)) (lines_seen rest) L n told-so)
      where
        vc : (seen_from 0 r l' ≡ seen_of (reading (next_span s at) (W at))) × (r.closing ≡ (next_span s at).closing)
        vc = stretch-seen key font asked s z h at f x l r l' g p

        told-so : line_at n (ahead (given_by (W at)) (lines_seen rest)) ≡ gives L
        told-so =
            sym (ap (λ (y : Seen). line_at n (lines_seen (y ∷ rest))) vc.0 ∙ ap (line_at n) (line-seen (W at) (lines_seen rest))) ∙ e

        go : Among (given_by (W at)) (lines_seen rest) L → Is L
        go (its_own q) = its-written at x L q
        go (behind-it m q) = more (rw vc.1 (omega (arith, x.stretch.ends))) m q

    -- a line that calls see is written
    pub seen-written : (at : ℕ) {seen : List Seen} → at ≤ length s → Run key font asked s 0 at seen → (n : ℕ) (L : List ℕ)
        → line_at n (lines_seen seen) ≡ gives L → Is L
    seen-written at f none zero L e = absurd (let y : ◌≡◌ {A = ℕ} 0 1 = cc e in omega arith)
    seen-written at f none (suc n) L e = absurd (let y : ◌≡◌ {A = ℕ} 0 1 = cc e in omega arith)
    seen-written at f (next r l l' {rest} g p q) n L e =
        by_next at f r l l' rest g p n L e (λ c m k. seen-written r.closing c q m L k) (next-cases s at)

    -- and a written one is seen
    pub written-seen : (L : List ℕ) → Is L → (w : WholeRun key font asked s) → (n : ℕ) × (line_at n (lines_seen w.seen) ≡ gives L)
    written-seen L i w =
        let v = written-made key font asked.layout asked.editions i.label L i.calls (bytes_at s (span i.first i.closing)) i.made in
        let few : i.calls ≤ asked.allowed = omega (arith, v.1, v.0.accepts.sealable.line-to, job-field-most i.made.own.edition, enough) in
        let (before, after, e) =
        every-line-given key font asked i.label L i.calls few s i.first i.closing h i.stretch i.made w.run w.ended in (
          length (lines_seen before),
          ap (λ (x : List Seen). line_at (length (lines_seen before)) (lines_seen x)) e
              ∙ ap (line_at (length (lines_seen before))) (lines-seen-append before _) ∙ line-behind (lines_seen before) (L ∷ lines_seen after),
        )

  module _ (trace : List ℕ) (bytes : Below 256 trace) (before after : List Event) (e : Event) (parts : events trace ≡ before ++ (e ∷ after))
      (request-is : e.kind ≡ kinds.Asked) (sound : is_done (run (J key font asked z enough) trace start before).answer ≡ true)
      (w : WholeRun key font asked (run (J key font asked z enough) trace start before).stream) where
    abbrev judging-so : List ℕ → Judged
    judging-so = J key font asked z enough

    -- what was received before the request
    abbrev stream : List ℕ
    stream = (run judging-so trace start before).stream

    abbrev Line : List ℕ → Type 0
    Line L = WrittenIn key font asked.layout asked.editions stream L

    -- the line that the request gives is one written; and a line written, of that stream, is one of those that come in order, and was given where it
    -- gives nothing
    pub record GivenWritten : Type 0 where
      pub given-is-written : (L : List ℕ) → (run judging-so trace start (before ++ (e ∷ []))).given ≡ gives L → Line L
      pub written-comes : (L : List ℕ) → Line L → (n : ℕ) × (line_at n (lines_seen w.seen) ≡ gives L)
      pub written-was-given : (run judging-so trace start (before ++ (e ∷ []))).given ≡ press-of.nothing → (L : List ℕ) → Line L
          → (n : ℕ) × (line_at n (gave judging-so trace start before) ≡ gives L)

    pub replay-given-written : GivenWritten
    replay-given-written =
        let few = stream-few judging-so trace before in
        let below = stream-below judging-so trace before bytes in
        let o = given-in-order key font asked z enough trace bytes before after e parts request-is sound w in
        let comes : (L : List ℕ) → Line L → (n : ℕ) × (line_at n (lines_seen w.seen) ≡ gives L) = λ L i. written-seen stream few below L i w in
        record {
          given-is-written = λ L g. seen-written stream few below 0 (omega arith) w.run (length (gave judging-so trace start before)) L (sym o.1 ∙ g);
          written-comes = comes;
          written-was-given = λ none L i.
              let (n, q) = comes L i in
              (n, ap (line_at n) (drained key font asked z enough trace bytes before after e parts request-is sound none w) ∙ q);
        }
