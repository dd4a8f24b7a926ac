-- The buyer's demand 3, second half, from the promises of `read` and `write` alone: a line is given exactly when the bytes between its
-- marks are those that a write call makes for that line under that key and font and some nonce and in edition two some job, and every frame that
-- a write call makes, standing anywhere in a stream, is read as its line, with its edition and its job. That a line is given asks that its edition
-- is allowed, and the calls of the permutation it takes; that
-- a line given is one written holds whatever is allowed. That the stream is bytes is a premise of `given-is-written`; what `read` is passed
-- meets it by its type (Bytes.antt, `read-bytes`). Assumes nothing.
use Rattle.std.specs.Prelude.{◌≡◌, refl, Bool, true, false, not, cond, ℕ, ◌+◌, ◌-◌, ◌≤◌, ◌<◌, eqb, ltb, take, drop, replicate, Result}
use Rattle.std.proofs.Math.Path.{sym, ap}
use Rattle.std.proofs.Common.{ap₂, ◌∙◌, arith, eq-eqb, ne_eqb, eqb-true}
use mathlib.Core.List.{List, [], ◌∷◌, ◌++◌, append_assoc}
use Rattle.std.proofs.Math.ListN.{length, length-append}
use Rattle.base_lists.specs.Below.{Below, below-take, below-drop}
use Rattle.base_lists.specs.Buffers.{over}
use Rattle.base_lists.specs.Over.{take-over}
use Rattle.frame_stuff_spec.specs.Stuffing.{mark, stuffed}
use Rattle.frame_stuff_spec.proofs.Marks.{stuffed-free}
use Rattle.line_spec.specs.Lines.{longest}
use Rattle.read_stretch.specs.declared.Span.{Span}
use Rattle.read_stretch.specs.Stretches.{span, bytes_at, next_span, next_stretch}
use Rattle.read_stretch.specs.Meaning.{Stretch}
use Rattle.read_stretch.proofs.Places.{stretch-next}
use Rattle.read_stretch.proofs.Shift.{next-frame, next-frame-bytes}
use Rattle.frame_body.specs.declared.Edition.TheVariants.{Two}
use Rattle.frame_body.specs.Fields.{digest_length, Own}
use Rattle.frame_body.proofs.Lengths.{job-field-most}
use Rattle.frame_write.specs.declared.Written as written
use Rattle.frame_write.specs.declared.FrameRefusal.{FrameRefusal}
use Rattle.line_layout.specs.declared.Layout.{Layout}
use Rattle.frame_spec.specs.Told.{Told, told, key_length}
use Rattle.frame_spec.specs.Frames.{sealed_line, sealed_body, framed, frame_of}
use Rattle.frame_spec.specs.Lengths.{frame_room, beside_line, length-framed, stretch-some, write-calls}
use Rattle.frame_write.specs.Answers.{frame_made, WriteCall, framed_call, write_call}
use Rattle.frame_write.specs.Outcomes.{Accepts, done-accepts, write_done}
use Rattle.read_call.specs.declared.Asked.{Asked}
use Rattle.read_call.specs.declared.Answer.{Answer}
use Rattle.read_call.specs.declared.Reading.{Reading}
use Rattle.read_call.specs.declared.Answer.TheVariants as answer-is
use Rattle.read_spec.specs.Sizes.{Sizes}
use Rattle.read_spec.specs.Editions.{allows}
use Rattle.read_spec.specs.Judged.{Label, label, label_of, label_in, Judged, shape, stuffing, work, seal, unlisted, trade, layout, line}
use Rattle.read_spec.specs.Judged as judged-is
use Rattle.read_spec.specs.Judged.{number_in}
use Rattle.read_spec.specs.Judging.{judge}
use Rattle.read_spec.specs.Ceiling.{within}
use Rattle.read_spec.proofs.Allowance.{enough-allowed, not-work}
use Rattle.read_readings.specs.Readings.{ends}
use Rattle.read_call.specs.Answers.{longest_stream, sized_told, Found, call, stretch, judged_within, found}
use Rattle.read_call.specs.Answers.{plain, reading_at, reading_of, buffer, answer_of, read_answer, read_out}
use Rattle.demand_reading.specs.Promises.{Reads, Writes}
use Rattle.demand_reading.proofs.Resync.{sized}
use Rattle.demand_reading.specs.Written.{Written}
use Rattle.demand_reading.proofs.Written.{written-given, given_made, made-given}
use Rattle.demand_reading.specs.GivenWritten.{gives, Made, Gave}

pub told-sized : (t : Told) → length t.key ≡ key_length → length t.font ≡ digest_length → sized_told t ≡ true
unfolding sized_told
told-sized t k d = rw (eq-eqb (length t.key) key_length k) (eq-eqb (length t.font) digest_length d)

-- a write call that is done
module _ (key : List ℕ) (own : Own) (font : List ℕ) (lay : Layout) (L f : List ℕ) (w : Result written.Written FrameRefusal) (f' : List ℕ)
    (p : Writes key own font lay L f w f') where
  abbrev t : Told
  t = told key font lay

  -- was asked for what the writer accepts, and left the frame in the buffer
  pub record Wrote (n k : ℕ) : Type 0 where
    pub accepts : Accepts t own L
    pub frame : take n f' ≡ frame_of t own L
    pub long : n ≡ length (frame_of t own L)
    pub calls : k ≡ length L + beside_line own.edition

  pub wrote : (n k : ℕ) → w ≡ frame_made n k → Wrote n k
  unfolding framed_call
  wrote n k e =
      let y = done-accepts t own L f n k (sym p.0 ∙ e) in
      let a = y.0 in
      let z : write_call t own L f ≡ framed_call t own L f = write_done t own L f a.sealable a.ruled y.1 in
      let same : frame_made n k ≡ frame_made (length (frame_of t own L)) (sealed_line t own L).calls =
      sym e ∙ p.0 ∙ ap (λ (c : WriteCall). c.answer) z in
      let made : ◌≡◌ {A = written.Written} (record { length = n; calls = k })
      (record { length = length (frame_of t own L); calls = (sealed_line t own L).calls }) = cc same in
      let long : n ≡ length (frame_of t own L) = ap (λ (x : written.Written). x.length) made in
      let calls : k ≡ (sealed_line t own L).calls = ap (λ (x : written.Written). x.calls) made in
      record {
        accepts = a;
        frame = ap (take n) (p.1 ∙ ap (λ (c : WriteCall). c.frame) z) ∙ take-over (frame_of t own L) f n (sym long);
        long = long;
        calls = calls ∙ write-calls a.sealable;
      }

-- what a call finds where the next stretch is the one written
module _ (t : Told) (asked : Asked) (z : Sizes t) (s : List ℕ) (from room : ℕ) (h : length s ≤ longest_stream) (g : longest ≤ room) (f : from ≤ length s) where
  pub found-next : (p : Span) → next_span s from ≡ p → (p.first ≡ p.closing → ⊥) → found t asked s from room
      ≡ stretch p (judged_within t asked (next_stretch s from))
  found-next p e d =
      sized t asked s from room h g f (told-sized t z.key-is z.font-is) ∙ rw (e, ne_eqb p.first p.closing d)

-- every frame that a write call makes, standing anywhere in a stream within the limit, is read from its opening mark as its line, where
-- its calls are allowed
module _ (key : List ℕ) (own : Own) (font : List ℕ) (lay : Layout) (L f : List ℕ) (w : Result written.Written FrameRefusal) (f' : List ℕ) (p : Writes key own font lay L f w f')
    (n k : ℕ) (e : w ≡ frame_made n k) where
  is : Wrote key own font lay L f w f' p n k
  is = wrote key own font lay L f w f' p n k e

  b : List ℕ
  b = sealed_body (told key font lay) own L

  -- in the words of the stream's law
  anywhere : (a c : List ℕ) → a ++ (take n f' ++ c) ≡ a ++ (mark ∷ (stuffed b ++ mark ∷ c))
  unfolding b frame_of framed
  anywhere a c = ap (λ (x : List ℕ). a ++ (x ++ c)) is.frame ∙ ap (λ (x : List ℕ). a ++ (mark ∷ x)) (append_assoc (stuffed b) (mark ∷ []) c)

  frame-length : n ≡ length (stuffed b) + 2
  unfolding b frame_of
  frame-length = is.long ∙ length-framed b

  pub frame-read : (asked : Asked) → asked.layout ≡ lay → allows asked.editions own.edition ≡ true → k ≤ asked.allowed
      → (a c l : List ℕ) (r : Reading) (l' : List ℕ) → length (a ++ (take n f' ++ c)) ≤ longest_stream → longest ≤ length l
      → Reads key font asked (a ++ (take n f' ++ c)) (length a) l r l'
      → (r ≡ gives (length a + 1) (length a + n - 1) (label_of own) (length L) k) × (l' ≡ over L l)
  unfolding b judged_within
  frame-read asked same may enough a c l r l' h g q =
      let t = told key font lay in
      let alike : told key font asked.layout ≡ t = ap (told key font) same in
      let y = is.accepts.sealable in
      let some : 0 < length (stuffed b) = stretch-some y in
      let s = a ++ (take n f' ++ c) in
      let sp : next_span s (length a) ≡ span (length a + 1) (length a + 1 + length (stuffed b)) =
      ap (λ (x : List ℕ). next_span x (length a)) (anywhere a c) ∙ next-frame a (stuffed b) c some (stuffed-free b) in
      let bytes : next_stretch s (length a) ≡ stuffed b =
      ap (λ (x : List ℕ). next_stretch x (length a)) (anywhere a c) ∙ next-frame-bytes a (stuffed b) c some (stuffed-free b) in
      let j : judge t asked.editions (next_stretch s (length a)) ≡ line own L k =
      ap (judge t asked.editions) bytes ∙ written-given t asked.editions own L is.accepts may ∙ ap (line own L) (sym is.calls) in
      let at : length a ≤ length s = omega (arith, length-append a (take n f' ++ c)) in
      let there = span (length a + 1) (length a + 1 + length (stuffed b)) in
      let found-is : found t asked s (length a) (length l) ≡ stretch there (line own L k) =
      found-next t asked (record { key-is = y.key-is; font-is = y.font-is }) s (length a) (length l) h g at there sp (λ u. omega (arith, u))
      ∙ ap (stretch there) (ap (within asked.allowed) j ∙ enough-allowed asked.allowed (line own L k) enough) in
      let last : length a + 1 + length (stuffed b) ≡ length a + n - 1 = omega (arith, frame-length) in (
        q.0 ∙ ap (λ (u : Told). read_answer u asked s (length a) l) alike ∙ ap reading_of found-is ∙ ap
            (λ (m : ℕ). gives (length a + 1) m (label_of own) (length L) k) last,
        q.1 ∙ ap (λ (u : Told). read_out u asked s (length a) l) alike ∙ ap (λ (x : Found). buffer x l) found-is,
      )

-- the definitions' word for it and the promises' are the same
pub made-written : (key font : List ℕ) (lay : Layout) (ed : ℕ) (own : Own) (L s' : List ℕ) → Written (told key font lay) ed s' own L
    → Made key font lay ed (label_of own) L (length L + beside_line own.edition) s'
unfolding framed_call
made-written key font lay ed own L s' v =
    let t = told key font lay in
    let y = v.accepts.sealable in
    record {
      own = own;
      nonce-is = y.nonce-is;
      job_is = y.job_is;
      allowed = v.allowed;
      labelled = refl;
      nonce-bytes = v.nonce-bytes;
      job-bytes = v.job-bytes;
      makes = λ f w f' g p.
          let z : write_call t own L f ≡ framed_call t own L f = write_done t own L f y v.accepts.ruled g in (
            length (frame_of t own L),
            p.0 ∙ ap (λ (c : WriteCall). c.answer) z ∙ ap (frame_made (length (frame_of t own L))) (write-calls y),
            ap (take (length (frame_of t own L))) (p.1 ∙ ap (λ (c : WriteCall). c.frame) z)
                ∙ take-over (frame_of t own L) f (length (frame_of t own L)) refl ∙ v.makes,
          );
    }

pub written-made : (key font : List ℕ) (lay : Layout) (ed : ℕ) (b : Label) (L : List ℕ) (k : ℕ) (s' : List ℕ) (m : Made key font lay ed b L k s')
    → Written (told key font lay) ed s' m.own L × (k ≡ length L + beside_line m.own.edition)
written-made key font lay ed b L k s' m =
    let t = told key font lay in
    let f : List ℕ = replicate (frame_room Two) 0 in
    let c = write_call t m.own L f in
    let (n, e, u) = m.makes f c.answer c.frame (omega (arith, job-field-most m.own.edition)) (refl, refl) in
    let o = wrote key m.own font lay L f c.answer c.frame (refl, refl) n k e in (
      record { accepts = o.accepts; allowed = m.allowed; nonce-bytes = m.nonce-bytes; job-bytes = m.job-bytes; makes = sym o.frame ∙ u },
      o.calls,
    )

sized-told : (t : Told) → sized_told t ≡ true → Sizes t
unfolding sized_told
sized-told t = go (eqb (length t.key) key_length) refl
  where
    go : (x : Bool) → eqb (length t.key) key_length ≡ x → cond x (eqb (length t.font) digest_length) false ≡ true → Sizes t
    go true p e = record { key-is = eqb-true (length t.key) key_length p; font-is = eqb-true (length t.font) digest_length e }
    go false p e = absurd (let z : ◌≡◌ {A = ℕ} 0 1 = cc e in omega arith)

-- a line is given only for a stretch judged so
answer-line : (j : Judged) (n k : ℕ) → answer_of j ≡ answer-is.Line n k → (own : Own) × (L : List ℕ) × (j ≡ line own L k) × (length L ≡ n)
answer-line (line own L m) n k e =
    let c : m ≡ k = cc e in
    let d : length L ≡ n = cc e in
    (own, L, ap (line own L) c, d)
answer-line shape n k e = absurd (let z : ◌≡◌ {A = ℕ} 0 1 = cc e in omega arith)
answer-line stuffing n k e = absurd (let z : ◌≡◌ {A = ℕ} 0 1 = cc e in omega arith)
answer-line judged-is.font n k e = absurd (let z : ◌≡◌ {A = ℕ} 0 1 = cc e in omega arith)
answer-line work n k e = absurd (let z : ◌≡◌ {A = ℕ} 0 1 = cc e in omega arith)
answer-line (seal m) n k e = absurd (let z : ◌≡◌ {A = ℕ} 0 1 = cc e in omega arith)
answer-line (unlisted m) n k e = absurd (let z : ◌≡◌ {A = ℕ} 0 1 = cc e in omega arith)
answer-line (trade m) n k e = absurd (let z : ◌≡◌ {A = ℕ} 0 1 = cc e in omega arith)
answer-line (layout m) n k e = absurd (let z : ◌≡◌ {A = ℕ} 0 1 = cc e in omega arith)

gave : (t : Told) (asked : Asked) (s : List ℕ) (from room p q : ℕ) (b : Label) (n k : ℕ) → reading_of (found t asked s from room) ≡ gives p q b n k
    → Gave t asked s from room p q b n k
unfolding found next_stretch judged_within
gave t asked s from room p q b n k =
    go (sized_told t) refl (ltb longest_stream (length s)) refl (ltb room longest) refl (ltb (length s) from) refl (ends (next_span s from)) refl
  where
    -- no refusal of a call is a line, nor is the end
    said : {at : ℕ} {a : Answer} → reading_at (span at at) (plain a) ≡ gives p q b n k → a ≡ answer-is.Line n k
    said r = ap (λ (g : Reading). g.answer) r

    go : (a : Bool) → sized_told t ≡ a → (v₀ : Bool) → ltb longest_stream (length s) ≡ v₀ → (c : Bool) → ltb room longest ≡ c
        → (d : Bool) → ltb (length s) from ≡ d → (e : Bool) → ends (next_span s from) ≡ e
        → reading_of (cond (not a) (call from answer-is.Sizes)
        (cond v₀ (call from answer-is.TooLong)
        (cond c (call from answer-is.NoRoom)
        (cond d (call from answer-is.Beyond)
        (cond e (call (length s) answer-is.End) (stretch (next_span s from) (within asked.allowed (judge t asked.editions (next_stretch s from))))))))) ≡
        gives p q b n k
        → Gave t asked s from room p q b n k
    go true u false v false w false x false y r =
        let o : next_span s from ≡ span p q = ap (λ (g : Reading). span g.first g.closing) r in
        let whole = within asked.allowed (judge t asked.editions (next_stretch s from)) in
        let z = answer-line whole n k (ap (λ (g : Reading). g.answer) r) in
        let given-with : label_in whole ≡ b = ap (λ (g : Reading). label g.edition g.job) r in
        let its : judge t asked.editions (next_stretch s from) ≡ line z.0 z.1 k =
        not-work asked.allowed (judge t asked.editions (next_stretch s from)) (line z.0 z.1 k) z.2 (λ e. omega (arith, ap number_in e)) in
        let j : judge t asked.editions (bytes_at s (span p q)) ≡ line z.0 z.1 k = ap (λ (g : Span). judge t asked.editions (bytes_at s g)) (sym o) ∙
        its in
        record {
          sizes = sized-told t u;
          own = z.0;
          labelled = sym (ap label_in z.2) ∙ given-with;
          the-line = z.1;
          long = z.3;
          found-is = rw (u, v, w, x, y) (ap₂ stretch o z.2);
          judged = j;
        }
    go true u false v false w false x true y r = absurd (let z : ◌≡◌ {A = ℕ} 0 1 = cc (said r) in omega arith)
    go true u false v false w true x e y r = absurd (let z : ◌≡◌ {A = ℕ} 0 1 = cc (said r) in omega arith)
    go true u false v true w d x e y r = absurd (let z : ◌≡◌ {A = ℕ} 0 1 = cc (said r) in omega arith)
    go true u true v c w d x e y r = absurd (let z : ◌≡◌ {A = ℕ} 0 1 = cc (said r) in omega arith)
    go false u v₀ v c w d x e y r = absurd (let z : ◌≡◌ {A = ℕ} 0 1 = cc (said r) in omega arith)

-- a call: its arguments, and an answer and a buffer that its promise admits
module _ (key font : List ℕ) (asked : Asked) (s : List ℕ) (bytes : Below 256 s) (from : ℕ) (l : List ℕ) (r : Reading) (l' : List ℕ)
    (c : Reads key font asked s from l r l') where
  -- a line that is given is what a write call makes of it, with the same count, edition and job
  pub given-is-written : (p q : ℕ) (b : Label) (n k : ℕ) → r ≡ gives p q b n k → Made key font asked.layout asked.editions b (take n l') k
      (bytes_at s (span p q))
  given-is-written p q b n k e =
      let t = told key font asked.layout in
      let ed = asked.editions in
      let g = gave t asked s from (length l) p q b n k (sym c.0 ∙ e) in
      let L = g.the-line in
      let own = g.own in
      let v = given_made t g.sizes ed (bytes_at s (span p q)) (part-below p q) own L k g.judged in
      let same : line own L k ≡ line own L (length L + beside_line own.edition) = sym g.judged ∙ made-given t ed (bytes_at s (span p q)) own L v in
      let calls : k ≡ length L + beside_line own.edition = cc same in
      let there : take n l' ≡ L =
      ap (take n) (c.1 ∙ ap (λ (x : Found). buffer x l) g.found-is) ∙ take-over L l n g.long in
      same-made (sym g.labelled) there calls (made-written key font asked.layout ed own L (bytes_at s (span p q)) v)
    where
      same-made : {ed : ℕ} {b b' : Label} {L L' : List ℕ} {k k' : ℕ} {s' : List ℕ} → b' ≡ b → L' ≡ L → k' ≡ k
          → Made key font asked.layout ed b L k s' → Made key font asked.layout ed b' L' k' s'
      same-made w x y m = rw (w, x, y) m

      part-below : (p q : ℕ) → Below 256 (bytes_at s (span p q))
      part-below p q = below-take 256 (q - p) (drop p s) (below-drop 256 p s bytes)

-- and every stretch that a write call makes gives its line, read from its opening mark, where its edition and its calls are allowed
pub written-is-given : (key font : List ℕ) (asked : Asked) (b : Label) (L : List ℕ) (k : ℕ) → k ≤ asked.allowed
    → (s : List ℕ) (p q : ℕ) → length s ≤ longest_stream → Stretch s p q
    → Made key font asked.layout asked.editions b L k (bytes_at s (span p q)) → (l : List ℕ) (r : Reading) (l' : List ℕ) → longest ≤ length l
    → Reads key font asked s (p - 1) l r l'
    → (r ≡ gives p q b (length L) k) × (l' ≡ over L l)
unfolding next_stretch judged_within
written-is-given key font asked b L k enough s p q h x m l r l' g c =
    let t = told key font asked.layout in
    let ed = asked.editions in
    let v = written-made key font asked.layout ed b L k (bytes_at s (span p q)) m in
    let own = m.own in
    let y = v.0.accepts.sealable in
    let sp = stretch-next s p q x in
    let at : p - 1 ≤ length s = omega (arith, x.some, x.ends) in
    let j : judge t ed (next_stretch s (p - 1)) ≡ line own L k =
    ap (λ (o : Span). judge t ed (bytes_at s o)) sp ∙ made-given t ed (bytes_at s (span p q)) own L v.0 ∙ ap (line own L) (sym v.1) in
    let found-is : found t asked s (p - 1) (length l) ≡ stretch (span p q) (line own L k) =
    found-next t asked (record { key-is = y.key-is; font-is = y.font-is }) s (p - 1) (length l) h g at (span p q) sp (λ u. omega (arith, u, x.some))
    ∙ ap (stretch (span p q)) (ap (within asked.allowed) j ∙ enough-allowed asked.allowed (line own L k) enough) in
    (c.0 ∙ ap reading_of found-is ∙ ap (λ (x : Label). gives p q x (length L) k) m.labelled, c.1 ∙ ap (λ (o : Found). buffer o l) found-is)
