-- `given-in-order` and `drained` (order W11), from the promise of `read` alone: whatever a trace, each request gives the next line of a whole run of read
-- calls over the stream received before it, behind the lines given before; and nothing exactly where that run has no more. Assumes nothing.
use Rattle.std.specs.Prelude.{◌≡◌, refl, true, cond, List, [], ◌∷◌, ◌++◌, ℕ, zero, suc, ◌-◌, ◌≤◌, eqb, length, take, drop}
use Rattle.std.proofs.Math.Path.{sym, ap}
use Rattle.std.proofs.Common.{◌∙◌, arith, take_all}
use Rattle.base_lists.specs.Below.{Below, below-take, below-drop}
use Rattle.read_stretch.specs.Stretches.{next_span, next_stretch}
use Rattle.frame_spec.specs.Told.{told}
use Rattle.read_spec.specs.Judged.{Judged, shape, stuffing, font, work, seal, unlisted, trade, layout, line, number_in, line_in}
use Rattle.read_spec.specs.Sizes.{Sizes}
use Rattle.read_spec.specs.Ceiling.{all_work}
use Rattle.read_spec.proofs.Allowance.{all-allowed}
use Rattle.read_readings.specs.Readings.{Reading, readings}
use Rattle.read_call.specs.declared.Asked.{Asked}
use Rattle.read_call.specs.Answers.{longest_stream, judged_within}
use Rattle.demand_reading.specs.Promises.{Seen}
use Rattle.demand_reading.specs.Whole.{WholeRun}
use Rattle.demand_joined.specs.Seeing.{seen_to, run-readings}
use Rattle.accept_spec.specs.Readings.{readings-by}
use Rattle.replay_spec.specs.declared.Kind.{Kind}
use Rattle.replay_spec.specs.declared.Kind.TheVariants as kinds
use Rattle.replay_spec.specs.declared.Event.{Event}
use Rattle.replay_spec.specs.Events.{events, bytes_of}
use Rattle.replay_spec.specs.Press.{Given, nothing, given_by, request, Press, start, counted, ask, does, is_done, step, run}
use Rattle.replay_spec.specs.Runs.{run-append, turn-done}
use Rattle.replay_spec.specs.Answers.{judging}
use Rattle.replay_reading.specs.Order.{ahead, lines_in, line_at, gave, in_order}
use Rattle.replay_reading.specs.Streams.{stream-few, stream-below}

-- the lines that calls see, in order
abbrev pub lines_seen : List Seen → List (List ℕ)
lines_seen [] = []
lines_seen (v ∷ l) = cond v.ended (lines_seen l) (cond (eqb v.number 0) (v.line ∷ lines_seen l) (lines_seen l))

pub line-seen : (j : Judged) (l : List (List ℕ)) → cond (eqb (number_in j) 0) (line_in j ∷ l) l ≡ ahead (given_by j) l
line-seen shape l = refl
line-seen stuffing l = refl
line-seen font l = refl
line-seen work l = refl
line-seen (seal n) l = refl
line-seen (unlisted n) l = refl
line-seen (trade n) l = refl
line-seen (layout n) l = refl
line-seen (line k x n) l = refl

lines-to : (n : ℕ) (rs : List Reading) → lines_seen (seen_to n rs) ≡ lines_in rs
lines-to n [] = refl
lines-to n (r ∷ rs) =
    ap (λ (l : List (List ℕ)). cond (eqb (number_in r.judged) 0) (line_in r.judged ∷ l) l) (lines-to n rs) ∙ line-seen r.judged (lines_in rs)

no_more : (n : ℕ) (l : List (List ℕ)) → line_at n l ≡ nothing → length l ≤ n
no_more zero [] e = omega arith
no_more zero (x ∷ l) e = absurd (let z : ◌≡◌ {A = ℕ} 0 1 = cc e in omega arith)
no_more (suc n) [] e = omega arith
no_more (suc n) (x ∷ l) e = omega (arith, no_more n l e)

module _ (key font : List ℕ) (asked : Asked) (z : Sizes (told key font asked.layout)) (enough : all_work ≤ asked.allowed) where
  abbrev pub J : List ℕ → Judged
  J = judging (told key font asked.layout) asked.editions

  -- with all the work allowed, a stretch of bytes is judged as the replay judges it
  pub judged-alike : (s : List ℕ) → Below 256 s → (from : ℕ) → judged_within (told key font asked.layout) asked (next_stretch s from) ≡ J (next_stretch s from)
  unfolding judged_within judging next_stretch
  judged-alike s b from =
      let t = told key font asked.layout in
      let p = next_span s from in
      let x : Below 256 (next_stretch s from) = below-take 256 (p.closing - p.first) (drop p.first s) (below-drop 256 p.first s b) in
      all-allowed t z asked.editions (next_stretch s from) x asked.allowed enough
      ∙ sym (all-allowed t z asked.editions (next_stretch s from) x all_work (omega arith))

  pub whole-lines : (s : List ℕ) → length s ≤ longest_stream → Below 256 s → (w : WholeRun key font asked s) → lines_seen w.seen ≡ lines_in (readings J s 0)
  whole-lines s h b w =
      let W = judged_within (told key font asked.layout) asked in
      ap lines_seen (run-readings key font asked s z h 0 (omega arith) w.run w.ended)
      ∙ lines-to (length s) (readings W s 0) ∙ ap lines_in (readings-by W J s (judged-alike s b) 0)

  module _ (trace : List ℕ) (bytes : Below 256 trace) (before after : List Event) (e : Event) (parts : events trace ≡ before ++ (e ∷ after))
      (request-is : e.kind ≡ kinds.Asked) (sound : is_done (run J trace start before).answer ≡ true) where
    -- the press before the request, what it gives, and the lines given before it
    abbrev s : Press
    s = run J trace start before

    abbrev given : Given
    given = (run J trace start (before ++ (e ∷ []))).given

    abbrev so_far : List (List ℕ)
    so_far = gave J trace start before

    asks : given ≡ (request J s.stream s.place).given
    unfolding run step ask
    asks =
        ap (λ (x : Press). x.given) (run-append J trace start before (e ∷ []) ∙ turn-done J trace s e sound)
        ∙ ap (λ (k : Kind). (does J k (bytes_of trace e) (counted s)).given) request-is

    -- the lines given before it are the first of the whole run, and it gives the next
    pub given-in-order : (w : WholeRun key font asked s.stream) → (take (length so_far) (lines_seen w.seen) ≡ so_far)
        × (given ≡ line_at (length so_far) (lines_seen w.seen))
    given-in-order w =
        let o = in_order J trace before in
        let l = whole-lines s.stream (stream-few J trace before) (stream-below J trace before bytes) w in (
          ap (take (length so_far)) l ∙ o.so_far,
          asks ∙ o.next ∙ ap (line_at (length so_far)) (sym l),
        )

    -- so where it gives nothing, all lines of the stream received before it were given
    pub drained : given ≡ nothing → (w : WholeRun key font asked s.stream) → so_far ≡ lines_seen w.seen
    drained n w =
        let o = in_order J trace before in
        let l = whole-lines s.stream (stream-few J trace before) (stream-below J trace before bytes) w in
        let a = ap (take (length so_far)) l ∙ o.so_far in
        let b = asks ∙ o.next ∙ ap (line_at (length so_far)) (sym l) in
        sym a ∙ take_all (length so_far) (lines_seen w.seen) (no_more (length so_far) (lines_seen w.seen) (sym b ∙ n))
