-- What one read call tells of a request: its line, that there is none, or that the request goes on from the closing mark. Assumes nothing.
use mathlib.Core.Path.{◌≡◌, refl, sym, ap, subst, ◌∙◌}
use mathlib.Core.Bool.{Bool, true, false, cond}
use mathlib.Core.List.{List}
use Prim.Native.Nat.{ℕ, ◌≤◌, ◌<◌}
use native.Mathlib.Omega.{arith}
use lib.ListN.{length, length-replicate}
use borrow.Author.Tests.{eqb-false}
use Rattle.line_spec.specs.Lines.{longest}
use Rattle.read_stretch.specs.declared.Span.{Span}
use Rattle.read_stretch.specs.Stretches.{next_span, next_stretch}
use Rattle.read_stretch.specs.Places as places
use Rattle.read_stretch.proofs.Places.{next-found}
use Rattle.frame_spec.specs.Told.{Told}
use Rattle.read_spec.specs.Judged.{Judged, shape, stuffing, font, work, seal, unlisted, trade, layout, line}
use Rattle.read_readings.specs.Readings.{ends}
use Rattle.read_call.specs.declared.Answer.TheVariants as answer-is
use Rattle.read_call.specs.Answers.{END, LINE, STRETCH-REFUSED, longest_stream, sized_told, Found, call, stretch, found, reading_of, buffer}
use Rattle.demand_reading.proofs.Resync.{sized}
use Rattle.replay_spec.specs.Press.{nothing, given_by, Met, met, or_else, request}
use Rattle.replay_spec.proofs.Requesting.{request-step}
use Rattle.replay_spec.specs.Answers.{all_asked, judging, zeros}
use Rattle.replay_request.specs.declared.Look.{Look}
use Rattle.replay_request.specs.Requests.{look_of, looked, reached_of}

module _ (t : Told) (ed : ℕ) (s : List ℕ) (z : sized_told t ≡ true) (h : length s ≤ longest_stream) where
  abbrev Asks : ℕ → Met
  Asks at = request (judging t ed) s at

  -- what one call tells of a request
  pub data Tells (at : ℕ) (l : Look) : Type 0 where
    at-end : l.outcome ≡ END → l.first ≡ l.closing → Asks at ≡ met nothing at → Tells at l
    at-line : l.outcome ≡ LINE → record { found = true; place = l.closing; length = l.length; line = l.line } ≡ reached_of (Asks at) → Tells at l
    passed : l.outcome ≡ STRETCH-REFUSED → (l.first ≡ l.closing → ⊥) → Asks at ≡ Asks l.closing → at < l.closing → l.closing ≤ length s → Tells at l

  module _ (at : ℕ) (f : at < length s) where
    abbrev p : Span
    p = next_span s at

    abbrev j : Judged
    j = judging t ed (next_stretch s at)

    found-is : found t (all_asked ed t.layout) s at (length zeros) ≡ cond (ends p) (call (length s) answer-is.End) (stretch p j)
    unfolding judging
    found-is = sized t (all_asked ed t.layout) s at (length zeros) h (omega (arith, length-replicate {A = ℕ} longest 0)) (omega arith) z

    look-found : Found → Look
    look-found x = look_of (reading_of x) (buffer x zeros)

    by-judged : (k : Judged) → (p.first ≡ p.closing → ⊥) → at < p.closing → p.closing ≤ length s
        → Asks at ≡ or_else (given_by k) p.closing (Asks p.closing)
        → Tells at (look-found (stretch p k))
    unfolding look-found
    by-judged shape n m w e = passed refl n e m w
    by-judged stuffing n m w e = passed refl n e m w
    by-judged font n m w e = passed refl n e m w
    by-judged work n m w e = passed refl n e m w
    by-judged (seal k) n m w e = passed refl n e m w
    by-judged (unlisted k) n m w e = passed refl n e m w
    by-judged (trade k) n m w e = passed refl n e m w
    by-judged (layout k) n m w e = passed refl n e m w
    by-judged (line k l c) n m w e = at-line refl (sym (ap reached_of e))

    by-ends : (b : Bool) → ends p ≡ b → Tells at (look-found (cond b (call (length s) answer-is.End) (stretch p j)))
    unfolding look-found
    by-ends true e = at-end refl refl (request-step (judging t ed) s at ∙ rw e)
    by-ends false e =
        let n = eqb-false p.first p.closing e in
        let x : places.Found s at p = next-found s at n in
        by-judged j n (omega (arith, x.later, x.stretch.some)) (omega (arith, x.stretch.ends)) (request-step (judging t ed) s at ∙ rw e)

    pub tells : (l : Look) → l ≡ looked t ed s at → Tells at l
    unfolding look-found
    tells l e = subst (Tells at) (sym (e ∙ ap look-found found-is)) (by-ends (ends p) refl)

  module _ (at : ℕ) (f : at < length s) (l : Look) (e : l ≡ looked t ed s at) where
    pub line-told : l.outcome ≡ LINE → record { found = true; place = l.closing; length = l.length; line = l.line } ≡ reached_of (Asks at)
    line-told g = go (tells at f l e)
      where
        go : Tells at l → record { found = true; place = l.closing; length = l.length; line = l.line } ≡ reached_of (Asks at)
        go (at-end a b c) = absurd (omega (arith, a, g))
        go (at-line a b) = b
        go (passed a b c d k) = absurd (omega (arith, a, g))

    pub end-told : (l.outcome ≡ LINE → ⊥) → l.first ≡ l.closing → Asks at ≡ met nothing at
    end-told g n = go (tells at f l e)
      where
        go : Tells at l → Asks at ≡ met nothing at
        go (at-end a b c) = c
        go (at-line a b) = absurd (g a)
        go (passed a b c d k) = absurd (b n)

    -- passed over: the request goes on from the closing mark, which stands behind
    pub record Goes : Type 0 where
      pub same : Asks at ≡ Asks l.closing
      pub on : at < l.closing
      pub within : l.closing ≤ length s

    pub pass-told : (l.outcome ≡ LINE → ⊥) → (l.first ≡ l.closing → ⊥) → Goes
    pass-told g n = go (tells at f l e)
      where
        go : Tells at l → Goes
        go (at-end a b c) = absurd (n b)
        go (at-line a b) = absurd (g a)
        go (passed a b c d k) = record { same = c; on = d; within = k }
