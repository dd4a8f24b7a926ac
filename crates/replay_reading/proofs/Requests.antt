-- `request-as-read` (order W11), from the promise of `read` alone: a request gives what read calls from its place meet first, each from where the one before
-- closed, all the work allowed: a line, with its closing mark as the place; or at the end nothing, and the place is the closing mark of the last stretch
-- that these calls refused, unchanged where they refused none. Assumes nothing.
use Rattle.std.specs.Prelude.{◌≡◌, refl, true, false, List, [], ◌∷◌, ℕ, ◌≤◌, length}
use Rattle.std.proofs.Common.{sym, ap, subst, ◌∙◌, arith, eq-eqb, ne_eqb}
use Rattle.base_lists.specs.Never.{never}
use Rattle.base_lists.specs.Below.{Below}
use Rattle.line_spec.specs.Lines.{longest}
use Rattle.read_stretch.specs.Stretches.{span, next_span, next_stretch}
use Rattle.read_stretch.specs.Places as places
use Rattle.read_stretch.specs.Places.{Next, nothing, something}
use Rattle.read_stretch.proofs.Places.{next-cases}
use Rattle.frame_spec.specs.Told.{told}
use Rattle.read_spec.specs.Judged.{Judged, shape, stuffing, font, work, seal, unlisted, trade, layout, line, number_in, line_in}
use Rattle.read_spec.specs.Sizes.{Sizes}
use Rattle.read_spec.specs.Ceiling.{all_work}
use Rattle.read_readings.specs.Readings.{reading}
use Rattle.read_call.specs.declared.Asked.{Asked}
use Rattle.read_call.specs.declared.Reading.{Reading}
use Rattle.read_call.specs.Answers.{longest_stream, judged_within}
use Rattle.demand_reading.specs.Promises.{Reads, Seen, seen_from, Run, none, next}
use Rattle.demand_joined.specs.Seeing.{seen_of, the_end, end_seen, stretch-seen}
use Rattle.replay_spec.specs.Press as press-of
use Rattle.replay_spec.specs.Press.{gives, given_by, Met, met, or_else, request}
use Rattle.replay_spec.proofs.Requesting.{request-step}
use Rattle.replay_reading.proofs.Given.{J, judged-alike}
use Rattle.replay_reading.specs.Requests.{Until, at-line, at-end, refused, First, by-line, by_end, by-refusal}

first_until : {at : ℕ} {v : Seen} {rest : List Seen} {m : Met} → Until at (v ∷ rest) m → First at v rest m
first_until (at-line a b) = by-line a b refl
first_until (at-end a) = by_end a refl
first_until (refused a b k) = by-refusal a b k

gives_line : (j : Judged) → number_in j ≡ 0 → given_by j ≡ gives (line_in j)
gives_line shape e = absurd (omega (arith, e))
gives_line stuffing e = absurd (omega (arith, e))
gives_line font e = absurd (omega (arith, e))
gives_line work e = absurd (omega (arith, e))
gives_line (seal n) e = absurd (omega (arith, e))
gives_line (unlisted n) e = absurd (omega (arith, e))
gives_line (trade n) e = absurd (omega (arith, e))
gives_line (layout n) e = absurd (omega (arith, e))
gives_line (line k l n) e = refl

gives_none : (j : Judged) → (number_in j ≡ 0 → ⊥) → given_by j ≡ press-of.nothing
gives_none shape n = refl
gives_none stuffing n = refl
gives_none font n = refl
gives_none work n = refl
gives_none (seal k) n = refl
gives_none (unlisted k) n = refl
gives_none (trade k) n = refl
gives_none (layout k) n = refl
gives_none (line k l c) n = absurd (n refl)

module _ (key font : List ℕ) (asked : Asked) (z : Sizes (told key font asked.layout)) (enough : all_work ≤ asked.allowed) (s : List ℕ)
    (h : length s ≤ longest_stream) (bytes : Below 256 s) where
  abbrev Asks : ℕ → Met
  Asks at = request (J key font asked z enough) s at

  abbrev W : ℕ → Judged
  W at = judged_within (told key font asked.layout) asked (next_stretch s at)

  ended-there : (at : ℕ) → next_span s at ≡ span (length s) (length s) → Asks at ≡ met press-of.nothing at
  ended-there at e = request-step (J key font asked z enough) s at ∙ rw (e, eq-eqb (length s) (length s) refl)

  -- a request by the stretch that a call finds
  found-there : (at : ℕ) → places.Found s at (next_span s at)
      → Asks at ≡ or_else (given_by (W at)) (next_span s at).closing (Asks (next_span s at).closing)
  found-there at x =
      request-step (J key font asked z enough) s at
      ∙ rw (ne_eqb (next_span s at).first (next_span s at).closing (λ e. omega (arith, e, x.stretch.some)))
      (ap (λ (j : Judged). or_else (given_by j) (next_span s at).closing (Asks (next_span s at).closing)) (sym (judged-alike key font asked z enough s bytes at)))

  -- the first call, where more may follow
  by_next : (at : ℕ) → at ≤ length s → (r : Reading) (l l' : List ℕ) (rest : List Seen) (m : Met) → longest ≤ length l → Reads key font asked s at l r l'
      → Until at (seen_from 0 r l' ∷ rest) m → (r.closing ≤ length s → Until r.closing rest m → Asks r.closing ≡ m)
      → Next s at (next_span s at) → Asks at ≡ m
  by_next at f r l l' rest m g p u more (nothing n no_one) = go (first_until u)
    where
      v : seen_from 0 r l' ≡ the_end (length s)
      v = end_seen key font asked s z h at f n l r l' g p

      go : First at (seen_from 0 r l') rest m → Asks at ≡ m
      go (by-line a b e) = never (sym a ∙ ap (λ (x : Seen). x.ended) v)
      go (by_end a e) = ended-there at n ∙ sym e
      go (by-refusal a b k) = never (sym a ∙ ap (λ (x : Seen). x.ended) v)
  by_next at f r l l' rest m g p u more (something x) = go (first_until u)
    where
      vc : (seen_from 0 r l' ≡ seen_of (reading (next_span s at) (W at))) × (r.closing ≡ (next_span s at).closing)
      vc = stretch-seen key font asked s z h at f x l r l' g p

      seen-is : Seen
      seen-is = seen_of (reading (next_span s at) (W at))

      go : First at (seen_from 0 r l') rest m → Asks at ≡ m
      go (by-line a b e) =
          found-there at x
          ∙ rw (gives_line (W at) (sym (ap (λ (y : Seen). y.number) vc.0) ∙ b))
          (ap (λ (y : Seen). met (gives y.line) y.closing) (sym vc.0))
          ∙ sym e
      go (by_end a e) = never (sym (ap (λ (y : Seen). y.ended) vc.0) ∙ a)
      go (by-refusal a b k) =
          let e : Asks at ≡ Asks (next_span s at).closing =
          found-there at x ∙ rw (gives_none (W at) (λ q. b (ap (λ (y : Seen). y.number) vc.0 ∙ q))) in
          let inside : r.closing ≤ length s = rw vc.1 (omega (arith, x.stretch.ends)) in
          e ∙ ap Asks (sym vc.1) ∙ more inside (subst (λ (c : ℕ). Until c rest m) (omega arith) k)

  pub request-as-read : (at : ℕ) {seen : List Seen} {m : Met} → at ≤ length s → Run key font asked s 0 at seen → Until at seen m → Asks at ≡ m
  request-as-read at f none u = elim u [ ]
  request-as-read at {m = m} f (next r l l' {rest} g p q) u =
      by_next at f r l l' rest m g p u (λ c k. request-as-read r.closing c q k) (next-cases s at)
