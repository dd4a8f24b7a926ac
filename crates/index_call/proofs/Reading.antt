-- What a call of `read` from a place with a stretch ahead gives: its place, its number and its closing mark. Assumes nothing.
use mathlib.Core.Path.{◌≡◌, refl, ap, ap₂, ◌∙◌}
use mathlib.Core.List.{List, []}
use Prim.Native.Nat.{ℕ, ◌+◌, ◌*◌, ◌<◌}
use native.Mathlib.Omega.{arith}
use Rattle.line_spec.specs.Lines.{longest}
use Rattle.line_layout.specs.declared.Layout.{Layout}
use Rattle.read_stretch.specs.Stretches.{next_span, next_stretch}
use Rattle.read_stretch.proofs.Places.{next-found}
use Rattle.frame_spec.specs.Told.{Told, told}
use Rattle.read_spec.specs.Judged.{Judged, number_in}
use Rattle.read_call.specs.declared.Reading.{Reading}
use Rattle.read_call.specs.Answers.{stretch, found, reading_of, answer_number}
use Rattle.demand_reading.specs.Promises.{Seen}
use Rattle.demand_reading.proofs.Resync.{seen_at}
use Rattle.demand_reading.proofs.GivenWritten.{found-next}
use Rattle.index_spec.specs.Entries.{entry_of}
use Rattle.index_spec.specs.Updating.{all_asked, judged_all}
use Rattle.index_spec.specs.Recorded.{number-below}
use Rattle.index_call.specs.Steps.{next, Ahead, next_of}

module _ (key font : List ℕ) (lay : Layout) (editions : ℕ) (s : List ℕ) (from : ℕ) (a : Ahead (told key font lay) s from)
    (r : Reading) (e : r ≡ reading_of (found (told key font lay) (all_asked editions lay) s from longest)) where
  abbrev t : Told
  t = told key font lay

  abbrev j : Judged
  j = judged_all t editions (next_stretch s from)

  is : r ≡ reading_of (stretch (next_span s from) j)
  is =
      let q : found t (all_asked editions lay) s from longest ≡ stretch (next_span s from) j =
      found-next t (all_asked editions lay) a.sizes s from longest a.short (omega arith) a.inside (next_span s from) refl a.some in
      e ∙ ap reading_of q

  pub first-is : r.first ≡ (next_span s from).first
  first-is = ap (λ (x : Reading). x.first) is

  pub closing-is : r.closing ≡ (next_span s from).closing
  closing-is = ap (λ (x : Reading). x.closing) is

  pub number_is : answer_number r.answer ≡ number_in j
  number_is = ap (λ (x : Reading). answer_number x.answer) is ∙ ap (λ (v : Seen). v.number) (seen_at 0 (next_span s from) j [])

  -- a place of the stream, and a number of a stretch
  pub first_below : r.first < 65536
  first_below =
      let f = next-found s from a.some in
      omega (arith, first-is, f.stretch.some, f.stretch.ends, a.short)

  pub number_small : answer_number r.answer < 256
  number_small = omega (arith, number_is, number-below j)

  pub next-is : (n : ℕ) → n ≡ answer_number r.answer → next (r.first * 256 + n) r.closing ≡ next_of t editions s from
  next-is n p = ap₂ next (ap₂ entry_of first-is (p ∙ number_is)) closing-is
