-- What a run sees of a filler that stands between two frames, with all the work allowed: one refusal where no write call makes it between its
-- marks, and where one does, exactly its line. From the promises alone. Assumes nothing.
use Rattle.std.specs.Prelude.{◌≡◌, refl, false, List, [], ℕ, ◌+◌, ◌<◌, length}
use Rattle.std.proofs.Common.{sym, ap, subst, ◌∙◌, arith}
use Rattle.base_lists.specs.Below.{Below}
use Rattle.frame_stuff_spec.specs.Stuffing.{stuffed}
use Rattle.frame_stuff_spec.specs.Lengths.{stuffed-at-least}
use Rattle.read_stretch.specs.Stretches.{span}
use Rattle.frame_body.specs.declared.Edition.TheVariants.{One}
use Rattle.frame_body.specs.Lengths.{shortest_body}
use Rattle.frame_spec.specs.Told.{Told}
use Rattle.frame_spec.specs.Frames.{sealed_body}
use Rattle.frame_spec.specs.Lengths.{beside_line, sealed-body-lengths}
use Rattle.read_spec.specs.Sizes.{Sizes}
use Rattle.read_spec.specs.Judged.{Label, label_of, no_label, label_in, line_in, number_in, calls_in, Judged, shape}
use Rattle.read_spec.specs.Judged.{stuffing, font, work, seal, unlisted, trade, layout, line}
use Rattle.read_spec.specs.Judging.{judge}
use Rattle.read_readings.specs.Readings.{reading}
use Rattle.demand_reading.specs.Promises.{Seen}
use Rattle.demand_reading.proofs.Written.{between, given_made, made-given}
use Rattle.demand_reading.specs.GivenWritten.{Made}
use Rattle.demand_reading.proofs.GivenWritten.{made-written, written-made}
use Rattle.demand_reading.specs.EveryLine.{given}
use Rattle.demand_joined.specs.Makes.{makes-accepts, makes-frame}
use Rattle.demand_joined.specs.Seeing.{seen_of}
use Rattle.demand_joined.specs.Frames.{Frame, inside, count_of, frame-marked}

-- one refusal from place p up to place q: a number that is not 0, and no line, no edition and no job
pub record Refused (p q : ℕ) (v : Seen) : Type 0 where
  pub refuses : v.number ≡ 0 → ⊥
  pub goes_on : v.ended ≡ false
  pub first-is : v.first ≡ p
  pub closing-is : v.closing ≡ q
  pub no-edition : v.edition ≡ 0
  pub no-job : v.job ≡ 0
  pub no_line : v.line ≡ []

-- no write call with this key, font and layout makes these bytes between its marks, in an edition that is allowed and with a nonce and a job of bytes
abbrev pub Unmade : Told → ℕ → List ℕ → Type 0
Unmade t ed f = (b : Label) (L : List ℕ) (k : ℕ) → Made t.key t.font t.layout ed b L k f → ⊥

-- what is seen of the filler f from place p up to place q
pub data FillerSeen (t : Told) (ed : ℕ) (f : List ℕ) (p q : ℕ) : Seen → Type 0 where
  a-refusal : {v : Seen} → Unmade t ed f → Refused p q v → FillerSeen t ed f p q v
  its-line : (b : Label) (L : List ℕ) (k : ℕ) → Made t.key t.font t.layout ed b L k f → FillerSeen t ed f p q (given p q b L k)

module _ (t : Told) (z : Sizes t) (ed : ℕ) (f : List ℕ) (bytes : Below 256 f) (p q : ℕ) where
  -- what is judged to be no line is made by no write call
  unmade : (j : Judged) → judge t ed f ≡ j → (number_in j ≡ 0 → ⊥) → Unmade t ed f
  unmade j e n b L k m =
      let w = (written-made t.key t.font t.layout ed b L k f m).0 in
      n (ap number_in (sym e ∙ made-given t ed f m.own L w))

  refusal : (j : Judged) → judge t ed f ≡ j → (number_in j ≡ 0 → ⊥) → label_in j ≡ no_label → line_in j ≡ [] → FillerSeen t ed f p q (seen_of (reading (span p q) j))
  refusal j e n b l = a-refusal (unmade j e n) (record {
    refuses = n;
    goes_on = refl;
    first-is = refl;
    closing-is = refl;
    no-edition = ap (λ (x : Label). x.edition) b;
    no-job = ap (λ (x : Label). x.job) b;
    no_line = l;
  })

  by-judged : (j : Judged) → judge t ed f ≡ j → FillerSeen t ed f p q (seen_of (reading (span p q) j))
  by-judged shape e = refusal shape e (λ n. omega (arith, n)) refl refl
  by-judged stuffing e = refusal stuffing e (λ n. omega (arith, n)) refl refl
  by-judged font e = refusal font e (λ n. omega (arith, n)) refl refl
  by-judged work e = refusal work e (λ n. omega (arith, n)) refl refl
  by-judged (seal k) e = refusal (seal k) e (λ n. omega (arith, n)) refl refl
  by-judged (unlisted k) e = refusal (unlisted k) e (λ n. omega (arith, n)) refl refl
  by-judged (trade k) e = refusal (trade k) e (λ n. omega (arith, n)) refl refl
  by-judged (layout k) e = refusal (layout k) e (λ n. omega (arith, n)) refl refl
  by-judged (line own L k) e =
      let w = given_made t z ed f bytes own L k e in
      let same : line own L (length L + beside_line own.edition) ≡ line own L k = sym (made-given t ed f own L w) ∙ e in
      let n : length L + beside_line own.edition ≡ k = cc same in
      its-line (label_of own) L k
      (subst (λ (i : ℕ). Made t.key t.font t.layout ed (label_of own) L i f) n (made-written t.key t.font t.layout ed own L f w))

  pub filler-seen : FillerSeen t ed f p q (seen_of (reading (span p q) (judge t ed f)))
  filler-seen = by-judged (judge t ed f) refl

-- exactly: the line of whichever write call makes it
pub filler-exactly : {t : Told} {ed : ℕ} {f : List ℕ} {p q : ℕ} {v : Seen} (b : Label) (L : List ℕ) (k : ℕ)
    → Made t.key t.font t.layout ed b L k f → FillerSeen t ed f p q v → v ≡ given p q b L k
filler-exactly b L k m (a-refusal n r) = absurd (n b L k m)
filler-exactly {t} {ed} {f} {p} {q} b L k m (its-line b' L' k' m') =
    let w = written-made t.key t.font t.layout ed b L k f m in
    let w' = written-made t.key t.font t.layout ed b' L' k' f m' in
    let same : line m'.own L' k' ≡ line m.own L k =
    ap (line m'.own L') w'.1 ∙ sym (made-given t ed f m'.own L' w'.0) ∙ made-given t ed f m.own L w.0 ∙ ap (line m.own L) (sym w.1) in
    let label_is : b' ≡ b = sym m'.labelled ∙ ap label_in same ∙ m.labelled in
    let line-is : L' ≡ L = ap line_in same in
    let calls_is : k' ≡ k = ap calls_in same in
    rw (label_is, line-is, calls_is) refl

-- the stated exception: what stands between a frame's marks is made by its write call
pub inside-made : {t : Told} {ed : ℕ} (f : Frame t ed) → Below 256 f.own.nonce → Below 256 f.own.job
    → Made t.key t.font t.layout ed (label_of f.own) f.line (count_of f) (inside f)
inside-made {t} {ed} f n j = made-written t.key t.font t.layout ed f.own f.line (inside f) (record {
  accepts = makes-accepts f.makes;
  allowed = f.allowed;
  nonce-bytes = n;
  job-bytes = j;
  makes = sym (makes-frame f.makes) ∙ frame-marked f;
})

-- fewer bytes than the shortest body has are made by no write call
pub short-unmade : (t : Told) (ed : ℕ) (f : List ℕ) → length f < shortest_body One → Unmade t ed f
short-unmade t ed f h b L k m =
    let w = (written-made t.key t.font t.layout ed b L k f m).0 in
    let s = sealed_body t m.own L in
    let e : length (stuffed s) ≡ length f = ap length (between t f m.own L w.makes) in
    omega (arith, e, h, stuffed-at-least s, sealed-body-lengths w.accepts.sealable)
