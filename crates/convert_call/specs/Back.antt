-- There and back (order W6), over what any calls that meet the converter's promise answer and leave: the bytes between the marks that a first call
-- left in its buffer, converted back under a nonce, and a job where there was one, that the first frame was made with, are that frame byte for byte;
-- and a converted frame is read as the same line. Assumes nothing.
use Rattle.std.specs.Prelude.{◌≡◌, refl, Bool, true, false, not, cond, List, ℕ, ◌+◌, ◌≤◌, ltb, length, take, Ok, Err, Result}
use Rattle.std.proofs.Math.Path.{sym, ap}
use Rattle.std.proofs.Common.{◌∙◌, arith, ltb-false}
use Rattle.base_lists.specs.Below.{Below}
use Rattle.base_lists.specs.Buffers.{over}
use Rattle.base_lists.specs.Over.{take-over}
use Rattle.frame_stuff_spec.specs.Stuffing.{stuffed}
use Rattle.frame_stuff_spec.specs.RoundTrip.{unstuff-stuff}
use Rattle.frame_stuff_spec.proofs.GoodStuffing.{stuff-well}
use Rattle.frame_stuff_spec.proofs.Outcomes.{length-good}
use Rattle.frame_body.specs.declared.Edition.{Edition}
use Rattle.frame_body.specs.declared.Edition.TheVariants.{One, Two}
use Rattle.frame_body.specs.Fields.{Own, fields, fields_of}
use Rattle.frame_body.proofs.OneToOne.{fields-body}
use Rattle.frame_spec.specs.Told.{Told}
use Rattle.frame_spec.specs.Frames.{sealed_line, sealed_body, frame_of}
use Rattle.frame_spec.specs.Lengths.{beside_line, frame_room, stretch-within, sealed-sized}
use Rattle.frame_spec.specs.OneToOne.{between, between-framed, frame-fields}
use Rattle.frame_write.specs.Answers.{sizes_right}
use Rattle.frame_write.specs.Outcomes.{Accepts, sizes-right}
use Rattle.read_spec.specs.Sizes.{Sizes}
use Rattle.read_spec.specs.Editions.{only, allows-only, only-allows}
use Rattle.read_spec.specs.Judged.{Judged, shape, stuffing, font, work, seal, unlisted, trade, layout, line}
use Rattle.read_spec.specs.Judging.{judge, held}
use Rattle.demand_reading.specs.Written.{marked, Written}
use Rattle.demand_reading.proofs.Written.{written-given, given_made}
use Rattle.convert_spec.specs.declared.ConvertFault.{ConvertFault}
use Rattle.convert_spec.specs.declared.ConvertFault.TheVariants as converted-is
use Rattle.convert_spec.specs.Answers.{other, same_edition, other_than, Sorted, misnamed, judged, sorted, ConvertCall, refused, by_sort, sealed_anew, convert_call}
use Rattle.convert_spec.proofs.Sorting.{sorted-judged, sorted-line, convert-sorted}
use Rattle.convert_call.specs.Accepting.{found-accepts}

-- a call of the converter with the buffer f before it may answer r and leave f' in it
abbrev pub Converts : Told → Own → List ℕ → List ℕ → Result ℕ ConvertFault → List ℕ → Type 0
Converts t own s f r f' = (r ≡ (convert_call t own s f).answer) × (f' ≡ (convert_call t own s f).frame)

-- what a call that is done found
pub record Took (t : Told) (own : Own) (s f : List ℕ) : Type 0 where
  pub right : sizes_right t own ≡ true
  pub room : frame_room own.edition ≤ length f
  pub with : Own
  pub the-line : List ℕ
  pub calls : ℕ
  pub read : judge t (only (other own.edition)) s ≡ line with the-line calls
  pub sorted-is : sorted t (other own.edition) s ≡ judged (line with the-line calls)

took : (t : Told) (own : Own) (s f : List ℕ) (n : ℕ) → (convert_call t own s f).answer ≡ Ok n → Took t own s f
unfolding convert_call
took t own s f n = by-sizes (sizes_right t own) refl (ltb (length f) (frame_room own.edition)) refl
  where
    named : Edition
    named = other own.edition

    by-sort : sizes_right t own ≡ true → frame_room own.edition ≤ length f → (x : Sorted) → sorted t named s ≡ x
        → (by_sort t own x f).answer ≡ Ok n → Took t own s f
    by-sort r h misnamed i e = absurd (let z : ◌≡◌ {A = ℕ} 0 1 = cc e in omega arith)
    by-sort r h (judged j) i e = by-judged j i e
      where
        by-judged : (j : Judged) → sorted t named s ≡ judged j → (sealed_anew t own j f).answer ≡ Ok n → Took t own s f
        by-judged shape i e = absurd (let z : ◌≡◌ {A = ℕ} 0 1 = cc e in omega arith)
        by-judged stuffing i e = absurd (let z : ◌≡◌ {A = ℕ} 0 1 = cc e in omega arith)
        by-judged font i e = absurd (let z : ◌≡◌ {A = ℕ} 0 1 = cc e in omega arith)
        by-judged work i e = absurd (let z : ◌≡◌ {A = ℕ} 0 1 = cc e in omega arith)
        by-judged (seal m) i e = absurd (let z : ◌≡◌ {A = ℕ} 0 1 = cc e in omega arith)
        by-judged (unlisted m) i e = absurd (let z : ◌≡◌ {A = ℕ} 0 1 = cc e in omega arith)
        by-judged (trade m) i e = absurd (let z : ◌≡◌ {A = ℕ} 0 1 = cc e in omega arith)
        by-judged (layout m) i e = absurd (let z : ◌≡◌ {A = ℕ} 0 1 = cc e in omega arith)
        by-judged (line k L m) i e = record { right = r; room = h; with = k; the-line = L; calls = m; read = sorted-line t named s k L m i; sorted-is = i }

    by-sizes : (x : Bool) → sizes_right t own ≡ x → (y : Bool) → ltb (length f) (frame_room own.edition) ≡ y
        → (cond (not x) (refused (Err converted-is.Sizes) f) (cond y (refused (Err converted-is.NoRoom) f) (by_sort t own (sorted t named s) f))).answer ≡ Ok n
        → Took t own s f
    by-sizes true r false h e = by-sort r (ltb-false (length f) (frame_room own.edition) h) (sorted t named s) refl e
    by-sizes true r true h e = absurd (let z : ◌≡◌ {A = ℕ} 0 1 = cc e in omega arith)
    by-sizes false r y h e = absurd (let z : ◌≡◌ {A = ℕ} 0 1 = cc e in omega arith)

-- the stretch between the marks of a frame is of its edition
frame-held : (t : Told) (own : Own) (L : List ℕ) → Accepts t own L → held (stuffed (sealed_body t own L))
    ≡ fields own t.font (sealed_line t own L).text (sealed_line t own L).seal
unfolding held sealed_body
frame-held t own L a =
    rw (length-good (stuffed (sealed_body t own L)) (stretch-within a.sealable) (stuff-well (sealed_body t own L)))
    (ap fields_of (unstuff-stuff (sealed_body t own L)) ∙ fields-body (sealed-sized a.sealable))

same_self : (e : Edition) → same_edition e e ≡ true
same_self One = refl
same_self Two = refl

other-other : (e : Edition) → other (other e) ≡ e
other-other One = refl
other-other Two = refl

-- the line of the frame that the writer makes is found by the converter that is told its edition
frame-sorted : (t : Told) (own : Own) (L : List ℕ) → Accepts t own L
    → sorted t own.edition (stuffed (sealed_body t own L)) ≡ judged (line own L (length L + beside_line own.edition))
frame-sorted t own L a =
    sorted-judged t own.edition (stuffed (sealed_body t own L))
    (ap (other_than own.edition) (frame-held t own L a) ∙ rw (same_self own.edition))
    ∙ ap judged (written-given t (only own.edition) own L a (allows-only own.edition).0)

-- a call, made with a key and a font of their sizes and a stretch of bytes, that was done
module _ (t : Told) (z : Sizes t) (own : Own) (s : List ℕ) (bytes : Below 256 s) (f : List ℕ) (r : Result ℕ ConvertFault) (f' : List ℕ) (c : Converts t own s f r f')
    (n : ℕ) (e : r ≡ Ok n) where
  took-is : Took t own s f
  took-is = took t own s f n (sym c.0 ∙ e)

  -- the line that it found
  pub L : List ℕ
  L = took-is.the-line

  pub accepts : Accepts t own L
  unfolding L
  accepts = found-accepts t z (only (other own.edition)) s bytes own took-is.right took-is.with took-is.the-line took-is.calls took-is.read

  its-call : convert_call t own s f ≡ record { answer = Ok (length (frame_of t own L)); frame = over (frame_of t own L) f }
  unfolding L
  its-call = convert-sorted t own s f took-is.right took-is.room ∙ ap (λ (x : Sorted). by_sort t own x f) took-is.sorted-is

  long : n ≡ length (frame_of t own L)
  long =
      let same : Ok n ≡ Ok (length (frame_of t own L)) = sym e ∙ c.0 ∙ ap (λ (x : ConvertCall). x.answer) its-call in
      cc same

  -- it left that line's frame in the buffer
  pub wrote : take n f' ≡ frame_of t own L
  wrote = ap (take n) (c.1 ∙ ap (λ (x : ConvertCall). x.frame) its-call) ∙ take-over (frame_of t own L) f n (sym long)

  between_is : between (take n f') ≡ stuffed (sealed_body t own L)
  unfolding frame_of
  between_is = ap between wrote ∙ between-framed (sealed_body t own L)

  -- a reader of the new edition gives the same line for what stands between its marks
  pub read-as-before : judge t (only own.edition) (between (take n f')) ≡ line own L (length L + beside_line own.edition)
  read-as-before = ap (judge t (only own.edition)) between_is ∙ written-given t (only own.edition) own L accepts (allows-only own.edition).0

  -- the first frame was made by some nonce and, in edition two, some job: the writer accepts them with that line
  pub first_made : (first : Own) × (first.edition ≡ other own.edition) × Written t (only (other own.edition)) s first L
  unfolding L
  first_made =
      let w = given_made t z (only (other own.edition)) s bytes took-is.with took-is.the-line took-is.calls took-is.read in
      (took-is.with, sym (only-allows (other own.edition) took-is.with.edition w.allowed), w)

  -- and back: for whatever line, nonce and job the first frame was made with
  pub convert-back : (first : Own) (M : List ℕ) → Accepts t first M → frame_of t first M ≡ marked s
      → (g : List ℕ) (r₂ : Result ℕ ConvertFault) (g' : List ℕ) → frame_room first.edition ≤ length g
      → Converts t first (between (take n f')) g r₂ g'
      → (r₂ ≡ Ok (length (marked s))) × (g' ≡ over (marked s) g)
  convert-back first M a m g r₂ g' h d =
      let (first₀, there₀, w) = first_made in
      let same-fields = frame-fields a.sealable w.accepts.sealable (m ∙ sym w.makes) in
      let same : first ≡ first₀ = cc same-fields in
      let there : first.edition ≡ other own.edition = ap (λ (x : Own). x.edition) same ∙ there₀ in
      let back : other first.edition ≡ own.edition = ap other there ∙ other-other own.edition in
      let there-again : frame_of t first L ≡ marked s = ap (λ (x : Own). frame_of t x L) same ∙ w.makes in
      let call : convert_call t first (between (take n f')) g ≡ record { answer = Ok (length (marked s)); frame = over (marked s) g } =
      ap (λ (x : List ℕ). convert_call t first x g) between_is
      ∙ convert-sorted t first (stuffed (sealed_body t own L)) g (sizes-right a.sealable) h
      ∙ rw back (ap (λ (x : Sorted). by_sort t first x g) (frame-sorted t own L accepts))
      ∙ ap (λ (x : List ℕ). record { answer = Ok (length x); frame = over x g }) there-again in
      (d.0 ∙ ap (λ (x : ConvertCall). x.answer) call, d.1 ∙ ap (λ (x : ConvertCall). x.frame) call)
