-- The buyer's demand 3, second half, for a press that reads from the start of the stream to its end, from the promises alone: every line
-- that a write call made, and whose edition and calls of the permutation are allowed, is given by one of its calls. Assumes nothing.
use Rattle.std.specs.Prelude.{◌≡◌, refl, true, ℕ, ◌+◌, ◌-◌, ◌≤◌, length, take, Result}
use Rattle.std.proofs.Math.Path.{ap}
use Rattle.std.proofs.Common.{ap₂, ◌∙◌, arith}
use mathlib.Core.List.{List, [], ◌∷◌, ◌++◌}
use Rattle.std.proofs.Math.Numerals.{unary_clauses}
use Rattle.std.proofs.Math.ListN.{length-append}
use Rattle.std.proofs.Math.Seq.{get_or-append_seam}
use Rattle.base_lists.specs.Buffers.{over}
use Rattle.base_lists.specs.Over.{take-over}
use Rattle.frame_stuff_spec.specs.Stuffing.{mark, stuffed}
use Rattle.line_spec.specs.Lines.{longest}
use Rattle.read_stretch.specs.Stretches.{span, bytes_at}
use Rattle.read_stretch.specs.Meaning.{Stretch}
use Rattle.frame_write.specs.Answers.{frame_made}
use Rattle.frame_write.specs.declared.Written.{Written}
use Rattle.frame_write.specs.declared.FrameRefusal.{FrameRefusal}
use Rattle.line_layout.specs.declared.Layout.{Layout}
use Rattle.frame_spec.specs.Told.{told}
use Rattle.frame_spec.specs.Frames.{sealed_body, framed, frame_of}
use Rattle.read_call.specs.declared.Asked.{Asked}
use Rattle.read_call.specs.declared.Reading.{Reading}
use Rattle.frame_body.specs.Fields.{Own}
use Rattle.read_spec.specs.Editions.{allows}
use Rattle.read_spec.specs.Judged.{Label, label_of}
use Rattle.read_spec.specs.Sizes.{Sizes}
use Rattle.read_readings.specs.Resync.{Mark}
use Rattle.read_call.specs.Answers.{longest_stream}
use Rattle.demand_reading.specs.Promises.{Reads, Writes, Seen, seen_from, Run, none, next}
use Rattle.demand_reading.specs.GivenWritten.{gives, Made}
use Rattle.demand_reading.proofs.GivenWritten.{wrote, frame-read, written-made, written-is-given}
use Rattle.demand_reading.specs.Reaching.{Ended}
use Rattle.demand_reading.proofs.Reaching.{run-reaches}
use Rattle.demand_reading.specs.EveryLine.{given, SeenGiven}

module _ (key font : List ℕ) (asked : Asked) (s : List ℕ) (p q : ℕ) (b : Label) (L : List ℕ) (k : ℕ) where
  -- every call from place i gives the line
  abbrev Gives : ℕ → Type 0
  Gives i =
      (l : List ℕ) (r : Reading) (l' : List ℕ) → longest ≤ length l → Reads key font asked s i l r l'
      → (r ≡ gives p q b (length L) k) × (l' ≡ over L l)

  seen-given : (l : List ℕ) → seen_from 0 (gives p q b (length L) k) (over L l) ≡ given p q b L k
  seen-given l = rw (take-over L l (length L) refl) (simp unary_clauses refl)

  at_mark : {i : ℕ} {after : List Seen} → Gives i → Run key font asked s 0 i after → Ended after
      → (rest : List Seen) × (after ≡ given p q b L k ∷ rest)
  at_mark gives none end = elim end [ ]
  at_mark gives (next r l l' {rest} g c run) end =
      let y = gives l r l' g c in
      (rest, ap (λ (v : Seen). v ∷ rest) (ap₂ (seen_from 0) y.0 y.1 ∙ seen-given l))

  from_start : (i : ℕ) → Sizes (told key font asked.layout) → length s ≤ longest_stream → Mark s i → Gives i
      → {seen : List Seen} → Run key font asked s 0 0 seen → Ended seen → SeenGiven p q b L k seen
  from_start i z h m gives run end =
      let u = run-reaches key font asked s z h i m 0 (omega arith) run end in
      let (rest, e) = at_mark gives u.run u.ended in
      (u.before, rest, u.parts ∙ ap (λ (l : List Seen). u.before ++ l) e)

-- every stretch that a write call makes is given as its line, where its calls are allowed
pub every-line-given : (key font : List ℕ) (asked : Asked) (b : Label) (L : List ℕ) (k : ℕ) → k ≤ asked.allowed
    → (s : List ℕ) (p q : ℕ) → length s ≤ longest_stream → Stretch s p q
    → Made key font asked.layout asked.editions b L k (bytes_at s (span p q)) → {seen : List Seen} → Run key font asked s 0 0 seen → Ended seen
    → SeenGiven p q b L k seen
every-line-given key font asked b L k enough s p q h x made run end =
    let y = (written-made key font asked.layout asked.editions b L k (bytes_at s (span p q)) made).0.accepts.sealable in
    from_start key font asked s p q b L k (p - 1) (record { key-is = y.key-is; font-is = y.font-is }) h
    (record { inside = omega (arith, x.some, x.ends); stands = x.opens })
    (λ l r l' g c. written-is-given key font asked b L k enough s p q h x made l r l' g c) run end

-- and every frame that a write call makes, standing anywhere in a stream within the limit
module _ (key : List ℕ) (own : Own) (font : List ℕ) (lay : Layout) (L f : List ℕ) (w : Result Written FrameRefusal) (f' : List ℕ) (p : Writes key own font lay L f w f') (n k : ℕ)
    (e : w ≡ frame_made n k) where
  opens : (a c : List ℕ) → Mark (a ++ (take n f' ++ c)) (length a)
  unfolding frame_of framed
  opens a c =
      let b = stuffed (sealed_body (told key font lay) own L) ++ (mark ∷ []) in
      let is : a ++ (take n f' ++ c) ≡ a ++ (mark ∷ (b ++ c)) = ap (λ (x : List ℕ). a ++ (x ++ c)) (wrote key own font lay L f w f' p n k e).frame in
      rw is (record { inside = omega (arith, length-append a (mark ∷ (b ++ c))); stands = get_or-append_seam a mark (b ++ c) 0 })

  pub every-frame-given : (asked : Asked) → asked.layout ≡ lay → allows asked.editions own.edition ≡ true → k ≤ asked.allowed → (a c : List ℕ)
      → length (a ++ (take n f' ++ c)) ≤ longest_stream
      → {seen : List Seen} → Run key font asked (a ++ (take n f' ++ c)) 0 0 seen → Ended seen
      → SeenGiven (length a + 1) (length a + n - 1) (label_of own) L k seen
  every-frame-given asked same may enough a c h run end =
      let y = (wrote key own font lay L f w f' p n k e).accepts.sealable in
      from_start key font asked (a ++ (take n f' ++ c)) (length a + 1) (length a + n - 1) (label_of own) L k (length a)
      (record { key-is = y.key-is; font-is = y.font-is }) h (opens a c)
      (λ l r l' g q. frame-read key own font lay L f w f' p n k e asked same may enough a c l r l' h g q) run end
