-- `desk-from-stream` (order W14): whatever the table is, each line of the new stream is seen by the run over the stream given, at the place that the
-- entry names, and the bytes between its marks are those of the given stream at that place, its nonce among them: the frame itself is copied, never
-- sealed anew. From the promises of `desk` and `read` alone. Assumes nothing.
use Rattle.std.specs.Prelude.{◌≡◌, refl, ℕ, ◌+◌, ◌-◌, ◌≤◌, Result}
use Rattle.std.proofs.Common.{sym, ◌∙◌, arith, take_at}
use Rattle.std.proofs.Math.Path.{ap, subst}
use mathlib.Core.List.{List, [], ◌∷◌, ◌++◌, map, append_assoc, map-append}
use Rattle.std.proofs.Math.ListN.{length, length-append}
use Rattle.std.proofs.Math.Seq.{drop-append-add}
use Rattle.base_lists.specs.Below.{Below}
use Rattle.line_layout.specs.declared.Layout.{Layout}
use Rattle.frame_stuff_spec.specs.Stuffing.{mark}
use Rattle.read_stretch.specs.Stretches.{span, bytes_at}
use Rattle.frame_spec.specs.Told.{Told, told}
use Rattle.read_spec.specs.Judged.{Judged}
use Rattle.read_spec.specs.Ceiling.{all_work}
use Rattle.read_readings.specs.Readings.{reading, readings}
use Rattle.read_readings.proofs.Joining.{every-stretch}
use Rattle.read_nonce.specs.Nonces.{nonce_of}
use Rattle.read_call.specs.Answers.{judged_within}
use Rattle.demand_reading.specs.Promises.{Seen}
use Rattle.demand_reading.specs.Whole.{WholeRun}
use Rattle.demand_joined.specs.Seeing.{seen_of, the_end, seen_to, run-readings}
use Rattle.index_spec.specs.Cases.{Takes}
use Rattle.index_reading.specs.Promises.{asking}
use Rattle.desk_spec.specs.declared.DeskRefusal.{DeskRefusal}
use Rattle.desk_spec.specs.Desk.{place_of, closing_of, chosen, new_stream}
use Rattle.desk_reading.specs.Promises.{Desks, Done, written, ItemLine, AllLines, given_seen, moved_to, behind}
use Rattle.desk_reading.proofs.ReadsLaws.{item-line, chosen-long, chosen-judged, chosen-line, when, written_is}
use Rattle.desk_reading.specs.FromStream.{FromStream}

-- so its nonce is the same too
pub same-nonce : {seen : List Seen} {s new : List ℕ} {place at : ℕ} {v : Seen} → FromStream seen s new place at v
    → nonce_of (bytes_at new (span (moved_to at v).first (moved_to at v).closing)) ≡ nonce_of (bytes_at s (span v.first v.closing))
same-nonce x = ap nonce_of x.same_bytes

-- bytes b between marks behind some others
between : (pre b rest : List ℕ) (at n : ℕ) → at ≡ length pre → n ≡ length b
    → bytes_at (pre ++ (mark ∷ (b ++ (mark ∷ rest)))) (span (at + 1) (at + 1 + n)) ≡ b
between pre b rest at n e f =
    let m : at + 1 + n - (at + 1) ≡ n = omega arith in
    rw (m, e, drop-append-add pre (mark ∷ (b ++ (mark ∷ rest))) 1) (take_at b (mark ∷ rest) n (sym f))

-- those others with the frame of b
with-frame : (pre b rest : List ℕ) → (pre ++ (mark ∷ (b ++ (mark ∷ [])))) ++ rest ≡ pre ++ (mark ∷ (b ++ (mark ∷ rest)))
with-frame pre b rest =
    append_assoc pre (mark ∷ (b ++ (mark ∷ []))) rest ∙ ap (λ (l : List ℕ). pre ++ (mark ∷ l)) (append_assoc b (mark ∷ []) rest)

module _ (key font : List ℕ) (editions a : ℕ) (lay : Layout) (s table : List ℕ) (count : ℕ) (bytes : Below 256 s) (all : all_work ≤ a) where
  abbrev t : Told
  t = told key font lay

  -- each item's line, the first opening at a place of the new stream
  abbrev pub AllFrom : List Seen → List ℕ → ℕ → List ℕ → Type 0
  AllFrom seen new at [] = Unit {0}
  AllFrom seen new at (i ∷ list) =
      FromStream seen s new (place_of table i) at (given_seen t editions s table i) × AllFrom seen new (behind at (given_seen t editions s table i)) list

  module _ (w : Takes t s table count) (u : WholeRun key font (asking editions a lay) s) where
    from_one : (i : ℕ) (x : ItemLine t editions s table count i) (pre rest : List ℕ) (at : ℕ) → at ≡ length pre
        → FromStream u.seen s (pre ++ (mark ∷ (chosen t editions s table i ++ (mark ∷ rest)))) (place_of table i) at (given_seen t editions s table i)
    unfolding chosen
    from_one i x pre rest at e =
        let p = place_of table i in
        let c = closing_of t editions s p in
        let judge = judged_within t (asking editions a lay) in
        let y = (item-line key font editions a lay s table count bytes all w i x).stretch-is in
        let (b, f, k) = every-stretch judge s p c y in
        let v = given_seen t editions s table i in
        let end = the_end (length s) ∷ [] in
        let this : seen_of (reading (span p c) (judge (bytes_at s (span p c)))) ≡ v =
        ap (λ (j : Judged). seen_of (reading (span p c) j)) (chosen-judged key font editions a lay s table count bytes all w i x) in
        record {
          before = map seen_of b;
          after = map seen_of (readings judge s c) ++ end;
          among = run-readings key font (asking editions a lay) s w.sizes w.short 0 (omega arith) u.run u.ended
              ∙ ap (seen_to (length s)) f
              ∙ ap (λ (l : List Seen). l ++ end) (map-append seen_of b (reading (span p c) (judge (bytes_at s (span p c))) ∷ readings judge s c))
              ∙ append_assoc (map seen_of b) (seen_of (reading (span p c) (judge (bytes_at s (span p c)))) ∷ map seen_of (readings judge s c)) end
              ∙ ap (λ (z : Seen). map seen_of b ++ (z ∷ (map seen_of (readings judge s c) ++ end))) this;
          place_is = refl;
          a-line = chosen-line key font editions a lay s table count bytes all w i x;
          same_bytes = between pre (bytes_at s (span p c)) rest at (c - p) e (sym (chosen-long key font editions a lay s table count bytes all w i x));
        }

    from_all : (list : List ℕ) → AllLines t editions s table count list → (pre : List ℕ) (at : ℕ) → at ≡ length pre
        → AllFrom u.seen (pre ++ new_stream t editions s table list) at list
    unfolding new_stream
    from_all [] x pre at e = tt
    from_all (i ∷ list) x pre at e =
        let b = chosen t editions s table i in
        let rest = new_stream t editions s table list in
        let long : length b ≡ closing_of t editions s (place_of table i) - place_of table i = chosen-long key font editions a lay s table count bytes all w i
        x.0 in
        let next : behind at (given_seen t editions s table i) ≡ length (pre ++ (mark ∷ (b ++ (mark ∷ [])))) =
        omega (arith, e, long, length-append pre (mark ∷ (b ++ (mark ∷ []))), length-append b (mark ∷ [])) in (
          from_one i x.0 pre rest at e,
          subst (λ (l : List ℕ). AllFrom u.seen l (behind at (given_seen t editions s table i)) list) (with-frame pre b rest)
              (from_all list x.1 (pre ++ (mark ∷ (b ++ (mark ∷ [])))) (behind at (given_seen t editions s table i)) next),
        )

  pub desk-from-stream : (list o : List ℕ) (r : Result ℕ DeskRefusal) (out : List ℕ) → Desks key font editions lay s table count list o r out → Done r
      → (u : WholeRun key font (asking editions a lay) s) → AllFrom u.seen (written r out) 0 list
  desk-from-stream list o r out p d u =
      let k = when key font editions a lay s table count bytes all list o r out p d in
      subst (λ (l : List ℕ). AllFrom u.seen l 0 list) (sym (written_is key font editions a lay s table count bytes all list o r out p d))
      (from_all k.takes u list k.lines [] 0 refl)
