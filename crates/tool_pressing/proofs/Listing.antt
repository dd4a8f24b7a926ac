-- `press-listing`: with key and font digest of their sizes and room for every row, from the start and any window, for every cutting of fewer than 2^64 bytes
-- into pieces: what is written of a run of calls, and then the last row, is the listing of the whole (tool_listing/specs/Listing.antt). From the promise of
-- `press_row` alone. Assumes nothing.
use Rattle.std.specs.Prelude.{◌≡◌, Bool, true, false, cond, ℕ, suc, ◌+◌, ◌≤◌, ◌<◌, eqb, length, take, drop}
use Rattle.std.proofs.Math.Path.{refl, sym, ap}
use Rattle.std.proofs.Common.{◌∙◌, arith, length-append, length-take-le}
use mathlib.Core.List.{List, [], ◌∷◌, ◌++◌, map, map-append, append_assoc, append-nil}
use Rattle.std.proofs.lemmas.List.{length-map}
use Rattle.frame_stuff_spec.specs.Stuffing.{longest_stretch}
use Rattle.line_layout.specs.declared.Layout.TheVariants.{Neither}
use Rattle.frame_spec.specs.Told.{told}
use Rattle.read_spec.specs.Editions.{one_alone}
use Rattle.read_spec.specs.Sizes.{Sizes}
use Rattle.read_readings.specs.Readings.{Reading, ends}
use Rattle.tool_row.specs.Rows.{row_room, last_row_text}
use Rattle.tool_listing.specs.Listing.{reading_row, row_number, zeros_in, others_in, joined, listing_of, all_asked, listing}
use Rattle.live_spec.specs.Taking.{taken_in}
use Rattle.live_spec.specs.Steps.{most_bytes}
use Rattle.live_spec.specs.After.{After}
use Rattle.live_spec.proofs.After.{after_none, read_all}
use Rattle.live_spec.proofs.Pieces.{its, new_of, Took, took_in}
use Rattle.live_reading.specs.Promises.{whole}
use Rattle.live_reading.proofs.Whole.{cut, fewer, still-few}
use Rattle.tool_press.specs.declared.Press.{Press}
use Rattle.tool_press.specs.declared.Turn.{Turn}
use Rattle.tool_press.specs.Pressing.{start_press}
use Rattle.tool_pressing.specs.Turns.{Presses, written, Turned}
use Rattle.tool_pressing.proofs.Turns.{turned}
use Rattle.tool_pressing.specs.Listing.{Run, over-all, rest, turn}

-- counting, row behind row
zeros-both : (x y : List ℕ) → zeros_in (x ++ y) ≡ zeros_in x + zeros_in y
unfolding zeros_in
zeros-both [] y = omega arith
zeros-both (n ∷ x) y = go (zeros_in (x ++ y)) (zeros_in x) (zeros_in y) (eqb n 0) (zeros-both x y)
  where
    go : (a b c : ℕ) (t : Bool) → a ≡ b + c → cond t (suc a) a ≡ cond t (suc b) b + c
    go a b c true e = omega (arith, e)
    go a b c false e = e

others-both : (x y : List ℕ) → others_in (x ++ y) ≡ others_in x + others_in y
unfolding others_in
others-both [] y = omega arith
others-both (n ∷ x) y = go (others_in (x ++ y)) (others_in x) (others_in y) (eqb n 0) (others-both x y)
  where
    go : (a b c : ℕ) (t : Bool) → a ≡ b + c → cond t a (suc a) ≡ cond t b (suc b) + c
    go a b c true e = e
    go a b c false e = omega (arith, e)

-- there are as many rows as readings
all-counted : (l : List ℕ) → zeros_in l + others_in l ≡ length l
unfolding zeros_in others_in
all-counted [] = omega arith
all-counted (n ∷ l) = go (zeros_in l) (others_in l) (length l) (eqb n 0) (all-counted l)
  where
    go : (a b c : ℕ) (t : Bool) → a + b ≡ c → cond t (suc a) a + cond t b (suc b) ≡ suc c
    go a b c true e = omega (arith, e)
    go a b c false e = omega (arith, e)

joined-both : (x y : List (List ℕ)) → joined (x ++ y) ≡ joined x ++ joined y
unfolding joined
joined-both [] y = refl
joined-both (r ∷ x) y = ap (λ (l : List ℕ). r ++ l) (joined-both x y) ∙ sym (append_assoc r (joined x) (joined y))

-- after the bytes s this is how far the listing is, and g was read of them: at most one reading for a byte
record Sofar (key digest : List ℕ) (s : List ℕ) (c : Press) (w : List ℕ) (g : List Reading) : Type 0 where
  after : After (its (told key digest Neither) (all_asked one_alone Neither)) s c.numbers w g
  lines_are : c.lines ≡ zeros_in (map row_number g)
  refused-are : c.refused ≡ others_in (map row_number g)
  few : length g ≤ length s

module _ (key digest : List ℕ) (z : Sizes (told key digest Neither)) where
  abbrev new : Press → List ℕ → List ℕ → List Reading
  new c w p = new_of (told key digest Neither) (all_asked one_alone Neither) (taken_in c.numbers w p)

  -- at most one
  one-new : (c : Press) (w p : List ℕ) → length (new c w p) ≤ 1
  one-new c w p = go (ends (taken_in c.numbers w p).place) _
    where
      go : (b : Bool) (r : Reading) → length (cond b [] (r ∷ [])) ≤ 1
      go true r = omega arith
      go false r = omega arith

  module _ {s : List ℕ} {c : Press} {w : List ℕ} {g : List Reading} (f : Sofar key digest s c w g) where
    counts : c.lines + c.refused ≤ length s
    counts = omega (arith, f.lines_are, f.refused-are, f.few, all-counted (map row_number g), length-map g row_number)

    module _ (p o : List ℕ) (r : Turn) (w' o' : List ℕ) (some : 0 < length p) (h : length s + length p ≤ most_bytes) (room : row_room ≤ length o)
        (x : Presses key digest c w p o r w' o') where
      done : Turned c (taken_in c.numbers w p) (new c w p) r w' o'
      done = turned key digest z f.after (omega (arith, counts, some, h)) (omega (arith, counts, some, h)) p o r w' o' h room x

      taken : Took (told key digest Neither) (all_asked one_alone Neither) s g p (taken_in c.numbers w p)
      taken = took_in (told key digest Neither) (all_asked one_alone Neither) p f.after

      numbers-are : r.press.numbers ≡ (taken_in c.numbers w p).behind
      numbers-are = ap (λ (y : Press). y.numbers) done.press-is

      sofar-more : Sofar key digest (s ++ take r.took p) r.press w' (g ++ new c w p)
      sofar-more = record {
        after = rw (numbers-are, done.took-is, done.window-is) taken.after;
        lines_are =
            ap (λ (y : Press). y.lines) done.press-is
            ∙ rw (f.lines_are, map-append row_number g (new c w p)) (sym (zeros-both (map row_number g) (map row_number (new c w p))));
        refused-are =
            ap (λ (y : Press). y.refused) done.press-is
            ∙ rw (f.refused-are, map-append row_number g (new c w p)) (sym (others-both (map row_number g) (map row_number (new c w p))));
        few = rw done.took-is
            (omega (
              arith,
              f.few,
              one-new c w p,
              taken.some some,
              length-append g (new c w p),
              length-append s (take (taken_in c.numbers w p).took p),
              length-take-le (taken_in c.numbers w p).took p taken.within,
            ));
      }

      rows_more : joined (map reading_row (g ++ new c w p)) ≡ joined (map reading_row g) ++ written r o'
      rows_more =
          ap joined (map-append reading_row g (new c w p))
          ∙ joined-both (map reading_row g) (map reading_row (new c w p))
          ∙ ap (λ (y : List ℕ). joined (map reading_row g) ++ y) (sym done.rows_are)

  listed : {ps : List (List ℕ)} {s : List ℕ} {c d : Press} {w : List ℕ} {g : List Reading} {out : List ℕ} → Sofar key digest s c w g
      → Run key digest c w ps out d
      → length s + length (whole ps) ≤ most_bytes
      → joined (map reading_row g) ++ out ++ last_row_text d.lines d.refused ≡ listing (told key digest Neither) one_alone (s ++ whole ps)
  unfolding listing_of
  listed {s = s} {c = c} {g = g} f over-all h =
      rw (append-nil s, append-nil (joined (map reading_row g)), read_all f.after, f.lines_are, f.refused-are) refl
  listed f (rest q) h = listed f q h
  listed {s = s} {d = d} {g = g} f (turn {ps = ps} {out = out} p o r w' o' some room x q) h =
      let few = fewer s p (whole ps) h in
      let more = listed (sofar-more f p o r w' o' some few room x) q (still-few s p (whole ps) r.took h) in
      let e : joined (map reading_row g) ++ (written r o' ++ out) ≡ joined (map reading_row (g ++ _)) ++ out =
      sym (append_assoc (joined (map reading_row g)) (written r o') out) ∙ ap (λ (y : List ℕ). y ++ out) (sym (rows_more f p o r w' o' some few room x)) in
      ap (λ (y : List ℕ). y ++ last_row_text d.lines d.refused) e ∙ more ∙ ap (listing (told key digest Neither) one_alone) (cut s p (whole ps) r.took)

  pub press-listing : {w : List ℕ} → length w ≡ longest_stretch → (ps : List (List ℕ)) → length (whole ps) ≤ most_bytes
      → {out : List ℕ} {d : Press} → Run key digest start_press w ps out d
      → out ++ last_row_text d.lines d.refused ≡ listing (told key digest Neither) one_alone (whole ps)
  unfolding joined zeros_in others_in
  press-listing {w} h ps few run =
      listed
      (record {
        after = after_none (its (told key digest Neither) (all_asked one_alone Neither)) w h;
        lines_are = refl;
        refused-are = refl;
        few = omega arith;
      })
      run (omega (arith, few))
