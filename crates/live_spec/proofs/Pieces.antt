-- A piece taken in, up to and with the first mark that closes a stretch: numbers and window are then those after its bytes, and what was read of them is
-- the stretch that was closed, or nothing. Assumes nothing.
use Rattle.std.specs.Prelude.{◌≡◌, Bool, true, false, cond, ℕ, suc, ◌+◌, ◌-◌, ◌≤◌, ◌<◌, eqb, ltb, take, drop, set}
use Rattle.std.proofs.Math.Path.{refl, ap}
use Rattle.std.proofs.Common.{sym, ap₂, subst, ◌∙◌, arith, length-drop, length-set}
use mathlib.Core.List.{List, [], ◌∷◌, ◌++◌, append_assoc, append-nil}
use Rattle.std.proofs.Math.ListN.{length}
use borrow.Author.Tests.{eq-eqb, ne_eqb, eqb-true, eqb-false, ltb-true, ltb-false}
use Rattle.frame_stuff_spec.specs.Stuffing.{mark, longest_stretch}
use Rattle.frame_spec.specs.Told.{Told}
use Rattle.read_stretch.specs.Stretches.{span}
use Rattle.read_spec.specs.Judged.{Judged, shape}
use Rattle.read_spec.proofs.Cases.{judge-too-long}
use Rattle.read_spec.proofs.Allowance.{no-ceiling}
use Rattle.read_readings.specs.Readings.{Reading, reading, ends}
use Rattle.read_call.specs.declared.Asked.{Asked}
use Rattle.read_call.specs.Answers.{judged_within}
use Rattle.live_spec.specs.declared.Numbers.{Numbers}
use Rattle.live_spec.specs.Taking.{unfinished, closes, behind_mark, kept, Taken, more, taken_in}
use Rattle.live_spec.specs.Steps.{judged_in}
use Rattle.live_spec.specs.After.{After}
use Rattle.live_spec.proofs.After.{after-byte, after-mark, after-closed, the-marked, some_bytes}

-- keeping a byte keeps the window's length
pub length-kept : (n : Numbers) (w : List ℕ) (b : ℕ) → length (kept n w b) ≡ length w
unfolding kept
length-kept n w b = go (eqb n.marked 0) (ltb (unfinished n) longest_stretch)
  where
    go : (x y : Bool) → length (cond x w (cond y (set w (unfinished n) b) w)) ≡ length w
    go true y = refl
    go false true = length-set w (unfinished n) b
    go false false = refl

module _ (t : Told) (asked : Asked) where
  -- a stretch's bytes judged
  abbrev pub its : List ℕ → Judged
  its = judged_within t asked

  -- what is read with what was taken in
  abbrev pub new_of : Taken → List Reading
  new_of k = cond (ends k.place) [] (reading k.place (judged_in t asked k.window k.place) ∷ [])

  -- k is taken in of the piece p, after the bytes s of which g was read
  pub record Took (s : List ℕ) (g : List Reading) (p : List ℕ) (k : Taken) : Type 0 where
    pub after : After its (s ++ take k.took p) k.behind k.window (g ++ new_of k)
    pub some : 0 < length p → 0 < k.took
    pub within : k.took ≤ length p

  -- over-long is 7, and of any other stretch the window holds every byte
  held-judged : {s : List ℕ} {n : Numbers} {w : List ℕ} {g : List Reading} (a : After its s n w g) (b : ℕ) (m : b ≡ mark) (c : closes n ≡ true)
      → judged_in t asked w (span n.first n.received) ≡ its (drop n.first s)
  unfolding judged_in judged_within
  held-judged {s} {n} {w} {g} a b m c = go (ltb longest_stretch (n.received - n.first)) refl
    where
      k-is : n.received - n.first ≡ length s - n.first
      k-is = ap (λ (i : ℕ). i - n.first) a.received_is

      go : (x : Bool) → ltb longest_stretch (n.received - n.first) ≡ x
          → cond x shape (judged_within t asked (take (n.received - n.first) w)) ≡ judged_within t asked (drop n.first s)
      go true x =
          let long : longest_stretch < length (drop n.first s) =
          omega (arith, ltb-true longest_stretch (n.received - n.first) x, k-is, length-drop n.first s) in
          sym (no-ceiling asked.allowed shape (judge-too-long t asked.editions (drop n.first s) long) refl)
      go false x =
          ap (judged_within t asked)
          (ap (λ (i : ℕ). take i w) k-is ∙ (the-marked a b m c).held (omega (arith, ltb-false longest_stretch (n.received - n.first) x, k-is)))

  one_more : {s : List ℕ} {g : List Reading} (b : ℕ) (p : List ℕ) {k : Taken} → Took (s ++ (b ∷ [])) g p k → Took s g (b ∷ p) (more 1 k)
  one_more {s} {g} b p {k} x =
      let e : 1 + k.took ≡ suc k.took = omega arith in
      record {
        after = rw e (subst (λ (l : List ℕ). After its l k.behind k.window (g ++ new_of k)) (append_assoc s (b ∷ []) (take k.took p)) x.after);
        some = λ h. omega arith;
        within = omega (arith, x.within);
      }

  -- the rest of the piece, after any bytes
  abbrev Rest : List ℕ → Type 0
  Rest p = (s : List ℕ) (n : Numbers) (w : List ℕ) (g : List Reading) → After its s n w g → Took s g p (taken_in n w p)

  module _ (b : ℕ) (p s : List ℕ) (n : Numbers) (w : List ℕ) (g : List Reading) (a : After its s n w g) where
    took-byte : Rest p → eqb b mark ≡ false → Took s g (b ∷ p) (taken_in n w (b ∷ p))
    unfolding taken_in
    took-byte on x = rw x (one_more b p (on _ _ _ _ (after-byte a b (eqb-false b mark x) (length-kept n w b))))

    module _ (x : eqb b mark ≡ true) where
      took-mark : Rest p → closes n ≡ false → Took s g (b ∷ p) (taken_in n w (b ∷ p))
      unfolding taken_in
      took-mark on c = rw (x, c) (one_more b p (on _ _ _ _ (after-mark a b (eqb-true b mark x) c)))

      module _ (c : closes n ≡ true) where
        some_first : n.first < n.received
        some_first = omega (arith, some_bytes a b (eqb-true b mark x) c, a.received_is)

        -- the stretch that is closed
        its-reading : reading (span n.first (length s)) (its (drop n.first s))
            ≡ reading (span n.first n.received) (judged_in t asked w (span n.first n.received))
        its-reading =
            ap₂ (λ (i : ℕ) (j : Judged). reading (span n.first i) j) (sym a.received_is) (sym (held-judged a b (eqb-true b mark x) c))

        took-closed : Took s g (b ∷ p) (taken_in n w (b ∷ p))
        unfolding taken_in
        took-closed = rw (x, c) (record {
          after = rw (ne_eqb n.first n.received (λ z. omega (arith, z, some_first)))
              (subst (λ (r : Reading). After its (s ++ (b ∷ [])) (behind_mark n) w (g ++ (r ∷ []))) its-reading (after-closed a b (eqb-true b mark x) c));
          some = λ h. omega arith;
          within = omega arith;
        })

  took_one : (b : ℕ) (p : List ℕ) → Rest p → Rest (b ∷ p)
  took_one b p on s n w g a = go (eqb b mark) refl (closes n) refl
    where
      go : (x : Bool) → eqb b mark ≡ x → (y : Bool) → closes n ≡ y → Took s g (b ∷ p) (taken_in n w (b ∷ p))
      go false x y c = took-byte b p s n w g a on x
      go true x false c = took-mark b p s n w g a x on c
      go true x true c = took-closed b p s n w g a x c

  took-all : (p : List ℕ) → Rest p
  unfolding taken_in
  took-all [] s n w g a = record {
    after = rw (append-nil s, eq-eqb n.received n.received refl, append-nil g) a;
    some = λ h. omega (arith, h);
    within = omega arith;
  }
  took-all (b ∷ p) s n w g a = took_one b p (took-all p) s n w g a

  pub took_in : (p : List ℕ) {s : List ℕ} {n : Numbers} {w : List ℕ} {g : List Reading} → After its s n w g → Took s g p (taken_in n w p)
  took_in p {s} {n} {w} {g} a = took-all p s n w g a
