-- Judging the items of a list one after the other: what is left of the list decides, and what the items come to is what the desk answers of them.
-- Assumes nothing.
use Rattle.std.specs.Prelude.{Ok, Err, Result}
use mathlib.Core.Path.{◌≡◌, refl, sym, ap, ap₂, subst, ◌∙◌}
use mathlib.Core.Bool.{Bool, true, false, not, cond}
use mathlib.Core.List.{List, [], ◌∷◌, ◌++◌, append_assoc}
use Prim.Native.Nat.{ℕ, ◌+◌, ◌-◌, ◌≤◌, ◌<◌}
use native.Mathlib.Omega.{arith}
use lib.Dec.{eqb, ltb}
use lib.ListN.{length, get_or, drop, length-append, length-take, length-drop, drop_of_length-le}
use borrow.Author.Tests.{ltb-true, lt-ltb, le-ltb, eqb-false, eq-eqb, ne_eqb}
use Rattle.base_lists.specs.Walk.{at}
use Rattle.frame_stuff_spec.specs.Stuffing.{mark}
use Rattle.read_stretch.specs.declared.Span.{Span}
use Rattle.read_stretch.specs.Stretches.{span, bytes_at}
use Rattle.read_stretch.specs.Meaning.{Stretch}
use Rattle.read_stretch.proofs.Places.{stretch-next}
use Rattle.frame_spec.specs.Told.{Told}
use Rattle.read_call.specs.Answers.{longest_stream}
use Rattle.index_spec.specs.Cases.{Takes}
use Rattle.desk_spec.specs.declared.DeskRefusal.{DeskRefusal}
use Rattle.desk_spec.specs.declared.DeskRefusal.TheVariants as answer-is
use Rattle.desk_spec.specs.Desk.{place_of, closing_of, chosen, new_stream, fault_from}
use Rattle.desk_spec.specs.Chosen.{LineAt, closing-line}
use Rattle.desk_call.specs.declared.ItemFault.{ItemFault}
use Rattle.desk_call.specs.declared.ItemFault.TheVariants.{Past, NoLine}
use Rattle.desk_call.specs.Steps.{lengthened, items_from, closing_at, frame_at, frames_at, Starts, Measured}

-- so many items are judged, and none of them is at fault
pub record Going (t : Told) (editions : ℕ) (s table : List ℕ) (count : ℕ) (list : List ℕ) (total j : ℕ) : Type 0 where
  pub left : items_from t editions s table count 1 0 list ≡ items_from t editions s table count (j + 1) total (drop j list)

module _ {t : Told} {editions : ℕ} {s table : List ℕ} {count : ℕ} {list : List ℕ} where
  pub going-none : Going t editions s table count list 0 0
  going-none = record { left = refl }

  module _ {total j : ℕ} (g : Going t editions s table count list total j) where
    -- none is left
    pub going-all : length list ≤ j → Ok total ≡ items_from t editions s table count 1 0 list
    unfolding items_from
    going-all h = sym (g.left ∙ ap (items_from t editions s table count (j + 1) total) (drop_of_length-le list {i = j} h))

    module _ (h : j < length list) (i : ℕ) (i-is : i ≡ get_or list j 0) where
      now-left : items_from t editions s table count 1 0 list ≡ items_from t editions s table count (j + 1) total (i ∷ drop (j + 1) list)
      now-left =
          g.left ∙ ap (items_from t editions s table count (j + 1) total) (at list j h ∙ ap (λ (x : ℕ). x ∷ drop (j + 1) list) (sym i-is))

      pub going-past : count ≤ i → Err (Past (j + 1)) ≡ items_from t editions s table count 1 0 list
      unfolding items_from
      going-past c = sym (now-left ∙ rw (le-ltb i count c))

      module _ (b : i < count) (p : ℕ) (p-is : p ≡ place_of table i) (c : ℕ) (c-is : c ≡ closing_of t editions s p) where
        closes : c ≡ closing_of t editions s (place_of table i)
        closes = c-is ∙ ap (closing_of t editions s) p-is

        pub going-no-line : c ≡ 0 → Err (NoLine (j + 1)) ≡ items_from t editions s table count 1 0 list
        unfolding items_from
        going-no-line e = sym (now-left ∙ rw (lt-ltb i count b, eq-eqb (closing_of t editions s (place_of table i)) 0 (sym closes ∙ e)))

        pub going_more : (c ≡ 0 → ⊥) → (r : ℕ) → r ≡ lengthened total (c - p) → Going t editions s table count list r (j + 1)
        unfolding items_from
        going_more n r r-is =
            let is : r ≡ lengthened total (closing_of t editions s (place_of table i) - place_of table i) =
            r-is ∙ ap₂ (λ (x y : ℕ). lengthened total (x - y)) closes p-is in
            record {
              left = now-left ∙ rw (lt-ltb i count b, ne_eqb (closing_of t editions s (place_of table i)) 0 (λ e. n (closes ∙ e)), is);
            }

-- a length measured with a frame of f bytes between its marks
measured-more : (total f l n : ℕ) → Measured n (lengthened total f + l) → Measured n (total + (f + 2 + l))
unfolding lengthened
measured-more total f l n = go (ltb longest_stream total) refl
  where
    go : (a : Bool) → ltb longest_stream total ≡ a → Measured n (cond a total (total + f + 2) + l) → Measured n (total + (f + 2 + l))
    go true p m =
        let over = ltb-true longest_stream total p in
        record { exact = λ h. absurd (omega (arith, h, over)); beyond = λ h. m.beyond (omega (arith, over)) }
    go false p m = let e : total + f + 2 + l ≡ total + (f + 2 + l) = omega arith in subst (Measured n) e m

module _ (t : Told) (editions : ℕ) (s table : List ℕ) (count : ℕ) (w : Takes t s table count) where
  -- the places of an item that chooses a line
  pub item-line : (p : ℕ) → (closing_of t editions s p ≡ 0 → ⊥) → LineAt t editions s p (closing_of t editions s p)
  item-line p n = closing-line t editions w.sizes s w.short p n

  -- and its stretch
  pub item-closes : (p c : ℕ) → c ≡ closing_of t editions s p → (c ≡ 0 → ⊥) → Stretch s p c
  item-closes p c e n = subst (Stretch s p) (sym e) (item-line p (λ z. n (e ∙ z))).stretch-is

  -- every item of a list chooses a line: nothing is at fault, and what is copied is the new stream
  pub record Whole (list : List ℕ) (total n : ℕ) : Type 0 where
    pub starts : Starts s table list
    pub same : new_stream t editions s table list ≡ frames_at s table list
    pub measured : Measured n (total + length (frames_at s table list))
    pub faultless : (k : ℕ) (after : Result ℕ DeskRefusal) → fault_from t editions s table count k list after ≡ after

  -- what is said of a list whose items, counted from k on, come to this
  abbrev pub Says : ℕ → ℕ → List ℕ → Result ℕ ItemFault → Type 0
  Says k total list (Ok n) = Whole list total n
  Says k total list (Err (Past j)) = (after : Result ℕ DeskRefusal) → fault_from t editions s table count k list after ≡ Err (answer-is.Past j)
  Says k total list (Err (NoLine j)) = (after : Result ℕ DeskRefusal) → fault_from t editions s table count k list after ≡ Err (answer-is.NoLine j)

  module _ (i : ℕ) (list : List ℕ) (total : ℕ) (b : i < count) (n : closing_of t editions s (place_of table i) ≡ 0 → ⊥) where
    abbrev p : ℕ
    p = place_of table i

    abbrev c : ℕ
    c = closing_of t editions s (place_of table i)

    stretch : Stretch s p c
    stretch = (item-line p n).stretch-is

    closing-is : closing_at s p ≡ c
    closing-is = ap (λ (x : Span). x.closing) (stretch-next s p c stretch)

    bytes-long : length (bytes_at s (span p (closing_at s p))) ≡ c - p
    bytes-long = rw closing-is (simp (length-take, length-drop) (omega (arith, stretch.some, stretch.ends)))

    frame-long : length (frame_at s p ++ frames_at s table list) ≡ c - p + 2 + length (frames_at s table list)
    unfolding frame_at
    frame-long =
        length-append (frame_at s p) (frames_at s table list)
        ∙ omega (arith, length-append (bytes_at s (span p (closing_at s p))) (mark ∷ []), bytes-long)

    same-stream : new_stream t editions s table list ≡ frames_at s table list → new_stream t editions s table (i ∷ list) ≡ frames_at s table (i ∷ list)
    unfolding new_stream frames_at chosen frame_at
    same-stream e =
        rw (closing-is, e) (ap (λ (x : List ℕ). mark ∷ x) (sym (append_assoc (bytes_at s (span p c)) (mark ∷ []) (frames_at s table list))))

    whole-more : (m : ℕ) → Whole list (lengthened total (c - p)) m → Whole (i ∷ list) total m
    unfolding frames_at fault_from
    whole-more m v = record {
      starts = (
        record {
          inside = omega (arith, b, w.few, w.room);
          stretch = subst (Stretch s p) (sym closing-is) stretch;
        },
        v.starts,
      );
      same = same-stream v.same;
      measured = rw frame-long (measured-more total (c - p) (length (frames_at s table list)) m v.measured);
      faultless = λ k after. rw (lt-ltb i count b, ne_eqb c 0 n) (v.faultless (k + 1) after);
    }

    more : (k : ℕ) (r : Result ℕ ItemFault) → Says (k + 1) (lengthened total (c - p)) list r → Says k total (i ∷ list) r
    unfolding fault_from
    more k (Ok m) v = whole-more m v
    more k (Err (Past j)) f = λ after. rw (lt-ltb i count b, ne_eqb c 0 n) (f after)
    more k (Err (NoLine j)) f = λ after. rw (lt-ltb i count b, ne_eqb c 0 n) (f after)

  step : (k total i : ℕ) (list : List ℕ) (a : Bool) → ltb i count ≡ a → (b : Bool) → eqb (closing_of t editions s (place_of table i)) 0 ≡ b
      → Says (k + 1) (lengthened total (closing_of t editions s (place_of table i) - place_of table i)) list
      (items_from t editions s table count (k + 1) (lengthened total (closing_of t editions s (place_of table i) - place_of table i)) list)
      → Says k total (i ∷ list)
      (cond (not a) (Err (Past k))
      (cond b (Err (NoLine k))
      (items_from t editions s table count (k + 1) (lengthened total (closing_of t editions s (place_of table i) - place_of table i)) list)))
  unfolding fault_from
  step k total i list false x b y v = λ after. rw x
  step k total i list true x true y v = λ after. rw (x, y)
  step k total i list true x false y v =
      more i list total (ltb-true i count x) (eqb-false (closing_of t editions s (place_of table i)) 0 y) k
      (items_from t editions s table count (k + 1) (lengthened total (closing_of t editions s (place_of table i) - place_of table i)) list) v

  judged : (k total : ℕ) (list : List ℕ) → Says k total list (items_from t editions s table count k total list)
  unfolding items_from new_stream frames_at fault_from
  judged k total [] = record {
    starts = tt;
    same = refl;
    measured = record { exact = λ h. omega arith; beyond = λ h. omega (arith, h) };
    faultless = λ k after. refl;
  }
  judged k total (i ∷ list) =
      step k total i list (ltb i count) refl (eqb (closing_of t editions s (place_of table i)) 0) refl
      (judged (k + 1) (lengthened total (closing_of t editions s (place_of table i) - place_of table i)) list)

  -- of the whole list
  pub says : (list : List ℕ) (r : Result ℕ ItemFault) → r ≡ items_from t editions s table count 1 0 list → Says 1 0 list r
  says list r e = subst (Says 1 0 list) (sym e) (judged 1 0 list)
