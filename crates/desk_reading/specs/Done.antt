-- `desk-done` and `desk-fault` (order W14): the call is done exactly if key and font digest have their sizes, stream, table and count are as they must
-- be, every item chooses a line and the new stream fits; and 23 and 24 name the first item at fault. From the promise of `desk` alone. Assumes nothing.
use Rattle.std.specs.Prelude.{◌≡◌, Bool, not, cond, ◌⊎◌, ℕ, ◌+◌, ◌≤◌, ◌<◌, ltb, length, Ok, Err, Result}
use Rattle.std.proofs.Math.Path.{refl}
use Rattle.std.proofs.Common.{sym, ap, ◌∙◌, inl, inr, arith}
use Rattle.std.proofs.Math.Bool.{true, false}
use mathlib.Core.List.{List, [], ◌∷◌}
use Rattle.std.proofs.Math.Dec.{eqb}
use borrow.Author.Tests.{ltb-true, ltb-false, lt-ltb, le-ltb, eqb-true, eqb-false, eq-eqb, ne_eqb}
use Rattle.line_layout.specs.declared.Layout.{Layout}
use Rattle.frame_spec.specs.Told.{Told, told}
use Rattle.read_call.specs.Answers.{longest_stream, sized_told}
use Rattle.index_spec.specs.Entries.{most_entries}
use Rattle.index_spec.specs.Cases.{Takes, sized-told, told-sized}
use Rattle.desk_spec.specs.declared.DeskRefusal.{DeskRefusal}
use Rattle.desk_spec.specs.declared.DeskRefusal.TheVariants as answer-is
use Rattle.desk_spec.specs.Desk.{place_of, closing_of, new_stream, fault_from, fitting, desk_answer, desk_number}
use Rattle.desk_spec.specs.Chosen.{LineAt, closing-line, line-closing}
use Rattle.desk_reading.specs.Promises.{Desks, Done, ItemLine, AllLines}

-- the call is done
pub record DoneWhen (t : Told) (editions : ℕ) (s table : List ℕ) (count : ℕ) (list : List ℕ) (room : ℕ) : Type 0 where
  pub takes : Takes t s table count
  pub lines : AllLines t editions s table count list
  pub short : length (new_stream t editions s table list) ≤ longest_stream
  pub fits : length (new_stream t editions s table list) ≤ room

-- the first item at fault of a list counted from k on: all before it choose lines, and it is past the index, or no line starts at its place
pub data Fault (t : Told) (editions : ℕ) (s table : List ℕ) (count : ℕ) : ℕ → List ℕ → Result ℕ DeskRefusal → Type 0 where
  past : {k i : ℕ} {list : List ℕ} → count ≤ i → Fault t editions s table count k (i ∷ list) (Err (answer-is.Past k))
  no_line : {k i : ℕ} {list : List ℕ} → i < count → ((closing : ℕ) → LineAt t editions s (place_of table i) closing → ⊥)
      → Fault t editions s table count k (i ∷ list) (Err (answer-is.NoLine k))
  later : {k i : ℕ} {list : List ℕ} {r : Result ℕ DeskRefusal} → ItemLine t editions s table count i → Fault t editions s table count (k + 1) list r
      → Fault t editions s table count k (i ∷ list) r

-- 23 or 24
abbrev pub AtFault : Result ℕ DeskRefusal → Type 0
AtFault r = (desk_number r ≡ 23) ⊎ (desk_number r ≡ 24)

module _ (t : Told) (editions : ℕ) (s table : List ℕ) (count : ℕ) (w : Takes t s table count) where
  -- where the stretch of a line closes
  pub line-closes : (i : ℕ) → ItemLine t editions s table count i → closing_of t editions s (place_of table i) ≡ 0 → ⊥
  line-closes i x e =
      omega (arith, e, line-closing t editions w.sizes s w.short (place_of table i) x.closing x.there, x.there.stretch-is.some)

  pub closes-line : (i : ℕ) → i < count → (closing_of t editions s (place_of table i) ≡ 0 → ⊥) → ItemLine t editions s table count i
  closes-line i b n = record {
    below = b;
    closing = closing_of t editions s (place_of table i);
    there = closing-line t editions w.sizes s w.short (place_of table i) n;
  }

  -- lines all of them: what comes after decides
  pub faultless : (k : ℕ) (list : List ℕ) (after : Result ℕ DeskRefusal) → AllLines t editions s table count list → fault_from t editions s table count k list after ≡ after
  unfolding fault_from
  faultless k [] after a = refl
  faultless k (i ∷ list) after a =
      rw (lt-ltb i count a.0.below, ne_eqb (closing_of t editions s (place_of table i)) 0 (line-closes i a.0)) (faultless (k + 1) list after a.1)

  -- a fault decides
  pub fault-decides : {k : ℕ} {list : List ℕ} {r : Result ℕ DeskRefusal} → Fault t editions s table count k list r → (after : Result ℕ DeskRefusal)
      → fault_from t editions s table count k list after ≡ r
  unfolding fault_from
  fault-decides (past {i = i} h) after = rw (le-ltb i count h)
  fault-decides (no_line {i = i} b n) after =
      rw (lt-ltb i count b, eq-eqb (closing_of t editions s (place_of table i)) 0 (none i (eqb (closing_of t editions s (place_of table i)) 0) refl n))
    where
      none : (i : ℕ) (a : Bool) → eqb (closing_of t editions s (place_of table i)) 0 ≡ a → ((closing : ℕ) → LineAt t editions s (place_of table i) closing → ⊥)
          → closing_of t editions s (place_of table i) ≡ 0
      none i true p n = eqb-true (closing_of t editions s (place_of table i)) 0 p
      none i false p n =
          absurd (n (closing_of t editions s (place_of table i))
          (closing-line t editions w.sizes s w.short (place_of table i) (eqb-false (closing_of t editions s (place_of table i)) 0 p)))
  fault-decides (later {k = k} {i = i} x f) after =
      rw (lt-ltb i count x.below, ne_eqb (closing_of t editions s (place_of table i)) 0 (line-closes i x)) (fault-decides f after)

  -- either each item chooses a line, or one is the first at fault
  abbrev Either : ℕ → List ℕ → Type 0
  Either k list = AllLines t editions s table count list ⊎ ((r : Result ℕ DeskRefusal) × Fault t editions s table count k list r × AtFault r)

  one_more : (k i : ℕ) (list : List ℕ) → ItemLine t editions s table count i → Either (k + 1) list → Either k (i ∷ list)
  one_more k i list x (inl a) = inl (x, a)
  one_more k i list x (inr (r, f, n)) = inr (r, later x f, n)

  step : (k i : ℕ) (list : List ℕ) (a : Bool) → ltb i count ≡ a → (b : Bool) → eqb (closing_of t editions s (place_of table i)) 0 ≡ b
      → Either (k + 1) list → Either k (i ∷ list)
  step k i list false p b q v = inr (Err (answer-is.Past k), past (ltb-false i count p), inl refl)
  step k i list true p true q v =
      let e = eqb-true (closing_of t editions s (place_of table i)) 0 q in
      inr (Err (answer-is.NoLine k), no_line (ltb-true i count p) (λ c x. line-closes i (record { below = ltb-true i count p; closing = c; there = x }) e), inr refl)
  step k i list true p false q v =
      one_more k i list (closes-line i (ltb-true i count p) (eqb-false (closing_of t editions s (place_of table i)) 0 q)) v

  pub either : (k : ℕ) (list : List ℕ) → Either k list
  either k [] = inl tt
  either k (i ∷ list) =
      step k i list (ltb i count) refl (eqb (closing_of t editions s (place_of table i)) 0) refl (either (k + 1) list)

-- the answer where the call is taken
pub taken-answer : (t : Told) (editions : ℕ) (s table : List ℕ) (count : ℕ) (list : List ℕ) (room : ℕ) → Takes t s table count
    → desk_answer t editions s table count list room
    ≡ fault_from t editions s table count 1 list (fitting (length (new_stream t editions s table list)) room)
unfolding desk_answer
taken-answer t editions s table count list room w =
    rw (
      told-sized t w.sizes,
      le-ltb longest_stream (length s) w.short,
      le-ltb (length table) most_entries w.room,
      le-ltb most_entries count w.few,
    )

-- the call is taken, or its number is 2, 3, 4 or 19
pub data Taken (t : Told) (s table : List ℕ) (count : ℕ) (r : Result ℕ DeskRefusal) : Type 0 where
  taken : Takes t s table count → Taken t s table count r
  refused : (desk_number r ≡ 0 → ⊥) → (AtFault r → ⊥) → Taken t s table count r

no-fault : (n : ℕ) → (n ≡ 23 → ⊥) → (n ≡ 24 → ⊥) → (n ≡ 23) ⊎ (n ≡ 24) → ⊥
no-fault n a b (inl e) = a e
no-fault n a b (inr e) = b e

pub desk-taken : (t : Told) (editions : ℕ) (s table : List ℕ) (count : ℕ) (list : List ℕ) (room : ℕ)
    → Taken t s table count (desk_answer t editions s table count list room)
unfolding desk_answer
desk-taken t editions s table count list room =
    go (sized_told t) refl (ltb longest_stream (length s)) refl (ltb (length table) most_entries) refl (ltb most_entries count) refl
  where
    go : (a : Bool) → sized_told t ≡ a → (b : Bool) → ltb longest_stream (length s) ≡ b → (c : Bool) → ltb (length table) most_entries ≡ c
        → (d : Bool) → ltb most_entries count ≡ d
        → Taken t s table count
        (cond (not a) (Err answer-is.Sizes)
        (cond b (Err answer-is.TooLong)
        (cond c (Err answer-is.NoTable)
        (cond d (Err answer-is.Count)
        (fault_from t editions s table count 1 list (fitting (length (new_stream t editions s table list)) room))))))
    go false p b q c u d v = refused (λ e. omega (arith, e)) (no-fault 2 (λ e. omega (arith, e)) (λ e. omega (arith, e)))
    go true p true q c u d v = refused (λ e. omega (arith, e)) (no-fault 3 (λ e. omega (arith, e)) (λ e. omega (arith, e)))
    go true p false q true u d v = refused (λ e. omega (arith, e)) (no-fault 4 (λ e. omega (arith, e)) (λ e. omega (arith, e)))
    go true p false q false u true v = refused (λ e. omega (arith, e)) (no-fault 19 (λ e. omega (arith, e)) (λ e. omega (arith, e)))
    go true p false q false u false v = taken (record {
      sizes = sized-told t p;
      short = ltb-false longest_stream (length s) q;
      room = ltb-false (length table) most_entries u;
      few = ltb-false most_entries count v;
    })

-- 3, 4 or done
fits-when : (n room : ℕ) → desk_number (fitting n room) ≡ 0 → (n ≤ longest_stream) × (n ≤ room)
fits-when n room = go (ltb longest_stream n) refl (ltb room n) refl
  where
    go : (a : Bool) → ltb longest_stream n ≡ a → (b : Bool) → ltb room n ≡ b
        → desk_number (cond a (Err answer-is.NewTooLong) (cond b (Err answer-is.NoRoom) (Ok n))) ≡ 0 → (n ≤ longest_stream) × (n ≤ room)
    go true p b q e = absurd (omega (arith, e))
    go false p true q e = absurd (omega (arith, e))
    go false p false q e = (ltb-false longest_stream n p, ltb-false room n q)

fit-number : (n room : ℕ) → AtFault (fitting n room) → ⊥
fit-number n room = go (ltb longest_stream n) (ltb room n)
  where
    go : (a b : Bool) → AtFault (cond a (Err answer-is.NewTooLong) (cond b (Err answer-is.NoRoom) (Ok n))) → ⊥
    go true b = no-fault 3 (λ e. omega (arith, e)) (λ e. omega (arith, e))
    go false true = no-fault 4 (λ e. omega (arith, e)) (λ e. omega (arith, e))
    go false false = no-fault 0 (λ e. omega (arith, e)) (λ e. omega (arith, e))

not-both : (r : Result ℕ DeskRefusal) → AtFault r → desk_number r ≡ 0 → ⊥
not-both r (inl e) z = omega (arith, e, z)
not-both r (inr e) z = omega (arith, e, z)

module _ (key font : List ℕ) (editions : ℕ) (lay : Layout) (s table : List ℕ) (count : ℕ) (list o : List ℕ) (r : Result ℕ DeskRefusal) (out : List ℕ)
    (p : Desks key font editions lay s table count list o r out) where
  abbrev t : Told
  t = told key font lay

  abbrev new : List ℕ
  new = new_stream t editions s table list

  -- the answer of a call that is taken
  answered : Takes t s table count → r ≡ fault_from t editions s table count 1 list (fitting (length new) (length o))
  answered w = p.0 ∙ taken-answer t editions s table count list (length o) w

  to-done : Done r → Taken t s table count (desk_answer t editions s table count list (length o)) → DoneWhen t editions s table count list (length o)
  to-done d (refused n f) = absurd (n (ap desk_number (sym p.0) ∙ d))
  to-done d (taken w) = go (either t editions s table count w 1 list)
    where
      go : AllLines t editions s table count list ⊎ ((x : Result ℕ DeskRefusal) × Fault t editions s table count 1 list x × AtFault x)
          → DoneWhen t editions s table count list (length o)
      go (inl a) =
          let e : r ≡ fitting (length new) (length o) = answered w ∙ faultless t editions s table count w 1 list (fitting (length new) (length o)) a in
          let f = fits-when (length new) (length o) (ap desk_number (sym e) ∙ d) in
          record { takes = w; lines = a; short = f.0; fits = f.1 }
      go (inr (x, f, n)) =
          absurd (not-both x n (ap desk_number (sym (answered w ∙ fault-decides t editions s table count w f (fitting (length new) (length o)))) ∙ d))

  from-done : DoneWhen t editions s table count list (length o) → r ≡ Ok (length new)
  from-done x =
      answered x.takes ∙ faultless t editions s table count x.takes 1 list (fitting (length new) (length o)) x.lines
      ∙ rw (le-ltb longest_stream (length new) x.short, le-ltb (length o) (length new) x.fits)

  -- done exactly then, and the new stream's length is answered
  pub desk-done : (Done r → DoneWhen t editions s table count list (length o)) × (DoneWhen t editions s table count list (length o) → r
      ≡ Ok (length new))
  desk-done = (λ d. to-done d (desk-taken t editions s table count list (length o)), from-done)

  to-fault : AtFault r → Taken t s table count (desk_answer t editions s table count list (length o)) → Takes t s table count
      × Fault t editions s table count 1 list r
  to-fault d (refused n f) = absurd (f (moved d))
    where
      moved : AtFault r → AtFault (desk_answer t editions s table count list (length o))
      moved (inl e) = inl (ap desk_number (sym p.0) ∙ e)
      moved (inr e) = inr (ap desk_number (sym p.0) ∙ e)
  to-fault d (taken w) = go (either t editions s table count w 1 list)
    where
      go : AllLines t editions s table count list ⊎ ((x : Result ℕ DeskRefusal) × Fault t editions s table count 1 list x × AtFault x)
          → Takes t s table count × Fault t editions s table count 1 list r
      go (inl a) =
          let e : r ≡ fitting (length new) (length o) = answered w ∙ faultless t editions s table count w 1 list (fitting (length new) (length o)) a in
          absurd (fit-number (length new) (length o) (rw (← e) d))
      go (inr (x, f, n)) =
          let e : r ≡ x = answered w ∙ fault-decides t editions s table count w f (fitting (length new) (length o)) in
          (w, rw e f)

  -- 23 and 24 exactly where an item is the first at fault
  pub desk-fault : (AtFault r → Takes t s table count × Fault t editions s table count 1 list r)
      × ((x : Result ℕ DeskRefusal) → Takes t s table count → Fault t editions s table count 1 list x → r ≡ x)
  desk-fault = (
    λ d. to-fault d (desk-taken t editions s table count list (length o)),
    λ x w f. answered w ∙ fault-decides t editions s table count w f (fitting (length new) (length o)),
  )
