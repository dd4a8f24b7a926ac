-- `c-desk-done` and `c-desk-fault` (order W14): `desk-done` and `desk-fault` over the exported call, by its numbers: it is done exactly if key and font digest
-- have their sizes, stream, table and count are as they must be, every item chooses a line and the new stream fits; and 23 and 24 come with the first item at
-- fault. Assumes nothing.
use Rattle.std.specs.Prelude.{◌≡◌, refl, List, ℕ, length, Ok, Err, Result}
use Rattle.std.proofs.Common.{sym, ap, subst, ◌∙◌, inl, inr, arith}
use Rattle.line_layout.specs.Layouts.{layout_of}
use Rattle.frame_spec.specs.Told.{Told, told}
use Rattle.index_spec.specs.Cases.{Takes}
use Rattle.desk_spec.specs.declared.DeskRefusal.{DeskRefusal}
use Rattle.desk_spec.specs.declared.DeskRefusal.TheVariants as answer-is
use Rattle.desk_spec.specs.Desk.{new_stream, desk_call, desk_number, item_of}
use Rattle.desk_reading.specs.Done.{DoneWhen, Fault, desk-done, desk-fault}
use Rattle.lubdhvani_desk.specs.Reworking.{reworked_out}
use Rattle.lubdhvani_desk.specs.declared.Reworked.{Reworked}
use Rattle.lubdhvani_desk_demands.specs.Promises.{Copies}

-- done, with a new stream of so many bytes
abbrev pub done : ℕ → Reworked
done n = record { number = 0; length = n; item = 0 }

-- 23 is an entry number past the index, 24 an entry whose place starts no line, and nothing else is
past_is : (a : Result ℕ DeskRefusal) → desk_number a ≡ 23 → a ≡ Err (answer-is.Past (item_of a))
past_is (Ok n) e = absurd (omega (arith, e))
past_is (Err answer-is.Sizes) e = absurd (omega (arith, e))
past_is (Err answer-is.TooLong) e = absurd (omega (arith, e))
past_is (Err answer-is.NoTable) e = absurd (omega (arith, e))
past_is (Err answer-is.Count) e = absurd (omega (arith, e))
past_is (Err (answer-is.Past k)) e = refl
past_is (Err (answer-is.NoLine k)) e = absurd (omega (arith, e))
past_is (Err answer-is.NewTooLong) e = absurd (omega (arith, e))
past_is (Err answer-is.NoRoom) e = absurd (omega (arith, e))

no-line-is : (a : Result ℕ DeskRefusal) → desk_number a ≡ 24 → a ≡ Err (answer-is.NoLine (item_of a))
no-line-is (Ok n) e = absurd (omega (arith, e))
no-line-is (Err answer-is.Sizes) e = absurd (omega (arith, e))
no-line-is (Err answer-is.TooLong) e = absurd (omega (arith, e))
no-line-is (Err answer-is.NoTable) e = absurd (omega (arith, e))
no-line-is (Err answer-is.Count) e = absurd (omega (arith, e))
no-line-is (Err (answer-is.Past k)) e = absurd (omega (arith, e))
no-line-is (Err (answer-is.NoLine k)) e = refl
no-line-is (Err answer-is.NewTooLong) e = absurd (omega (arith, e))
no-line-is (Err answer-is.NoRoom) e = absurd (omega (arith, e))

module _ (key font : List ℕ) (editions lay : ℕ) (s table : List ℕ) (count : ℕ) (list o : List ℕ) (r : Reworked) (out : List ℕ)
    (p : Copies key font editions lay s table count list o r out) where
  abbrev t : Told
  t = told key font (layout_of lay)

  -- what the call below answers
  abbrev a : Result ℕ DeskRefusal
  a = desk_call t editions s table count list o

  number_is : r.number ≡ desk_number a
  number_is = ap (λ (x : Reworked). x.number) p.0

  item-is : r.item ≡ item_of a
  item-is = ap (λ (x : Reworked). x.item) p.0

  -- done exactly then, and the new stream's length is answered
  pub c-desk-done : (r.number ≡ 0 → DoneWhen t editions s table count list (length o))
      × (DoneWhen t editions s table count list (length o) → r ≡ done (length (new_stream t editions s table list)))
  c-desk-done =
      let z = desk-done key font editions (layout_of lay) s table count list o a out (refl, p.1) in
      (λ e. z.0 (sym number_is ∙ e), λ w. p.0 ∙ ap reworked_out (z.1 w))

  -- 23 and 24 exactly where an item is the first at fault, and that item is answered, counted from 1: 23 where it is past the index, 24 where no line starts
  -- at its place
  pub c-desk-fault : (r.number ≡ 23 → Takes t s table count × Fault t editions s table count 1 list (Err (answer-is.Past r.item)))
      × (r.number ≡ 24 → Takes t s table count × Fault t editions s table count 1 list (Err (answer-is.NoLine r.item)))
      × ((x : Result ℕ DeskRefusal) → Takes t s table count → Fault t editions s table count 1 list x → r ≡ reworked_out x)
  c-desk-fault =
      let z = desk-fault key font editions (layout_of lay) s table count list o a out (refl, p.1) in (
        λ e. let n : desk_number a ≡ 23 = sym number_is ∙ e in
            subst (λ (x : Result ℕ DeskRefusal). Takes t s table count × Fault t editions s table count 1 list x)
            (past_is a n ∙ ap (λ (k : ℕ). Err (answer-is.Past k)) (sym item-is)) (z.0 (inl n)),
        λ e. let n : desk_number a ≡ 24 = sym number_is ∙ e in
            subst (λ (x : Result ℕ DeskRefusal). Takes t s table count × Fault t editions s table count 1 list x)
            (no-line-is a n ∙ ap (λ (k : ℕ). Err (answer-is.NoLine k)) (sym item-is)) (z.0 (inr n)),
        λ x w f. p.0 ∙ ap reworked_out (z.1 x w f),
      )
