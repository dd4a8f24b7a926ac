-- One law for each return of `fill`, `choose` and `desk`: what is known there gives the definition's answer and output. Assumes nothing.
use Rattle.std.specs.Prelude.{Ok, Err, Result}
use mathlib.Core.Path.{◌≡◌, refl, sym, ap, subst, ◌∙◌}
use mathlib.Core.Bool.{Bool, true, false}
use mathlib.Core.List.{List}
use Prim.Native.Nat.{ℕ, ◌+◌, ◌≤◌, ◌<◌}
use native.Mathlib.Omega.{arith}
use lib.Dec.{ltb}
use lib.ListN.{length}
use borrow.Author.Tests.{ltb-true, ltb-false, lt-ltb, le-ltb}
use Rattle.base_lists.specs.Buffers.{over}
use Rattle.line_layout.specs.declared.Layout.{Layout}
use Rattle.frame_body.specs.Fields.{digest_length}
use Rattle.frame_spec.specs.Told.{key_length, Told, told}
use Rattle.read_spec.specs.Sizes.{Sizes}
use Rattle.read_call.specs.Answers.{longest_stream, sized_told}
use Rattle.index_spec.specs.Entries.{most_entries}
use Rattle.index_spec.specs.Cases.{Takes, sized-told, told-sized}
use Rattle.desk_spec.specs.declared.DeskRefusal.{DeskRefusal}
use Rattle.desk_spec.specs.declared.DeskRefusal.TheVariants as answer-is
use Rattle.desk_spec.specs.Desk.{new_stream, fault_from, fitting, out_of, desk_answer, desk_call, desk_out}
use Rattle.desk_call.specs.declared.ItemFault.TheVariants.{Past, NoLine}
use Rattle.desk_call.specs.Steps.{items_from, frames_at, Starts, Measured}
use Rattle.desk_call.proofs.Judging.{Whole, says}

-- a stream w of n bytes, or n and its length over the longest: what is answered, and what the output o then holds
module _ (w o : List ℕ) (n : ℕ) (m : Measured n (length w)) where
  pub fill-long : longest_stream < n → (Err answer-is.NewTooLong ≡ fitting (length w) (length o)) × (o ≡ out_of (Err answer-is.NewTooLong) w o)
  fill-long h = (rw (lt-ltb longest_stream (length w) far), refl)
    where
      far : longest_stream < length w
      far = go (ltb longest_stream (length w)) refl
        where
          go : (a : Bool) → ltb longest_stream (length w) ≡ a → longest_stream < length w
          go true p = ltb-true longest_stream (length w) p
          go false p = absurd (omega (arith, h, m.exact (ltb-false longest_stream (length w) p), ltb-false longest_stream (length w) p))

  module _ (h : n ≤ longest_stream) where
    short : length w ≤ longest_stream
    short = go (ltb longest_stream (length w)) refl
      where
        go : (a : Bool) → ltb longest_stream (length w) ≡ a → length w ≤ longest_stream
        go true p = absurd (omega (arith, h, m.beyond (ltb-true longest_stream (length w) p)))
        go false p = ltb-false longest_stream (length w) p

    pub fill-exact : n ≡ length w
    fill-exact = m.exact short

    pub fill-no-room : length o < n → (Err answer-is.NoRoom ≡ fitting (length w) (length o)) × (o ≡ out_of (Err answer-is.NoRoom) w o)
    fill-no-room g = (rw (le-ltb longest_stream (length w) short, lt-ltb (length o) (length w) (omega (arith, g, fill-exact))), refl)

    pub fill_done : n ≤ length o → (out : List ℕ) → out ≡ over w o
        → (Ok n ≡ fitting (length w) (length o)) × (out ≡ out_of (Ok n) w o)
    fill_done g out e =
        (rw (le-ltb longest_stream (length w) short, le-ltb (length o) (length w) (omega (arith, g, fill-exact)), fill-exact), e)

module _ (t : Told) (editions : ℕ) (s table : List ℕ) (count : ℕ) (list o : List ℕ) where
  -- what `choose` answers, and what it leaves
  abbrev Chooses : Result ℕ DeskRefusal → List ℕ → Type 0
  Chooses r out =
      (r ≡ fault_from t editions s table count 1 list (fitting (length (new_stream t editions s table list)) (length o)))
      × (out ≡ out_of r (new_stream t editions s table list) o)

  module _ (w : Takes t s table count) where
    pub choose-past : (k : ℕ) → Err (Past k) ≡ items_from t editions s table count 1 0 list → Chooses (Err (answer-is.Past k)) o
    choose-past k e = (sym (says t editions s table count w list (Err (Past k)) e (fitting (length (new_stream t editions s table list)) (length o))), refl)

    pub choose-no-line : (k : ℕ) → Err (NoLine k) ≡ items_from t editions s table count 1 0 list → Chooses (Err (answer-is.NoLine k)) o
    choose-no-line k e = (sym (says t editions s table count w list (Err (NoLine k)) e (fitting (length (new_stream t editions s table list)) (length o))), refl)

    module _ (n : ℕ) (e : Ok n ≡ items_from t editions s table count 1 0 list) where
      whole : Whole t editions s table count w list 0 n
      whole = says t editions s table count w list (Ok n) e

      pub choose-starts : Starts s table list
      choose-starts = whole.starts

      pub choose-measured : Measured n (length (frames_at s table list))
      choose-measured = let z : 0 + length (frames_at s table list) ≡ length (frames_at s table list) = omega arith in subst (Measured n) z whole.measured

      pub choose-good : (r : Result ℕ DeskRefusal) (out : List ℕ) → r ≡ fitting (length (frames_at s table list)) (length o) → out ≡ out_of r (frames_at s table list) o
          → Chooses r out
      choose-good r out p q = (
        p ∙ rw (← whole.same) (sym (whole.faultless 1 (fitting (length (new_stream t editions s table list)) (length o)))),
        q ∙ ap
            (λ (x : List ℕ). out_of r x o) (sym whole.same),
      )

-- 2, by its test
not-sized : (t : Told) → (Sizes t → ⊥) → sized_told t ≡ false
not-sized t n = go (sized_told t) refl
  where
    go : (a : Bool) → sized_told t ≡ a → a ≡ false
    go true p = absurd (n (sized-told t p))
    go false p = refl

module _ (key font : List ℕ) (lay : Layout) (editions : ℕ) (s table : List ℕ) (count : ℕ) (list o : List ℕ) where
  abbrev t : Told
  t = told key font lay

  -- the desk's answer and output
  abbrev Met : Result ℕ DeskRefusal → List ℕ → Type 0
  Met r out = (r ≡ desk_call t editions s table count list o) × (out ≡ desk_out t editions s table count list o)

  met : (r : Result ℕ DeskRefusal) → r ≡ desk_answer t editions s table count list (length o) → (out : List ℕ) → out ≡ out_of r (new_stream t editions s table list) o
      → Met r out
  met r e out q = (e, q ∙ ap (λ (x : Result ℕ DeskRefusal). out_of x (new_stream t editions s table list) o) e)

  pub bad-key : (length key ≡ key_length → ⊥) → Met (Err answer-is.Sizes) o
  unfolding desk_answer
  bad-key k = met (Err answer-is.Sizes) (rw (not-sized t (λ z. k z.key-is))) o refl

  pub bad-font : (length font ≡ digest_length → ⊥) → Met (Err answer-is.Sizes) o
  unfolding desk_answer
  bad-font d = met (Err answer-is.Sizes) (rw (not-sized t (λ z. d z.font-is))) o refl

  module _ (k : length key ≡ key_length) (d : length font ≡ digest_length) where
    sizes : Sizes t
    sizes = record { key-is = k; font-is = d }

    pub too_long : longest_stream < length s → Met (Err answer-is.TooLong) o
    unfolding desk_answer
    too_long h = met (Err answer-is.TooLong) (rw (told-sized t sizes, lt-ltb longest_stream (length s) h)) o refl

    module _ (h : length s ≤ longest_stream) where
      pub no_table : length table < most_entries → Met (Err answer-is.NoTable) o
      unfolding desk_answer
      no_table g =
          met (Err answer-is.NoTable) (rw (told-sized t sizes, le-ltb longest_stream (length s) h, lt-ltb (length table) most_entries g)) o refl

      module _ (g : most_entries ≤ length table) where
        pub over-count : most_entries < count → Met (Err answer-is.Count) o
        unfolding desk_answer
        over-count c =
            met (Err answer-is.Count)
            (rw (told-sized t sizes, le-ltb longest_stream (length s) h, le-ltb (length table) most_entries g, lt-ltb most_entries count c)) o refl

        module _ (c : count ≤ most_entries) where
          pub takes : Takes t s table count
          takes = record { sizes = sizes; short = h; room = g; few = c }

          pub chosen-met : (r : Result ℕ DeskRefusal) (out : List ℕ) → Chooses t editions s table count list o r out → Met r out
          unfolding desk_answer
          chosen-met r out p =
              met r
              (rw (told-sized t sizes, le-ltb longest_stream (length s) h, le-ltb (length table) most_entries g, le-ltb most_entries count c) p.0)
              out p.1
