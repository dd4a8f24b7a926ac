-- One law for each return of `update`: what is known there gives the answer, the count and the table that the promise names. Assumes nothing.
use Rattle.std.specs.Prelude.{Ok, Err, Result, ⊤}
use mathlib.Core.Path.{◌≡◌, sym, ap, ◌∙◌}
use mathlib.Core.Bool.{true}
use mathlib.Core.List.{List}
use Prim.Native.Nat.{ℕ, ◌+◌, ◌-◌, ◌≤◌, ◌<◌}
use native.Mathlib.Omega.{arith}
use lib.ListN.{length}
use lib.Seq.{sets}
use borrow.Author.Tests.{eq-eqb, ne_eqb, lt-ltb, le-ltb}
use Rattle.line_layout.specs.declared.Layout.{Layout}
use Rattle.frame_spec.specs.Told.{key_length, Told, told}
use Rattle.frame_body.specs.Fields.{digest_length}
use Rattle.read_call.specs.Answers.{longest_stream, sized_told}
use Rattle.index_spec.specs.declared.IndexRefusal.{IndexRefusal}
use Rattle.index_spec.specs.declared.IndexRefusal.TheVariants as answer-is
use Rattle.index_spec.specs.declared.Updated.{Updated}
use Rattle.index_spec.specs.Entries.{most_entries, entries_from}
use Rattle.index_spec.specs.Updating.{judged_all, last_place, added, update_answer, count_of, table_of, answered, updated, updated_table}
use Rattle.index_count.specs.Counted.{stretches_from}
use Rattle.index_call.specs.Steps.{Adding}
use Rattle.index_call.proofs.Counting.{added-count, added-adding}

module _ (key font : List ℕ) (lay : Layout) (editions : ℕ) (s table : List ℕ) (count : ℕ) where
  abbrev t : Told
  t = told key font lay

  abbrev w : List ℕ
  w = added t editions s table count

  -- what a return has to show
  abbrev pub Met : Updated → List ℕ → Type 0
  Met r out = (r ≡ updated t editions s table count) × (out ≡ updated_table t editions s table count)

  met : (a : Result ⊤ IndexRefusal) → update_answer t editions s table count ≡ a → (r : Updated) → r ≡ answered a (count_of a count w) → Met r (table_of a table count w)
  met a e r q =
      (q ∙ ap (λ (x : Result ⊤ IndexRefusal). answered x (count_of x count w)) (sym e), ap (λ (x : Result ⊤ IndexRefusal). table_of x table count w) (sym e))

  -- where it is refused
  abbrev Refused : Result ⊤ IndexRefusal → Type 0
  Refused a = (r : Updated) → r ≡ answered a count → Met r table

  pub bad-key : (length key ≡ key_length → ⊥) → Refused (Err answer-is.Sizes)
  unfolding update_answer sized_told
  bad-key k = met (Err answer-is.Sizes) (rw (ne_eqb (length key) key_length k))

  pub bad-font : length key ≡ key_length → (length font ≡ digest_length → ⊥) → Refused (Err answer-is.Sizes)
  unfolding update_answer sized_told
  bad-font k d = met (Err answer-is.Sizes) (rw (eq-eqb (length key) key_length k, ne_eqb (length font) digest_length d))

  module _ (k : length key ≡ key_length) (d : length font ≡ digest_length) where
    sized : sized_told t ≡ true
    unfolding sized_told
    sized = rw (eq-eqb (length key) key_length k) (eq-eqb (length font) digest_length d)

    pub too_long : longest_stream < length s → Refused (Err answer-is.TooLong)
    unfolding update_answer
    too_long h = met (Err answer-is.TooLong) (rw (sized, lt-ltb longest_stream (length s) h))

    module _ (h : length s ≤ longest_stream) where
      pub no_room : length table < most_entries → Refused (Err answer-is.NoRoom)
      unfolding update_answer
      no_room r = met (Err answer-is.NoRoom) (rw (sized, le-ltb longest_stream (length s) h, lt-ltb (length table) most_entries r))

      module _ (r : most_entries ≤ length table) where
        pub over : most_entries < count → Refused (Err answer-is.Count)
        unfolding update_answer
        over c =
            met (Err answer-is.Count)
            (rw (sized, le-ltb longest_stream (length s) h, le-ltb (length table) most_entries r, lt-ltb most_entries count c))

        module _ (c : count ≤ most_entries) (from : ℕ) (e : from ≡ last_place table count) where
          pub beyond : length s < from → Refused (Err answer-is.Beyond)
          unfolding update_answer
          beyond f =
              met (Err answer-is.Beyond)
              (rw (
                sized,
                le-ltb longest_stream (length s) h,
                le-ltb (length table) most_entries r,
                le-ltb most_entries count c,
                lt-ltb (length s) (last_place table count) (omega (arith, e)),
              ))

          module _ (f : from ≤ length s) (n : ℕ) (many : n ≡ stretches_from s from) where
            long : n ≡ length w
            long = many ∙ ap (stretches_from s) e ∙ sym (added-count t editions s table count)

            pub full : most_entries - count < n → Refused (Err answer-is.Full)
            unfolding update_answer
            full g =
                met (Err answer-is.Full)
                (rw (
                  sized,
                  le-ltb longest_stream (length s) h,
                  le-ltb (length table) most_entries r,
                  le-ltb most_entries count c,
                  le-ltb (length s) (last_place table count) (omega (arith, e)),
                  lt-ltb most_entries (count + length w) (omega (arith, long)),
                ))

            pub adding : Adding t editions s from n
            adding = added-adding t editions s from n (record { key-is = k; font-is = d }) h f many

            -- what is added from there
            from_last : entries_from (judged_all t editions) s from ≡ w
            unfolding added
            from_last = ap (entries_from (judged_all t editions) s) e

            pub done : n ≤ most_entries - count → (out : List ℕ) → out ≡ sets table count (entries_from (judged_all t editions) s from)
                → Met (answered (Ok tt) (count + n)) out
            unfolding update_answer
            done g out q =
                let m = met (Ok tt) (rw (
                  sized,
                  le-ltb longest_stream (length s) h,
                  le-ltb (length table) most_entries r,
                  le-ltb most_entries count c,
                  le-ltb (length s) (last_place table count) (omega (arith, e)),
                  le-ltb most_entries (count + length w) (omega (arith, long)),
                )) (answered (Ok tt) (count + n)) (ap (λ (z : ℕ). answered (Ok tt) (count + z)) long) in
                (m.0, q ∙ ap (sets table count) from_last ∙ m.1)
