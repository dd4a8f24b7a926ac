-- What bringing up to date answers, case by case in the order's words, and that the answer is the one whose case holds. Assumes nothing.
use Rattle.std.specs.Prelude.{◌≡◌, Bool, not, cond, List, ℕ, ◌+◌, ◌≤◌, ◌<◌, eqb, Ok, Err, Result, ⊤}
use Rattle.std.proofs.Math.Path.{refl}
use Rattle.std.proofs.Common.{sym, ◌∙◌, eqb-true, eq-eqb, ltb-true, ltb-false}
use Rattle.std.proofs.Math.Bool.{true, false}
use Rattle.std.proofs.Math.Dec.{ltb}
use Rattle.std.proofs.Math.ListN.{length}
use Rattle.base_lists.specs.Never.{never}
use Rattle.frame_body.specs.Fields.{digest_length}
use Rattle.frame_spec.specs.Told.{key_length, Told}
use Rattle.read_spec.specs.Sizes.{Sizes}
use Rattle.read_call.specs.Answers.{longest_stream, sized_told}
use Rattle.index_spec.specs.declared.IndexRefusal.{IndexRefusal}
use Rattle.index_spec.specs.declared.IndexRefusal.TheVariants as answer-is
use Rattle.index_spec.specs.Entries.{most_entries}
use Rattle.index_spec.specs.Updating.{last_place, added, update_answer, update_number, count_of, table_of}

-- key and font digest, stream, table and count are as they must be: neither 2, 3, 4 nor the first 19
pub record Takes (t : Told) (s table : List ℕ) (count : ℕ) : Type 0 where
  pub sizes : Sizes t
  pub short : length s ≤ longest_stream
  pub room : most_entries ≤ length table
  pub few : count ≤ most_entries

-- one line for each of the order's cases
pub data Case (t : Told) (editions : ℕ) (s table : List ℕ) (count : ℕ) : Result ⊤ IndexRefusal → Type 0 where
  bad-sizes : (Sizes t → ⊥) → Case t editions s table count (Err answer-is.Sizes)
  too_long : Sizes t → longest_stream < length s → Case t editions s table count (Err answer-is.TooLong)
  no_room : Sizes t → length s ≤ longest_stream → length table < most_entries → Case t editions s table count (Err answer-is.NoRoom)
  over : Sizes t → length s ≤ longest_stream → most_entries ≤ length table → most_entries < count → Case t editions s table count (Err answer-is.Count)
  beyond : Takes t s table count → length s < last_place table count → Case t editions s table count (Err answer-is.Beyond)
  full : Takes t s table count → last_place table count ≤ length s → most_entries < count + length (added t editions s table count)
      → Case t editions s table count (Err answer-is.Full)
  done : Takes t s table count → last_place table count ≤ length s → count + length (added t editions s table count) ≤ most_entries
      → Case t editions s table count (Ok tt)

-- a refusal keeps the table and the count
pub refusal-keeps : (a : Result ⊤ IndexRefusal) (table w : List ℕ) (count : ℕ) → (update_number a ≡ 0 → ⊥) → (table_of a table count w ≡ table) × (count_of a count w ≡ count)
refusal-keeps (Ok tt) table w count h = absurd (h refl)
refusal-keeps (Err answer-is.Sizes) table w count h = (refl, refl)
refusal-keeps (Err answer-is.TooLong) table w count h = (refl, refl)
refusal-keeps (Err answer-is.NoRoom) table w count h = (refl, refl)
refusal-keeps (Err answer-is.Count) table w count h = (refl, refl)
refusal-keeps (Err answer-is.Beyond) table w count h = (refl, refl)
refusal-keeps (Err answer-is.Full) table w count h = (refl, refl)

-- 2, by its test
pub sized-told : (t : Told) → sized_told t ≡ true → Sizes t
unfolding sized_told
sized-told t = go (eqb (length t.key) key_length) refl
  where
    go : (x : Bool) → eqb (length t.key) key_length ≡ x → cond x (eqb (length t.font) digest_length) false ≡ true → Sizes t
    go true p e = record { key-is = eqb-true (length t.key) key_length p; font-is = eqb-true (length t.font) digest_length e }
    go false p e = never e

pub told-sized : (t : Told) → Sizes t → sized_told t ≡ true
unfolding sized_told
told-sized t z = rw (eq-eqb (length t.key) key_length z.key-is) (eq-eqb (length t.font) digest_length z.font-is)

module _ (t : Told) (editions : ℕ) (s table : List ℕ) (count : ℕ) where
  pub update-case : Case t editions s table count (update_answer t editions s table count)
  unfolding update_answer
  update-case =
      by-sizes (sized_told t) refl
    where
      by_end : Takes t s table count → (e f : Bool) → ltb (length s) (last_place table count) ≡ e
          → ltb most_entries (count + length (added t editions s table count)) ≡ f
          → Case t editions s table count (cond e (Err answer-is.Beyond) (cond f (Err answer-is.Full) (Ok tt)))
      by_end k true f p q = beyond k (ltb-true (length s) (last_place table count) p)
      by_end k false true p q = full k (ltb-false (length s) (last_place table count) p) (ltb-true most_entries (count + length (added t editions s table count))
          q)
      by_end k false false p q = done k (ltb-false (length s) (last_place table count) p) (ltb-false most_entries
          (count + length (added t editions s table count)) q)

      by-rooms : Sizes t → (b c d : Bool) → ltb longest_stream (length s) ≡ b → ltb (length table) most_entries ≡ c → ltb most_entries count ≡ d
          → Case t editions s table count
          (cond b (Err answer-is.TooLong)
          (cond c (Err answer-is.NoRoom)
          (cond d (Err answer-is.Count)
          (cond (ltb (length s) (last_place table count)) (Err answer-is.Beyond)
          (cond (ltb most_entries (count + length (added t editions s table count))) (Err answer-is.Full) (Ok tt))))))
      by-rooms z true c d p q r = too_long z (ltb-true longest_stream (length s) p)
      by-rooms z false true d p q r = no_room z (ltb-false longest_stream (length s) p) (ltb-true (length table) most_entries q)
      by-rooms z false false true p q r =
          over z (ltb-false longest_stream (length s) p) (ltb-false (length table) most_entries q) (ltb-true most_entries count r)
      by-rooms z false false false p q r =
          by_end (record {
            sizes = z;
            short = ltb-false longest_stream (length s) p;
            room = ltb-false (length table) most_entries q;
            few = ltb-false most_entries count r;
          }) (ltb (length s) (last_place table count)) (ltb most_entries (count + length (added t editions s table count))) refl refl

      by-sizes : (a : Bool) → sized_told t ≡ a → Case t editions s table count
          (cond (not a) (Err answer-is.Sizes)
          (cond (ltb longest_stream (length s)) (Err answer-is.TooLong)
          (cond (ltb (length table) most_entries) (Err answer-is.NoRoom)
          (cond (ltb most_entries count) (Err answer-is.Count)
          (cond (ltb (length s) (last_place table count)) (Err answer-is.Beyond)
          (cond (ltb most_entries (count + length (added t editions s table count))) (Err answer-is.Full) (Ok tt)))))))
      by-sizes true p =
          by-rooms (sized-told t p) (ltb longest_stream (length s)) (ltb (length table) most_entries) (ltb most_entries count) refl refl refl
      by-sizes false p = bad-sizes (λ z. never (sym p ∙ told-sized t z))
