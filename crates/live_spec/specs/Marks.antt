-- What a byte at the end of a stream changes: no stretch is closed, or one is, and what was cut off at the ends. Over any way to judge a stretch's
-- bytes. Assumes nothing.
use Rattle.std.specs.Prelude.{◌≡◌, Bool, List, [], ◌∷◌, ◌++◌, ℕ, ◌+◌, ◌-◌, ◌≤◌, ◌<◌, eqb, length, get_or, drop, Option}
use Rattle.std.proofs.Math.Path.{refl}
use Rattle.std.proofs.Common.{sym, subst, ◌∙◌, length-append, length-drop, take_at}
use Rattle.std.proofs.Math.Bool.{true, false, cond}
use Rattle.std.proofs.Math.Decide.{dec_lt}
use native.Mathlib.Omega.{arith}
use Rattle.std.proofs.Math.ListN.{get_or-append}
use Rattle.std.proofs.lemmas.List.{drop-append-le}
use Rattle.std.proofs.Math.Seq.{get_or-append_seam}
use borrow.Author.Tests.{eq-eqb, ne_eqb}
use Rattle.frame_stuff_spec.specs.Stuffing.{mark}
use Rattle.read_stretch.specs.Stretches.{span, bytes_at, next_span, next_stretch}
use Rattle.read_stretch.specs.Meaning.{NoMark, Stretch}
use Rattle.read_stretch.proofs.Places.{stretch-next, next-none}
use Rattle.read_spec.specs.Judged.{Judged}
use Rattle.read_readings.specs.Readings.{reading, readings, readings-step}
use Rattle.read_readings.specs.Resync.{Mark}
use Rattle.read_readings.specs.Reaching.{UpTo, closes, behind, up_to}
use Rattle.read_readings.proofs.Joining.{same_next}
use Rattle.live_spec.specs.declared.Numbers.{Numbers}
use Rattle.live_spec.specs.declared.Cut.{Cut}
use Rattle.live_spec.specs.Taking.{unfinished, behind_mark, behind_byte}
use Rattle.live_spec.specs.Ends.{cut_at, before_first, since_mark, behind_last}

module _ (s : List ℕ) (b : ℕ) where
  -- a byte more that is no mark
  pub clear-more : (a : ℕ) → NoMark s a (length s) → (b ≡ mark → ⊥) → NoMark (s ++ (b ∷ [])) a (length (s ++ (b ∷ [])))
  clear-more a c m k l h e = elim (dec_lt k (length s)) [
    | yes i ↦ c k l i (sym (get_or-append s (b ∷ []) 0 k i) ∙ e)
    | no i ↦
        let k-is : k ≡ length s = omega (arith, i, h, length-append s (b ∷ [])) in
        m (sym (get_or-append_seam s b [] 0) ∙ subst (λ (j : ℕ). get_or (s ++ (b ∷ [])) j 0 ≡ mark) k-is e)
  ]

  -- what stood there stands
  pub stands : (k : ℕ) → k < length s → get_or s k 0 ≡ mark → get_or (s ++ (b ∷ [])) k 0 ≡ mark
  stands k h e = get_or-append s (b ∷ []) 0 k h ∙ e

-- behind the last place nothing stands between
pub clear-end : (s : List ℕ) (a : ℕ) → length s ≤ a → NoMark s a (length s)
clear-end s a h k l i e = omega (arith, l, i)

module _ (judge : List ℕ → Judged) (t : List ℕ) where
  -- up to a mark before which no stretch closes, the readings are those from the mark
  pub passed : (from i : ℕ) → from ≤ i → Mark t i → ((b e : ℕ) → from < b → Stretch t b e → e ≤ i → ⊥) → readings judge t from ≡ readings judge t i
  passed from i h m none = go (up_to t from i h m)
    where
      go : UpTo t from i → readings judge t from ≡ readings judge t i
      go (behind e) = same_next judge t from i e
      go (closes f l) = absurd (none (next_span t from).first (next_span t from).closing f.later f.stretch l)

  -- a stretch is read from its opening mark
  pub opened : (a e : ℕ) → Stretch t a e → readings judge t (a - 1) ≡ reading (span a e) (judge (bytes_at t (span a e))) ∷ readings judge t e
  unfolding next_stretch
  opened a e x = readings-step judge t (a - 1) ∙ rw (stretch-next t a e x, ne_eqb a e (λ z. omega (arith, z, x.some)))

  -- with no mark behind it, nothing is read
  pub unclosed : (a : ℕ) → NoMark t a (length t) → readings judge t (a - 1) ≡ []
  unclosed a c =
      let n = next-none t (a - 1) (λ b e h x. c e (omega (arith, h, x.some)) x.ends x.closes) in
      readings-step judge t (a - 1) ∙ rw (n, eq-eqb (length t) (length t) refl)

-- the bytes of a stretch that a mark closes
pub closed-bytes : (s : List ℕ) (a : ℕ) (more : List ℕ) → a ≤ length s → bytes_at (s ++ more) (span a (length s)) ≡ drop a s
closed-bytes s a more h =
    rw (drop-append-le a s more h) (take_at (drop a s) more (length s - a) (length-drop a s))

-- what was cut off, where these are the numbers and these bytes are still to come
unfoldable pub ends_from : Numbers → List ℕ → Option Cut
ends_from n l =
    cond (eqb n.marked 0) (cut_at (n.received + before_first l) (behind_last l)) (cut_at n.mark (since_mark (unfinished n) l))

module _ (n : Numbers) (b : ℕ) (l : List ℕ) where
  pub ends-byte : n.first ≤ n.received → (b ≡ mark → ⊥) → ends_from n (b ∷ l) ≡ ends_from (behind_byte n) l
  unfolding ends_from before_first behind_last since_mark
  ends-byte o m =
      let z : n.received + (before_first l + 1) ≡ n.received + 1 + before_first l = omega arith in
      let u : n.received - n.first + 1 ≡ n.received + 1 - n.first = omega arith in
      rw (ne_eqb b mark m, z, u)

  pub ends-mark : b ≡ mark → ends_from n (b ∷ l) ≡ ends_from (behind_mark n) l
  unfolding ends_from before_first behind_last since_mark behind_mark
  ends-mark m =
      let z : n.received + 0 ≡ n.received = omega arith in
      let u : n.received + 1 - (n.received + 1) ≡ 0 = omega arith in
      rw (eq-eqb b mark m, z, u) (go (eqb n.marked 0))
    where
      go : (x : Bool) → cond x (cut_at n.received (since_mark 0 l)) (cut_at n.mark (since_mark 0 l))
          ≡ cut_at (cond x n.received n.mark) (since_mark 0 l)
      go true = refl
      go false = refl
