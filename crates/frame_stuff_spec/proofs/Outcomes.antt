-- The answers of `unstuffed_length`, `unstuff` and `stuff`, case by case, in the words of good stuffing, room and length.
-- Assumes nothing.
use Rattle.std.specs.Prelude.{◌≡◌, refl, ◌⊎◌, List, Bool, true, false, ℕ, ◌*◌, ◌≤◌, ◌<◌, ltb, length, Ok, Err, Some, None, Result, Option}
use Rattle.std.proofs.Common.{sym, ap, ◌∙◌, inl, inr, arith, lt-ltb, le-ltb, ltb-true, ltb-false}
use Rattle.std.proofs.Math.Decide.{dec_le}
use Rattle.base_lists.specs.Buffers.{over}
use Rattle.frame_stuff_spec.specs.declared.UnstuffFault.{UnstuffFault}
use Rattle.frame_stuff_spec.specs.declared.UnstuffFault.TheVariants as unstuffed-is
use Rattle.frame_stuff_spec.specs.declared.StuffRefusal.TheVariants as stuffed-is
use Rattle.frame_stuff_spec.specs.Stuffing.{longest_stretch, stuffed, unstuffed, WellStuffed}
use Rattle.frame_stuff_spec.specs.Rules.{length_outside}
use Rattle.frame_stuff_spec.specs.Answers.{answer_of, room_for, written_by, length_answer, unstuff_answer, unstuff_out, stuff_answer, stuff_out}
use Rattle.frame_stuff_spec.proofs.GoodStuffing.{rules-good, rules-bad, good-rules, well-or-not}
use Rattle.frame_stuff_spec.specs.Outcomes.{Outcome, too_long, bad, no_room, done}

pub length-too-long : (s : List ℕ) → longest_stretch < length s → length_answer s ≡ Err unstuffed-is.TooLong
unfolding length_answer
length-too-long s h = rw (lt-ltb longest_stretch (length s) h)

-- within the longest stretch the rules decide
pub length-by-rules : (s : List ℕ) → length s ≤ longest_stretch → length_answer s ≡ answer_of (length_outside s)
unfolding length_answer
length-by-rules s h = rw (le-ltb longest_stretch (length s) h)

pub length-bad : (s : List ℕ) → length s ≤ longest_stretch → (WellStuffed s → ⊥) → length_answer s ≡ Err unstuffed-is.Bad
length-bad s h n = length-by-rules s h ∙ ap answer_of (rules-bad s n)

pub length-good : (s : List ℕ) → length s ≤ longest_stretch → WellStuffed s → length_answer s ≡ Ok (length (unstuffed s))
length-good s h w = length-by-rules s h ∙ ap answer_of (rules-good w)

-- only a well-stuffed stretch within the longest has a length, its body's
pub length-length : (s : List ℕ) (n : ℕ) → length_answer s ≡ Ok n
    → (length s ≤ longest_stretch) × WellStuffed s × (n ≡ length (unstuffed s))
length-length s n e = by_length (ltb longest_stretch (length s)) refl
  where
    by-rules : length s ≤ longest_stretch → (c : Option ℕ) → length_outside s ≡ c → answer_of c ≡ Ok n
        → (length s ≤ longest_stretch) × WellStuffed s × (n ≡ length (unstuffed s))
    by-rules h (Some k) p q = let k-is : k ≡ n = cc q in let g = good-rules s k p in (h, g.0, omega (arith, g.1, k-is))
    by-rules h None p q = absurd (let z : ◌≡◌ {A = ℕ} 0 1 = cc q in omega arith)

    by_length : (t : Bool) → ltb longest_stretch (length s) ≡ t
        → (length s ≤ longest_stretch) × WellStuffed s × (n ≡ length (unstuffed s))
    by_length true p =
        absurd (let q = length-too-long s (ltb-true longest_stretch (length s) p) in let z : ◌≡◌ {A = ℕ} 0 1 = cc (q, e) in omega arith)
    by_length false p =
        let h = ltb-false longest_stretch (length s) p in by-rules h (length_outside s) refl (sym (length-by-rules s h) ∙ e)

-- an answer that no length gives leaves the buffer as it was
refusal : (s o : List ℕ) (r : Result ℕ UnstuffFault) → unstuff_answer s o ≡ r → written_by r (unstuffed s) o ≡ o → (unstuff_answer s o ≡ r) × (unstuff_out s o ≡ o)
unfolding unstuff_out
refusal s o r e w = (e, ap (λ (a : Result ℕ UnstuffFault). written_by a (unstuffed s) o) e ∙ w)

pub unstuff-too-long : (s o : List ℕ) → longest_stretch < length s → (unstuff_answer s o ≡ Err unstuffed-is.TooLong) × (unstuff_out s o ≡ o)
unfolding unstuff_answer
unstuff-too-long s o h = refusal s o (Err unstuffed-is.TooLong) (ap (λ (a : Result ℕ UnstuffFault). room_for a o) (length-too-long s h)) refl

pub unstuff-bad : (s o : List ℕ) → length s ≤ longest_stretch → (WellStuffed s → ⊥) → (unstuff_answer s o ≡ Err unstuffed-is.Bad) × (unstuff_out s o ≡ o)
unfolding unstuff_answer
unstuff-bad s o h n = refusal s o (Err unstuffed-is.Bad) (ap (λ (a : Result ℕ UnstuffFault). room_for a o) (length-bad s h n)) refl

pub unstuff-no-room : (s o : List ℕ) → length s ≤ longest_stretch → WellStuffed s → length o < length (unstuffed s)
    → (unstuff_answer s o ≡ Err unstuffed-is.NoRoom) × (unstuff_out s o ≡ o)
unfolding unstuff_answer
unstuff-no-room s o h w l =
    refusal s o (Err unstuffed-is.NoRoom)
    (ap (λ (a : Result ℕ UnstuffFault). room_for a o) (length-good s h w) ∙ rw (lt-ltb (length o) (length (unstuffed s)) l)) refl

pub unstuff-done : (s o : List ℕ) → length s ≤ longest_stretch → WellStuffed s → length (unstuffed s) ≤ length o
    → (unstuff_answer s o ≡ Ok (length (unstuffed s))) × (unstuff_out s o ≡ over (unstuffed s) o)
unfolding unstuff_answer unstuff_out
unstuff-done s o h w l =
    let e : unstuff_answer s o ≡ Ok (length (unstuffed s)) =
    ap (λ (a : Result ℕ UnstuffFault). room_for a o) (length-good s h w) ∙ rw (le-ltb (length o) (length (unstuffed s)) l) in
    (e, ap (λ (a : Result ℕ UnstuffFault). written_by a (unstuffed s) o) e)

pub unstuff-outcome : (s o : List ℕ) → Outcome s o (unstuff_answer s o) (unstuff_out s o)
unstuff-outcome s o = by_length (dec_le (length s) longest_stretch)
  where
    met : {r : Result ℕ UnstuffFault} {w : List ℕ} → (unstuff_answer s o ≡ r) × (unstuff_out s o ≡ w) → Outcome s o r w
        → Outcome s o (unstuff_answer s o) (unstuff_out s o)
    met e x = rw (e.0, e.1) x

    by-room : length s ≤ longest_stretch → WellStuffed s → Dec (length (unstuffed s) ≤ length o) → Outcome s o (unstuff_answer s o) (unstuff_out s o)
    by-room h w (yes l) = met (unstuff-done s o h w l) (done h w l)
    by-room h w (no l) = met (unstuff-no-room s o h w (omega (arith, l))) (no_room h w (omega (arith, l)))

    by-stuffing : length s ≤ longest_stretch → WellStuffed s ⊎ (WellStuffed s → ⊥) → Outcome s o (unstuff_answer s o) (unstuff_out s o)
    by-stuffing h (inl w) = by-room h w (dec_le (length (unstuffed s)) (length o))
    by-stuffing h (inr n) = met (unstuff-bad s o h n) (bad h n)

    by_length : Dec (length s ≤ longest_stretch) → Outcome s o (unstuff_answer s o) (unstuff_out s o)
    by_length (yes h) = by-stuffing h (well-or-not s)
    by_length (no h) = met (unstuff-too-long s o (omega (arith, h))) (too_long (omega (arith, h)))

pub stuff-no-room : (b o : List ℕ) → length o < 2 * length b → (stuff_answer b o ≡ Err stuffed-is.NoRoom) × (stuff_out b o ≡ o)
unfolding stuff_answer stuff_out
stuff-no-room b o h = (rw (lt-ltb (length o) (2 * length b) h), rw (lt-ltb (length o) (2 * length b) h))

pub stuff-done : (b o : List ℕ) → 2 * length b ≤ length o
    → (stuff_answer b o ≡ Ok (length (stuffed b))) × (stuff_out b o ≡ over (stuffed b) o)
unfolding stuff_answer stuff_out
stuff-done b o h = (rw (le-ltb (length o) (2 * length b) h), rw (le-ltb (length o) (2 * length b) h))
