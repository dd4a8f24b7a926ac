-- The buyer's demand 3, first half, for a press that reads from the start of the stream to its end, from the promises alone: two streams
-- that are equal from a mark on are seen alike behind it. Assumes nothing.
use Rattle.std.specs.Prelude.{◌≡◌, refl, true, false, ℕ, zero, suc, ◌≤◌, length, take, drop}
use Rattle.std.proofs.Common.{sym, ap, ap₂, ◌∙◌, arith, length-take}
use mathlib.Core.List.{List, ◌∷◌, map, head-eq_of_cons-eq, tail-eq_of_cons-eq}
use Rattle.std.proofs.Math.Numerals.{unary_clauses}
use Rattle.base_lists.specs.Never.{never}
use Rattle.frame_spec.specs.Told.{told}
use Rattle.read_call.specs.declared.Asked.{Asked}
use Rattle.read_call.specs.declared.Reading.{Reading}
use Rattle.read_spec.specs.Sizes.{Sizes}
use Rattle.read_readings.specs.Resync.{Mark}
use Rattle.read_call.specs.Answers.{longest_stream}
use Rattle.demand_reading.specs.Promises.{Seen, seen_from, Run, none, next}
use Rattle.demand_reading.specs.Resync.{Abreast}
use Rattle.demand_reading.proofs.Resync.{at-marks, runs}
use Rattle.demand_reading.specs.Reaching.{Ended, at-end, before-end, Reaches}
use Rattle.demand_reading.proofs.Reaching.{run-reaches}
use Rattle.demand_reading.specs.FromStart.{counted_from}

counted-seen : (i : ℕ) (r : Reading) (l' : List ℕ) → counted_from i (seen_from 0 r l') ≡ seen_from i r l'
counted-seen i r l' = simp unary_clauses refl

run-counted : {key font : List ℕ} {asked : Asked} {s : List ℕ} {i from : ℕ} {seen : List Seen} → Run key font asked s 0 from seen
    → Run key font asked s i from (map (counted_from i) seen)
run-counted none = none
run-counted {i = i} (next r l l' g p q) = rw (counted-seen i r l') (next r l l' g p (run-counted q))

-- fewer calls
run_take : {key font : List ℕ} {asked : Asked} {s : List ℕ} {i from : ℕ} {seen : List Seen} (n : ℕ) → Run key font asked s i from seen
    → Run key font asked s i from (take n seen)
run_take zero q = none
run_take (suc n) none = none
run_take {from = from} (suc n) (next r l l' g p q) = next r l l' g p (run_take {from = r.closing} n q)

ended-counted : (i : ℕ) {seen : List Seen} → Ended seen → Ended (map (counted_from i) seen)
ended-counted i (at-end e) = at-end e
ended-counted i (before-end e k) = before-end e (ended-counted i k)

differ : {v w : Seen} → v.ended ≡ true → w.ended ≡ false → v ≡ w → ⊥
differ a b e =
    let t : false ≡ true = sym b ∙ sym (ap (λ (v : Seen). v.ended) e) ∙ a in
    never t

-- calls that see the same for as long as both are made end together
end-together : {x y : List Seen} → Ended x → Ended y → take (length y) x ≡ take (length x) y → x ≡ y
end-together (at-end a) (at-end b) e = e
end-together (at-end a) (before-end b k) e = absurd (differ a b (head-eq_of_cons-eq e))
end-together (before-end a k) (at-end b) e = absurd (differ b a (sym (head-eq_of_cons-eq e)))
end-together (before-end a k) (before-end b m) e = ap₂ ◌∷◌ (head-eq_of_cons-eq e) (end-together k m (tail-eq_of_cons-eq e))

-- runs made until the end, from places that are abreast, see the same
pub ended-alike : (key font : List ℕ) (asked : Asked) (x y : List ℕ) (i j : ℕ) → length x ≤ longest_stream → length y ≤ longest_stream
    → {a b : ℕ} → Abreast x i a y j b → {rx ry : List Seen}
    → Run key font asked x i a rx → Ended rx → Run key font asked y j b ry → Ended ry → rx ≡ ry
ended-alike key font asked x y i j hx hy w {rx} {ry} p a q b =
    let l : length (take (length ry) rx) ≡ length (take (length rx) ry) =
    omega (arith, length-take (length ry) rx, length-take (length rx) ry) in
    end-together a b (runs key font asked x y i j hx hy w l (run_take (length ry) p) (run_take (length rx) q))

-- two streams equal from a mark on, each read from its start to its end with the same key and font and one allowance for both: both runs
-- come to the mark, and what is seen behind it, with places counted from it, is the same
pub resync-from-start : (key font : List ℕ) (asked : Asked) (x y : List ℕ) (i j : ℕ) → Sizes (told key font asked.layout) → length x ≤ longest_stream
    → length y ≤ longest_stream
    → Mark x i → Mark y j → drop i x ≡ drop j y → {sx sy : List Seen}
    → Run key font asked x 0 0 sx → Ended sx → Run key font asked y 0 0 sy → Ended sy
    → (u : Reaches key font asked x i sx) × (v : Reaches key font asked y j sy) × (map (counted_from i) u.after ≡ map (counted_from j) v.after)
resync-from-start key font asked x y i j z hx hy m n e p a q b =
    let u = run-reaches key font asked x z hx i m 0 (omega arith) p a in
    let v = run-reaches key font asked y z hy j n 0 (omega arith) q b in (
      u,
      v,
      ended-alike key font asked x y i j hx hy (at-marks m n e)
          (run-counted u.run) (ended-counted i u.ended) (run-counted v.run) (ended-counted j v.ended),
    )
