-- The buyer's demand 3, first half: from a mark on, the readings depend on the bytes from that mark on and on nothing before, with
-- places counted from the mark. Over any way to judge a stretch's bytes. Assumes nothing.
use Rattle.std.specs.Prelude.{◌≡◌, refl, List, [], ◌∷◌, map, ℕ, ◌+◌, ◌-◌, ◌≤◌, ◌<◌, length, get_or, drop}
use Rattle.std.proofs.Common.{sym, ap, ap₂, ◌∙◌, arith}
use Rattle.frame_stuff_spec.specs.Stuffing.{mark}
use Rattle.read_stretch.specs.Stretches.{span}
use Rattle.read_stretch.specs.Shift.{Alike}
use Rattle.read_spec.specs.Judged.{Judged}
use Rattle.read_readings.specs.Readings.{Reading, reading, moved_reading, readings, readings-moved}

-- a reading with its places counted from place i
abbrev pub from_place : ℕ → Reading → Reading
from_place i r = reading (span (r.place.first - i) (r.place.closing - i)) r.judged

back : (d : ℕ) (l : List Reading) → map (from_place d) (map (moved_reading d) l) ≡ l
back d [] = refl
back d (r ∷ l) =
    let f : r.place.first + d - d ≡ r.place.first = omega arith in
    let c : r.place.closing + d - d ≡ r.place.closing = omega arith in
    ap₂ ◌∷◌ (ap₂ (λ (a e : ℕ). reading (span a e) r.judged) f c) (back d l)

-- the readings from a place, counted from it, are those of the rest of the stream
pub readings-rest : (judge : List ℕ → Judged) (s : List ℕ) (i : ℕ) → i ≤ length s
    → map (from_place i) (readings judge s i) ≡ readings judge (drop i s) 0
readings-rest judge s i h = ap (map (from_place i)) (readings-moved judge s i h) ∙ back i (readings judge (drop i s) 0)

-- two places of two streams from which the same bytes follow: the same readings
pub readings-alike : (judge : List ℕ → Judged) {x y : List ℕ} {i j : ℕ} → Alike x i y j
    → map (from_place i) (readings judge x i) ≡ map (from_place j) (readings judge y j)
readings-alike judge {x} {y} {i} {j} a =
    readings-rest judge x i a.in-x ∙ ap (λ (l : List ℕ). readings judge l 0) a.rest ∙ sym (readings-rest judge y j a.in-y)

-- a mark stands at a place of the stream
pub record Mark (s : List ℕ) (i : ℕ) : Type 0 where
  pub inside : i < length s
  pub stands : get_or s i 0 ≡ mark

pub resync : (judge : List ℕ → Judged) (x y : List ℕ) (i j : ℕ) → Mark x i → Mark y j → drop i x ≡ drop j y
    → map (from_place i) (readings judge x i) ≡ map (from_place j) (readings judge y j)
resync judge x y i j m n e =
    readings-alike judge (record { in-x = omega (arith, m.inside); in-y = omega (arith, n.inside); rest = e })
