-- A field looked for at a place of some bytes, test by test as `field_at` goes. Assumes nothing.
use mathlib.Core.Path.{◌≡◌, refl}
use mathlib.Core.Bool.{Bool, true, false, cond}
use mathlib.Core.List.{List}
use Prim.Native.Nat.{ℕ, ◌+◌, ◌*◌, ◌≤◌, ◌<◌}
use native.Mathlib.Omega.{arith}
use lib.Dec.{leb}
use lib.ListN.{length, get_or, take, drop, length-drop}
use lib.Seq.{length-take-le}
use borrow.Author.Tests.{eq-eqb, ne_eqb, leb-true, leb-false}
use Rattle.base_fields.specs.Fields.{head_length, high_byte, value, no_field, front}
use Rattle.base_fields.specs.Laws.{head_at, front-few}
use Rattle.frame_body.specs.Fields.{takes}
use Rattle.frame_body.specs.Answers.{Ends, Found}

module _ (b : List ℕ) (tag at : ℕ) where
  -- no field: the place past the end
  past : front takes tag (drop at b) ≡ no_field → Found b tag at (length b + 1)
  past e = record { ends = rw e (omega arith); near = omega arith }

  -- fewer bytes than a tag and a length
  pub too_few : length b < at + head_length → Found b tag at (length b + 1)
  too_few h = past (front-few takes tag (drop at b) (omega (arith, length-drop at b)))

  module _ (enough : at + head_length ≤ length b) where
    abbrev pub n : ℕ
    n = get_or b (at + 1) 0 * high_byte + get_or b (at + 2) 0

    abbrev rest : List ℕ
    rest = drop (at + head_length) b

    pub other_tag : (get_or b at 0 ≡ tag → ⊥) → Found b tag at (length b + 1)
    unfolding front
    other_tag h = past (rw (head_at b at enough, ne_eqb (get_or b at 0) tag h))

    module _ (is : get_or b at 0 ≡ tag) where
      pub other_length : takes (get_or b at 0) n ≡ false → Found b tag at (length b + 1)
      unfolding front
      other_length h = past (rw (head_at b at enough, h, eq-eqb (get_or b at 0) tag is))

      -- a length that the rule takes: the place behind so many bytes, past the end where there are not as many
      pub found : takes (get_or b at 0) n ≡ true → n < high_byte * high_byte → Found b tag at (at + head_length + n)
      unfolding front
      found good small = record {
        ends = rw (head_at b at enough, good, eq-eqb (get_or b at 0) tag is) (go (leb n (length rest)) refl);
        near = omega (arith, small);
      }
        where
          go : (t : Bool) → leb n (length rest) ≡ t → Ends (length b) at (at + head_length + n) (cond t (value (take n rest) (drop n rest)) no_field)
          go true p = omega (arith, length-take-le n rest (leb-true n (length rest) p))
          go false p = omega (arith, leb-false n (length rest) p, length-drop (at + head_length) b)
