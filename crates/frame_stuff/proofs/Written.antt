-- What the loop that stuffs a body keeps. Assumes nothing.
use mathlib.Core.Path.{◌≡◌, refl, ap, ◌∙◌}
use mathlib.Core.List.{List, ◌++◌, append-nil}
use Prim.Native.Nat.{ℕ, ◌+◌, ◌*◌, ◌≤◌, ◌<◌}
use native.Mathlib.Omega.{arith}
use native.Mathlib.Numerals.{add-one}
use lib.ListN.{length, get_or, take, length-append, length-take}
use lib.Seq.{take-suc, sets, take_all}
use Rattle.base_lists.specs.Buffers.{over}
use Rattle.base_lists.specs.Over.{over-more, over-length}
use Rattle.frame_stuff_spec.specs.Stuffing.{stuff_byte, stuffed}
use Rattle.frame_stuff_spec.specs.Lengths.{stuff-byte-at-most, stuffed-append, stuffed-at-most}

stuffed-more : (s : List ℕ) (i : ℕ) → i < length s → stuffed (take (i + 1) s) ≡ stuffed (take i s) ++ stuff_byte (get_or s i 0)
unfolding stuffed
stuffed-more s i h = rw (add-one, take-suc s i 0 h, stuffed-append, append-nil)

-- after i bytes of the body their k stuffed bytes are written
pub record Written (s o out : List ℕ) (i k : ℕ) : Type 0 where
  pub in_body : i ≤ length s
  pub count : k ≡ length (stuffed (take i s))
  pub put : out ≡ over (stuffed (take i s)) o

module _ (s o : List ℕ) (room : 2 * length s ≤ length o) where
  fits : (i : ℕ) → i ≤ length s → length (stuffed (take i s)) ≤ 2 * i
  fits i h = omega (arith, stuffed-at-most (take i s), length-take i s)

  pub written-length : (out : List ℕ) (i k : ℕ) → Written s o out i k → length out ≡ length o
  written-length out i k h = ap length h.put ∙ over-length (stuffed (take i s)) o (omega (arith, fits i h.in_body))

  pub has_room : (out : List ℕ) (i k : ℕ) → Written s o out i k → i < length s → k + 2 ≤ length out
  has_room out i k h l = omega (arith, written-length out i k h, fits i h.in_body)

  pub written_none : Written s o o 0 0
  unfolding stuffed
  written_none = record { in_body = omega arith; count = refl; put = refl }

  pub written-more : (out out' : List ℕ) (i k r : ℕ) → Written s o out i k → i < length s → r ≡ k + length (stuff_byte (get_or s i 0))
      → out' ≡ sets out k (stuff_byte (get_or s i 0)) → Written s o out' (i + 1) r
  written-more out out' i k r h l e f = record {
    in_body = omega arith;
    count = rw (stuffed-more s i l, length-append) (omega (arith, h.count));
    put =
        rw (stuffed-more s i l)
        (f ∙ rw (h.put, h.count) (over-more (stuffed (take i s)) (stuff_byte (get_or s i 0)) o
        (omega (arith, fits i h.in_body, stuff-byte-at-most (get_or s i 0)))));
  }

  pub written_all : (out : List ℕ) (i k : ℕ) → Written s o out i k → length s ≤ i
      → (k ≡ length (stuffed s)) × (out ≡ over (stuffed s) o)
  written_all out i k h l = let e : take i s ≡ s = take_all i s l in (rw e at h.count, rw e at h.put)
