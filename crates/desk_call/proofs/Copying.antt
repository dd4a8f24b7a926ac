-- Copying frames one after the other: the ones passed stand over the output's start, and what is left of them are those of the items left.
-- Assumes nothing.
use mathlib.Core.Path.{◌≡◌, refl, sym, ap, subst, ◌∙◌}
use mathlib.Core.List.{List, [], ◌∷◌, ◌++◌, append_assoc, append-nil}
use Prim.Native.Nat.{ℕ, suc, ◌+◌, ◌-◌, ◌≤◌, ◌<◌}
use native.Mathlib.Omega.{arith}
use lib.ListN.{length, set, get_or, take, drop, length-append, length-take, length-drop, length-set, drop_of_length-le}
use lib.Seq.{sets}
use Rattle.base_lists.specs.Walk.{at}
use Rattle.base_lists.specs.Buffers.{over, copied}
use Rattle.base_lists.specs.Over.{over-part, copied_all, over-length, over-more}
use Rattle.frame_stuff_spec.specs.Stuffing.{mark}
use Rattle.read_stretch.specs.declared.Span.{Span}
use Rattle.read_stretch.specs.Stretches.{span, bytes_at, next_span}
use Rattle.read_stretch.specs.Meaning.{Stretch}
use Rattle.desk_spec.specs.Desk.{place_of}
use Rattle.desk_call.specs.Steps.{closing_at, frame_at, frames_at, Start, Starts}

-- a list stored is its parts stored one behind the other
sets-append : (a b o : List ℕ) (i : ℕ) → sets o i (a ++ b) ≡ sets (sets o i a) (i + length a) b
sets-append [] b o i = let e : i + 0 ≡ i = omega arith in rw e
sets-append (x ∷ a) b o i =
    let e : suc i + length a ≡ i + suc (length a) = omega arith in sets-append a b (set o i x) (suc i) ∙ ap (λ (k : ℕ). sets (sets (set o i x) (suc i) a) k b) e

-- w copied to the part of o from a place on
copied-part : (to : ℕ) (w o out : List ℕ) → to + length w ≤ length o → out ≡ copied w (take (length o - to) (drop to o))
    → take to o ++ (out ++ drop (length o - to) (drop to o)) ≡ sets o to w
copied-part to w o out h e =
    rw (e, copied_all w (take (length o - to) (drop to o)) (simp (length-take, length-drop) (omega arith))) (over-part to w o h)

-- a frame copied between two marks
module _ (s : List ℕ) (place : ℕ) (x : Stretch s place (closing_at s place)) (p : Span) (p-is : p ≡ next_span s (place - 1)) where
  closing-is : p.closing ≡ closing_at s place
  closing-is = ap (λ (y : Span). y.closing) p-is

  pub in_order : place ≤ p.closing
  in_order = omega (arith, closing-is, x.some)

  pub in-stream : p.closing ≤ length s
  in-stream = omega (arith, closing-is, x.ends)

  abbrev bytes : List ℕ
  bytes = bytes_at s (span place (closing_at s place))

  bytes-long : length bytes ≡ p.closing - place
  bytes-long = simp (length-take, length-drop) (omega (arith, closing-is, x.some, x.ends))

  pub frame-long : length (frame_at s place) ≡ p.closing - place + 2
  unfolding frame_at
  frame-long = omega (arith, length-append bytes (mark ∷ []), bytes-long)

  module _ (o : List ℕ) (to : ℕ) (h : to + length (frame_at s place) ≤ length o) where
    pub frame-put : (out : List ℕ)
        → out ≡ copied (take (p.closing - place) (drop place s)) (take (length (set o to mark) - (to + 1)) (drop (to + 1) (set o to mark)))
        → set (take (to + 1) (set o to mark) ++ (out ++ drop (length (set o to mark) - (to + 1)) (drop (to + 1) (set o to mark))))
        (to + 1 + (p.closing - place)) mark
        ≡ sets o to (frame_at s place)
    unfolding frame_at
    frame-put out e =
        let b : take (p.closing - place) (drop place s) ≡ bytes = rw closing-is in
        let one : suc to ≡ to + 1 = omega arith in
        let room : to + 1 + length bytes ≤ length (set o to mark) = omega (arith, h, frame-long, bytes-long, length-set o to mark) in
        let stored = copied-part (to + 1) bytes (set o to mark) out room (e ∙ rw b) in
        rw (stored, ← bytes-long)
        (sym (ap (λ (k : ℕ). sets (set o to mark) k (bytes ++ (mark ∷ []))) one ∙ sets-append bytes (mark ∷ []) (set o to mark) (to + 1)))

-- the frames of k items stand over the start of o
pub record Copying (s table list o out : List ℕ) (to k : ℕ) : Type 0 where
  pub done : List ℕ
  pub put : out ≡ over done o
  pub to_is : to ≡ length done
  pub left : frames_at s table list ≡ done ++ frames_at s table (drop k list)
  pub starts : Starts s table (drop k list)

module _ {s table list o : List ℕ} where
  pub copying-none : Starts s table list → Copying s table list o o 0 0
  copying-none z = record { done = []; put = refl; to_is = refl; left = refl; starts = z }

  module _ (room : length (frames_at s table list) ≤ length o) {out : List ℕ} {to k : ℕ} (g : Copying s table list o out to k) where
    done-room : length g.done ≤ length o
    done-room = omega (arith, room, ap length g.left, length-append g.done (frames_at s table (drop k list)))

    pub copying-length : length out ≡ length o
    copying-length = ap length g.put ∙ over-length g.done o done-room

    pub copying-all : length list ≤ k → out ≡ over (frames_at s table list) o
    unfolding frames_at
    copying-all h =
        let nothing : drop k list ≡ [] = drop_of_length-le list {i = k} h in
        let all : frames_at s table list ≡ g.done = g.left ∙ rw nothing (append-nil g.done) in
        g.put ∙ ap (λ (x : List ℕ). over x o) (sym all)

    module _ (h : k < length list) (i : ℕ) (i-is : i ≡ get_or list k 0) where
      this : drop k list ≡ i ∷ drop (k + 1) list
      this = at list k h ∙ ap (λ (x : ℕ). x ∷ drop (k + 1) list) (sym i-is)

      these : Starts s table (i ∷ drop (k + 1) list)
      these = subst (Starts s table) this g.starts

      pub copying-start : Start s table i
      copying-start = these.0

      next-left : frames_at s table list ≡ (g.done ++ frame_at s (place_of table i)) ++ frames_at s table (drop (k + 1) list)
      unfolding frames_at
      next-left =
          g.left ∙ ap (λ (x : List ℕ). g.done ++ frames_at s table x) this
          ∙ sym (append_assoc g.done (frame_at s (place_of table i)) (frames_at s table (drop (k + 1) list)))

      next-long : length g.done + length (frame_at s (place_of table i)) ≤ length o
      next-long =
          omega (
            arith,
            room,
            ap length next-left,
            length-append (g.done ++ frame_at s (place_of table i)) (frames_at s table (drop (k + 1) list)),
            length-append g.done (frame_at s (place_of table i)),
          )

      pub copying-room : to + length (frame_at s (place_of table i)) ≤ length out
      copying-room = omega (arith, next-long, g.to_is, copying-length)

      pub copying-more : (out' : List ℕ) (to' : ℕ) → out' ≡ sets out to (frame_at s (place_of table i)) → to' ≡ to + length (frame_at s (place_of table i))
          → Copying s table list o out' to' (k + 1)
      copying-more out' to' e f = record {
        done = g.done ++ frame_at s (place_of table i);
        put = e ∙ rw (g.put, g.to_is) (over-more g.done (frame_at s (place_of table i)) o next-long);
        to_is = f ∙ omega (arith, g.to_is, length-append g.done (frame_at s (place_of table i)));
        left = next-left;
        starts = these.1;
      }

      -- at the place that the entry names
      module _ (place : ℕ) (place_is : place ≡ place_of table i) where
        pub put-ready : Stretch s place (closing_at s place) × (to + length (frame_at s place) ≤ length out)
        put-ready = rw place_is (copying-start.stretch, copying-room)

        pub put-more : (out' : List ℕ) (to' : ℕ) → out' ≡ sets out to (frame_at s place) → to' ≡ to + length (frame_at s place)
            → Copying s table list o out' to' (k + 1)
        put-more out' to' e f =
            copying-more out' to' (e ∙ ap (λ (p : ℕ). sets out to (frame_at s p)) place_is) (f ∙ ap (λ (p : ℕ). to + length (frame_at s p)) place_is)
