-- Numbers and window after some bytes, a byte at a time: they are those of the bytes received, what was given is what is read of them, and what is
-- still to come is read from the mark before the unfinished stretch. Over any way to judge a stretch's bytes. Assumes nothing.
use Rattle.std.specs.Prelude.{◌≡◌, refl, cond, eqb, take, drop}
use Rattle.std.proofs.Common.{sym, ◌∙◌, length-append, take-suc-set}
use Rattle.std.proofs.Math.Path.{ap}
use Rattle.std.proofs.Math.Bool.{true, false}
use mathlib.Core.List.{List, [], ◌∷◌, ◌++◌, append_assoc, append-nil}
use Prim.Native.Nat.{ℕ, suc, ◌+◌, ◌-◌, ◌≤◌, ◌<◌}
use native.Mathlib.Omega.{arith}
use Rattle.std.proofs.Math.Dec.{ltb}
use Rattle.std.proofs.Math.ListN.{length, get_or, get_or-append}
use Rattle.std.proofs.lemmas.List.{drop-append-le}
use Rattle.std.proofs.Math.Seq.{get_or-append_seam}
use borrow.Author.Tests.{eq-eqb, ne_eqb, lt-ltb, le-leb, ltb-true, ltb-false}
use Rattle.base_lists.specs.Never.{never}
use Rattle.frame_stuff_spec.specs.Stuffing.{mark, longest_stretch}
use Rattle.read_stretch.specs.Stretches.{span}
use Rattle.read_stretch.specs.Meaning.{NoMark, Stretch}
use Rattle.read_spec.specs.Judged.{Judged}
use Rattle.read_readings.specs.Readings.{Reading, reading, readings}
use Rattle.read_readings.specs.Resync.{Mark}
use Rattle.live_spec.specs.declared.Numbers.{Numbers}
use Rattle.live_spec.specs.Taking.{no_bytes, possible, unfinished, closes, behind_mark, behind_byte, kept}
use Rattle.live_spec.specs.Ends.{before_first, since_mark, behind_last, ends_of, ends_answer}
use Rattle.live_spec.specs.Marks.{clear-more, stands, clear-end, passed, opened, unclosed, closed-bytes, ends_from, ends-byte, ends-mark}
use Rattle.live_spec.specs.After.{Marked, State, unmarked, marked, After}

pub after_none : (judge : List ℕ → Judged) (w : List ℕ) → length w ≡ longest_stretch → After judge [] no_bytes w []
unfolding ends_from
after_none judge w h = record {
  received_is = refl;
  room = h;
  state = unmarked (record { no-mark = refl; no_place = refl; no-first = refl; clear = clear-end [] 0 (omega arith) });
  reads = λ more. refl;
  ends = λ more. let z : 0 + before_first more ≡ before_first more = omega arith in rw z;
}

module _ {judge : List ℕ → Judged} {s : List ℕ} {n : Numbers} {w : List ℕ} {g : List Reading} (a : After judge s n w g) where
  order-in : State s n w → n.first ≤ n.received
  order-in (unmarked u) = omega (arith, u.no-first)
  order-in (marked m) = omega (arith, m.within, a.received_is)

  pub first-within : n.first ≤ n.received
  first-within = order-in a.state

  possible-in : State s n w → possible n ≡ true
  unfolding possible
  possible-in (unmarked u) = rw (eq-eqb n.marked 0 u.no-mark, eq-eqb n.mark 0 u.no_place) (eq-eqb n.first 0 u.no-first)
  possible-in (marked m) =
      rw (ne_eqb n.marked 0 (λ z. omega (arith, z, m.one-mark)), eq-eqb n.marked 1 m.one-mark, lt-ltb n.mark n.first m.behind)
      (le-leb n.first n.received first-within)

  -- numbers that a taking-in gives
  pub possible-is : possible n ≡ true
  possible-is = possible-in a.state

  clear_in : State s n w → NoMark s n.first (length s)
  clear_in (unmarked u) = rw u.no-first u.clear
  clear_in (marked m) = m.clear

  -- all that is read of the bytes so far was given
  pub read_all : readings judge s 0 ≡ g
  read_all =
      let e : s ++ [] ≡ s = append-nil s in
      ap (λ (x : List ℕ). readings judge x 0) (sym e)
      ∙ a.reads []
      ∙ rw e (rw (unclosed judge s n.first (clear_in a.state)) (append-nil g))

  -- and the last call would tell what was cut off of them
  pub ends-told : ends_answer n ≡ ends_of s
  unfolding ends_answer ends_from before_first behind_last since_mark
  ends-told =
      let e : s ++ [] ≡ s = append-nil s in
      let u : n.received + 0 ≡ n.received = omega arith in
      rw possible-is (sym (ap ends_of (sym e) ∙ a.ends [] ∙ rw u))

  module _ (b : ℕ) where
    snoc : (more : List ℕ) → s ++ (b ∷ []) ++ more ≡ s ++ (b ∷ more)
    snoc more = append_assoc s (b ∷ []) more

    long : length (s ++ (b ∷ [])) ≡ length s + 1
    long = length-append s (b ∷ [])

    -- a byte that is no mark
    module _ (m : b ≡ mark → ⊥) where
      held_more : Marked s n w → length (s ++ (b ∷ [])) - n.first ≤ longest_stretch
          → take (length (s ++ (b ∷ [])) - n.first) (kept n w b) ≡ drop n.first (s ++ (b ∷ []))
      unfolding kept
      held_more x h =
          let k = length s - n.first in
          let k-is : unfinished n ≡ k = ap (λ (i : ℕ). i - n.first) a.received_is in
          let many : length (s ++ (b ∷ [])) - n.first ≡ suc k = omega (arith, long, x.within) in
          let few : k < longest_stretch = omega (arith, many, h) in
          rw (many, ne_eqb n.marked 0 (λ z. omega (arith, z, x.one-mark)), k-is, lt-ltb k longest_stretch few)
          (take-suc-set w k b (omega (arith, few, a.room)) ∙ rw (x.held (omega (arith, few))) (sym (drop-append-le n.first s (b ∷ []) x.within)))

      state-byte : State s n w → State (s ++ (b ∷ [])) (behind_byte n) (kept n w b)
      state-byte (unmarked u) =
          unmarked (record { no-mark = u.no-mark; no_place = u.no_place; no-first = u.no-first; clear = clear-more s b 0 u.clear m })
      state-byte (marked x) = marked (record {
        one-mark = x.one-mark;
        behind = x.behind;
        within = omega (arith, x.within, long);
        opens = stands s b (n.first - 1) (omega (arith, x.behind, x.within)) x.opens;
        clear = clear-more s b n.first x.clear m;
        held = held_more x;
      })

      pub after-byte : length (kept n w b) ≡ length w → After judge (s ++ (b ∷ [])) (behind_byte n) (kept n w b) g
      after-byte k = record {
        received_is = omega (arith, a.received_is, long);
        room = k ∙ a.room;
        state = state-byte a.state;
        reads = λ more. rw (snoc more) (a.reads (b ∷ more));
        ends = λ more. rw (snoc more) (a.ends (b ∷ more) ∙ ends-byte n b more first-within m);
      }

    -- a mark
    module _ (m : b ≡ mark) where
      -- it stands behind what was received, whatever comes
      at-end : (more : List ℕ) → Mark (s ++ (b ∷ more)) (length s)
      at-end more = record { inside = omega (arith, length-append s (b ∷ more)); stands = get_or-append_seam s b more 0 ∙ m }

      before : (more : List ℕ) (k : ℕ) → k < length s → get_or (s ++ (b ∷ more)) k 0 ≡ get_or s k 0
      before more k h = get_or-append s (b ∷ more) 0 k h

      state-mark : State s n w → State (s ++ (b ∷ [])) (behind_mark n) w
      unfolding behind_mark
      state-mark x = marked (record {
        one-mark = refl;
        behind = first-mark x;
        within = omega (arith, a.received_is, long);
        opens = ap (λ (k : ℕ). get_or (s ++ (b ∷ [])) k 0) place ∙ get_or-append_seam s b [] 0 ∙ m;
        clear = clear-end (s ++ (b ∷ [])) (n.received + 1) (omega (arith, a.received_is, long));
        held = λ h. nothing;
      })
        where
          place : n.received + 1 - 1 ≡ length s
          place = omega (arith, a.received_is)

          first-mark : State s n w → cond (eqb n.marked 0) n.received n.mark < n.received + 1
          first-mark (unmarked u) = rw (eq-eqb n.marked 0 u.no-mark) (omega arith)
          first-mark (marked y) =
              rw (ne_eqb n.marked 0 (λ z. omega (arith, z, y.one-mark))) (omega (arith, y.behind, first-within))

          nothing : take (length (s ++ (b ∷ [])) - (n.received + 1)) w ≡ drop (n.received + 1) (s ++ (b ∷ []))
          nothing =
              let e : n.received + 1 ≡ length (s ++ (b ∷ [])) = omega (arith, a.received_is, long) in
              let z : length (s ++ (b ∷ [])) - length (s ++ (b ∷ [])) ≡ 0 = omega arith in
              rw (e, z) (sym (drop_all (s ++ (b ∷ []))))
            where
              drop_all : (l : List ℕ) → drop (length l) l ≡ []
              drop_all [] = refl
              drop_all (x ∷ l) = drop_all l

      received-mark : (behind_mark n).received ≡ length (s ++ (b ∷ []))
      unfolding behind_mark
      received-mark = omega (arith, a.received_is, long)

      -- where it stands, and what is to come is read from it
      behind-it : (behind_mark n).first - 1 ≡ length s
      unfolding behind_mark
      behind-it = omega (arith, a.received_is)

      -- it closes no stretch
      still : closes n ≡ false → State s n w → (more : List ℕ) → readings judge (s ++ (b ∷ more)) (n.first - 1) ≡ readings judge (s ++ (b ∷ more)) (length s)
      unfolding closes
      still c (unmarked u) more =
          let z : n.first - 1 ≡ 0 = omega (arith, u.no-first) in
          rw z
          (passed judge (s ++ (b ∷ more)) 0 (length s) (omega arith) (at-end more)
          (λ i e h x l. u.clear (i - 1) (omega arith) (omega (arith, x.some, l, h)) (sym (before more (i - 1) (omega (arith, x.some, l, h))) ∙ x.opens)))
      still c (marked y) more =
          let q : ltb n.first n.received ≡ false = rw (ne_eqb n.marked 0 (λ z. omega (arith, z, y.one-mark))) at c in
          let f : n.first ≡ length s = omega (arith, ltb-false n.first n.received q, y.within, a.received_is) in
          passed judge (s ++ (b ∷ more)) (n.first - 1) (length s) (omega (arith, f)) (at-end more) (λ i e h x l. omega (arith, f, h, x.some, l, y.behind))

      pub after-mark : closes n ≡ false → After judge (s ++ (b ∷ [])) (behind_mark n) w g
      after-mark c = record {
        received_is = received-mark;
        room = a.room;
        state = state-mark a.state;
        reads = λ more. rw (snoc more, behind-it) (a.reads (b ∷ more) ∙ ap (λ (x : List Reading). g ++ x) (still c a.state more));
        ends = λ more. rw (snoc more) (a.ends (b ∷ more) ∙ ends-mark n b more m);
      }

      -- it closes one
      module _ (c : closes n ≡ true) where
        is-marked : State s n w → Marked s n w × (n.first < length s)
        unfolding closes
        is-marked (unmarked u) = never (rw (eq-eqb n.marked 0 u.no-mark) at c)
        is-marked (marked y) =
            let q : ltb n.first n.received ≡ true = rw (ne_eqb n.marked 0 (λ z. omega (arith, z, y.one-mark))) at c in
            (y, omega (arith, ltb-true n.first n.received q, a.received_is))

        pub the-marked : Marked s n w
        the-marked = (is-marked a.state).0

        pub some_bytes : n.first < length s
        some_bytes = (is-marked a.state).1

        stretch : (more : List ℕ) → Stretch (s ++ (b ∷ more)) n.first (length s)
        stretch more =
            let y = the-marked in
            record {
              behind = omega (arith, y.behind);
              opens = before more (n.first - 1) (omega (arith, some_bytes)) ∙ y.opens;
              some = some_bytes;
              ends = (at-end more).inside;
              closes = (at-end more).stands;
              clear = λ k l h e. y.clear k l h (sym (before more k h) ∙ e);
            }

        -- the reading
        abbrev pub closed : Reading
        closed = reading (span n.first (length s)) (judge (drop n.first s))

        one-read : (more : List ℕ) → readings judge (s ++ (b ∷ more)) (n.first - 1) ≡ closed ∷ readings judge (s ++ (b ∷ more)) (length s)
        one-read more =
            opened judge (s ++ (b ∷ more)) n.first (length s) (stretch more)
            ∙ rw (closed-bytes s n.first (b ∷ more) (omega (arith, some_bytes)))

        pub after-closed : After judge (s ++ (b ∷ [])) (behind_mark n) w (g ++ (closed ∷ []))
        after-closed = record {
          received_is = received-mark;
          room = a.room;
          state = state-mark a.state;
          reads = λ more.
              rw (snoc more, behind-it)
              (a.reads (b ∷ more)
              ∙ ap (λ (x : List Reading). g ++ x) (one-read more)
              ∙ sym (append_assoc g (closed ∷ []) (readings judge (s ++ (b ∷ more)) (length s))));
          ends = λ more. rw (snoc more) (a.ends (b ∷ more) ∙ ends-mark n b more m);
        }
