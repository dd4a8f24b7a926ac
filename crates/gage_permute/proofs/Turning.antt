-- The loop of the inverse: which turns are left. Assumes nothing.
use mathlib.Core.Path.{◌≡◌, refl, sym, ap, ◌∙◌}
use mathlib.Core.List.{List, ◌∷◌, ◌++◌}
use Prim.Native.Nat.{ℕ, suc, ◌-◌, ◌%◌, ◌≤◌, ◌<◌}
use native.Mathlib.Nat.{mod-eq_of_lt}
use native.Mathlib.Omega.{arith}
use lib.ListN.{length, get_or, take, drop, take-append-drop, drop_of_length-le}
use lib.Seq.{length-take-le, take_at, drop_at, drop-cons}
use Rattle.gage_cells.specs.Sizes.{LARGEST}
use Rattle.gage_cells.specs.Cells.{table, restore, on_first}
use Rattle.gage_shuffle.specs.Sizes.{SMALLEST}
use Rattle.gage_shuffle.specs.Shuffling.{unshuffle}
use Rattle.gage_shuffle.specs.Widths.{where_wide, where-wide}
use Rattle.gage_spec.specs.Permutation.{unturns, unpermute_by}

-- b is a state a whose first n bytes were changed by f
pub record Changed (f : List ℕ → List ℕ) (n : ℕ) (a b : List ℕ) : Type 0 where
  pub first : take n b ≡ f (take n a)
  pub rest : drop n b ≡ drop n a
  pub long : n ≤ length b

-- what a call on the first n bytes gives, for an f that keeps lengths
changed : (f : List ℕ → List ℕ) → ((s : List ℕ) → length (f s) ≡ length s) → (n : ℕ) (a b : List ℕ)
    → n ≤ length a → b ≡ f (take n a) ++ drop n a → n ≤ length b → Changed f n a b
changed f keeps n a b h e g =
    let l : length (f (take n a)) ≡ n = keeps (take n a) ∙ length-take-le n a h in
    record { first = rw e (take_at (f (take n a)) (drop n a) n l); rest = rw e (drop_at (f (take n a)) (drop n a) n l); long = g }

-- what a call with a leader gives: the leader is a cell
pub by-leader : (f : ℕ → List ℕ → List ℕ) → ((l : ℕ) (s : List ℕ) → length (f l s) ≡ length s) → (l n : ℕ) (a b : List ℕ)
    → l < 4 → n ≤ length a → b ≡ on_first n (f (l % 4)) a → n ≤ length b → Changed (f l) n a b
by-leader f keeps l n a b c h e g = changed (f l) (keeps l) n a b h (let m : l % 4 ≡ l = mod-eq_of_lt c in rw m at e) g

-- what a call that shuffles gives: the state is wide
pub by_width : (f : List ℕ → List ℕ) → ((s : List ℕ) → length (f s) ≡ length s) → (n : ℕ) (a b : List ℕ)
    → SMALLEST ≤ n → n ≤ LARGEST → n ≤ length a → b ≡ where_wide n (on_first n f a) a → n ≤ length b → Changed f n a b
by_width f keeps n a b w x h e g = changed f keeps n a b h (e ∙ where-wide n (on_first n f a) a w x) g

-- and back
pub whole : {f : List ℕ → List ℕ} {n : ℕ} {a b : List ℕ} → Changed f n a b → b ≡ f (take n a) ++ drop n a
whole {f} {n} {a} {b} c = sym (take-append-drop n b) ∙ rw (c.first, c.rest)

-- of the inverse: the turns of the leaders from i on are undone
pub record Undone (ls : List ℕ) (n : ℕ) (s a : List ℕ) (i : ℕ) : Type 0 where
  pub begun : 1 ≤ i
  pub turn : i ≤ length ls
  pub fits : n ≤ length a
  pub same : take n a ≡ unturns (drop i ls) (take n s)
  pub rest : drop n a ≡ drop n s

pub undone-none : (ls : List ℕ) (n : ℕ) (s : List ℕ) (i : ℕ) → n ≤ length s → 1 ≤ i → length ls ≡ i → Undone ls n s s i
unfolding unturns
undone-none ls n s i h g e =
    record {
      begun = g;
      turn = omega arith;
      fits = h;
      same = rw (drop_of_length-le ls (let q : length ls ≤ i = omega arith in q));
      rest = refl;
    }

pub undone-more : {ls s a : List ℕ} {n i : ℕ} (l : ℕ) (b v : List ℕ) → Undone ls n s a i → 1 < i → l ≡ get_or ls (i - 1) 0
    → Changed (restore table l) n a b → Changed unshuffle n b v → Undone ls n s v (i - 1)
unfolding unturns
undone-more {ls} {s} {a} {n} {i} l b v inv h w p q =
    let g : i ≤ length ls = inv.turn in
    let k : suc (i - 1) ≡ i = omega arith in
    let split : drop (i - 1) ls ≡ get_or ls (i - 1) 0 ∷ drop i ls =
    drop-cons ls (i - 1) 0 (omega arith) ∙ ap (λ (m : ℕ). get_or ls (i - 1) 0 ∷ drop m ls) k in
    let next : unturns (drop (i - 1) ls) (take n s) ≡ unshuffle (restore table (get_or ls (i - 1) 0) (unturns (drop i ls) (take n s))) =
    ap (λ (x : List ℕ). unturns x (take n s)) split in
    record {
      begun = omega arith;
      turn = omega arith;
      fits = q.long;
      same = q.first ∙ ap unshuffle (p.first ∙ ap (restore table l) inv.same ∙ rw w) ∙ sym next;
      rest = q.rest ∙ p.rest ∙ inv.rest;
    }

pub undone-all : {ls s a : List ℕ} {n i : ℕ} (l : ℕ) (v : List ℕ) → Undone ls n s a i → i ≤ 1 → l ≡ get_or ls 0 0
    → Changed (restore table l) n a v → v ≡ unpermute_by ls (take n s) ++ drop n s
unfolding unturns unpermute_by
undone-all {ls} {s} {a} {n} {i} l v inv h w p =
    let b : 1 ≤ i = inv.begun in
    let t : i ≤ length ls = inv.turn in
    let one : i ≡ 1 = omega arith in
    let to-first : unpermute_by ls (take n s) ≡ restore table l (unturns (drop 1 ls) (take n s)) =
    ap (λ (x : List ℕ). unpermute_by x (take n s)) (drop-cons ls 0 0 (omega arith)) ∙ rw w in
    whole p ∙ rw (inv.rest, inv.same, one, to-first)
