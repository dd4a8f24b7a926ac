-- A buffer that takes a file in, part behind part, and what is known of it when the load ends. Assumes nothing.
use Rattle.std.specs.Prelude.{Err, Result}
use mathlib.Core.Path.{◌≡◌, refl, sym, ap, subst, ◌∙◌}
use mathlib.Core.Bool.{Bool, true, false, cond}
use mathlib.Core.List.{List, ◌++◌}
use Prim.Native.Nat.{ℕ, ◌+◌, ◌-◌, ◌≤◌}
use native.Mathlib.Omega.{arith}
use lib.Dec.{T, leb}
use lib.ListN.{length, take, drop, length-take, length-drop, length-append}
use lib.Seq.{sets, sets-eq, length-sets, length-take-le, drop-drop, drop_at}
use borrow.Author.Tests.{leb-true}
use borrow.Rule.Slice.PartMut.{put_mid}
use Rattle.base_lists.specs.Buffers.{copied}
use Rattle.base_lists.specs.Over.{copied_all, over-part}
use Rattle.tool_files.specs.Loading.{stepped, HeardIn, LoadedIn}
use Rattle.tool_files.specs.declared.Heard.{Heard}
use Rattle.tool_files.specs.declared.Heard.TheVariants as heard
use Rattle.tool_files.specs.declared.LoadFault.{LoadFault}
use Rattle.tool_files.specs.declared.LoadFault.TheVariants.{Long, Failed}
use Rattle.tool_files.specs.declared.Step.{Step}
use Rattle.tool_files.specs.declared.Step.TheVariants.{On, Ended}

-- a part copied behind `at` bytes of a buffer
pub copied_behind : (b : List ℕ) (at : ℕ) (part w : List ℕ) → at + length part ≤ length b → w ≡ copied part (take (length b - at) (drop at b))
    → put_mid at (length b - at) b w ≡ sets b at part
copied_behind b at part w h e =
    rw (e, copied_all part (take (length b - at) (drop at b)) (rw length-take (omega (arith, length-drop at b)))) (over-part at part b h)

-- a buffer that held o has taken in `done` bytes and holds b
pub record Taken (o b : List ℕ) (done : ℕ) : Type 0 where
  pub same : length b ≡ length o
  pub within : done ≤ length b
  pub rest : drop done b ≡ drop done o

pub taken_none : (o : List ℕ) → Taken o o 0
taken_none o = record { same = refl; within = omega arith; rest = refl }

behind : (b part : List ℕ) (done : ℕ) → done + length part ≤ length b → drop (done + length part) (sets b done part) ≡ drop (done + length part) b
behind b part done h =
    let l : length (take done b ++ part) ≡ done + length part = length-append (take done b) part ∙ ap (λ (n : ℕ). n + length part)
    (length-take-le done b (omega (arith, h))) in
    rw (sets-eq part b done h) (drop_at (take done b ++ part) (drop (done + length part) b) (done + length part) l)

taken_more : {o b : List ℕ} {done : ℕ} → Taken o b done → (part : List ℕ) → done + length part ≤ length b → Taken o (sets b done part) (done + length part)
taken_more {o} {b} {done} t part fits =
    record {
      same = length-sets b done part ∙ t.same;
      within = rw (length-sets b done part) fits;
      rest = behind b part done fits ∙ sym (drop-drop (length part) done b) ∙ ap (drop (length part)) t.rest ∙ drop-drop (length part) done o;
    }

-- the part of a chunk that brings the load from `done` to n bytes
module _ (done n : ℕ) (chunk b : List ℕ) (w : (done ≤ n) × (n - done ≤ length chunk) × (n ≤ length b)) where
  to-n : done + length (take (n - done - 0) chunk) ≡ n
  to-n = omega (arith, w.0, length-take-le (n - done - 0) chunk (omega (arith, w.1)))

  pub fits : done + length (take (n - done - 0) chunk) ≤ length b
  fits = omega (arith, to-n, w.2)

  pub taken-on : {o b' : List ℕ} → Taken o b done → b' ≡ sets b done (take (n - done - 0) chunk) → Taken o b' n
  taken-on {o} {b'} t e = rw e (subst (Taken o (sets b done (take (n - done - 0) chunk))) to-n (taken_more t (take (n - done - 0) chunk) fits))

is_on : Step → Bool
is_on (On n) = true
is_on (Ended l) = false

on_of : Step → ℕ
on_of (On n) = n
on_of (Ended l) = 0

-- where a load goes on, it has no fewer bytes than before, no more of them new than were heard, and all of them within the buffer
pub went : (done room most n : ℕ) (h : Heard) → stepped done room h ≡ On n → HeardIn h most → done ≤ room → (done ≤ n) × (n - done ≤ most) × (n ≤ room)
unfolding stepped is_on on_of
went done room most n (heard.Some k) e i f = go (leb (done + k) room) refl e
  where
    go : (t : Bool) → leb (done + k) room ≡ t → cond t (On (done + k)) (Ended (Err Long)) ≡ On n → (done ≤ n) × (n - done ≤ most) × (n ≤ room)
    go true p q = let m = ap on_of q in let l = leb-true (done + k) room p in (omega (arith, m), omega (arith, m, i), omega (arith, m, l))
    go false p q = absurd (subst T (sym (ap is_on q)) tt)
went done room most n heard.Again e i f = let m = ap on_of e in (omega (arith, m), omega (arith, m), omega (arith, m, f))
went done room most n heard.End e i f = absurd (subst T (sym (ap is_on e)) tt)
went done room most n heard.Failed e i f = absurd (subst T (sym (ap is_on e)) tt)

end_of : Step → Result ℕ LoadFault
end_of (On n) = Err Failed
end_of (Ended l) = l

-- where it ends, what is known of the buffer
pub came : {o b : List ℕ} {done : ℕ} → Taken o b done → (room : ℕ) (l : Result ℕ LoadFault) (h : Heard) → stepped done room h ≡ Ended l → LoadedIn l o b
unfolding stepped is_on end_of
came {o} {b} {done} t room l (heard.Some k) e = go (leb (done + k) room) e
  where
    go : (u : Bool) → cond u (On (done + k)) (Ended (Err Long)) ≡ Ended l → LoadedIn l o b
    go true q = absurd (subst T (ap is_on q) tt)
    go false q = subst (λ (x : Result ℕ LoadFault). LoadedIn x o b) (ap end_of q) tt
came {o} {b} {done} t room l heard.Again e = absurd (subst T (ap is_on e) tt)
came {o} {b} {done} t room l heard.End e = subst (λ (x : Result ℕ LoadFault). LoadedIn x o b) (ap end_of e) (t.within, t.rest)
came {o} {b} {done} t room l heard.Failed e = subst (λ (x : Result ℕ LoadFault). LoadedIn x o b) (ap end_of e) tt
