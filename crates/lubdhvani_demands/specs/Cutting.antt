-- Order W4 over the exported calls: start, any feeds and finish answer what the digest of the pieces joined answers, number and count, and leave the same
-- digest. Assumes nothing.
use Rattle.std.specs.Prelude.{◌≡◌, refl, Bool, true, false, cond, List, [], ◌∷◌, ℕ, ◌≤◌, length, Ok, Err, Result, ⊤}
use Rattle.std.proofs.Common.{sym, ap, ◌∙◌, arith, le-ltb}
use Rattle.base_lists.specs.Buffers.{over}
use Rattle.digest_spec.specs.Instances.{DIGEST, unknown}
use Rattle.digest_spec.specs.Hashing.{digest_of, digest_calls}
use Rattle.digest_call.specs.Answers.{LONGEST-MESSAGE, digest_answer, digest_out}
use Rattle.running_spec.specs.Running.{start_number, start_answer, feed_number, feed_answer, finish_answer}
use Rattle.running_spec.specs.Cutting as cutting
use Rattle.running_spec.specs.Cutting.{joined, all_done}
use Rattle.running_spec.proofs.Cutting.{any-cutting}
use Rattle.running_spec.specs.declared.Record.{Record}
use Rattle.running_spec.specs.declared.StartRefusal.{StartRefusal}
use Rattle.running_spec.specs.declared.StartRefusal.TheVariants as started-is
use Rattle.running_spec.specs.declared.FeedRefusal.{FeedRefusal}
use Rattle.lubdhvani.specs.Answers.{digested, finished}
use Rattle.lubdhvani.specs.declared.answers.Counted.{Counted}
use Rattle.lubdhvani_demands.specs.Promises.{Digests, Starts, Feeds, Finishes}

-- feed calls one after the other, with these pieces and these numbers
pub data Feeding : Record → List (List ℕ) → List ℕ → Record → Type 0 where
  none : {h : Record} → Feeding h [] [] h
  next : {h h' h'' : Record} {b : List ℕ} {bs : List (List ℕ)} {n : ℕ} {ns : List ℕ} → Feeds h b n h' → Feeding h' bs ns h'' → Feeding h (b ∷ bs) (n ∷ ns) h''

-- 0 for each piece
abbrev pub zeros : List (List ℕ) → List ℕ
zeros [] = []
zeros (b ∷ bs) = 0 ∷ zeros bs

abbrev numbers : List (Result ⊤ FeedRefusal) → List ℕ
numbers [] = []
numbers (a ∷ as') = feed_number a ∷ numbers as'

numbers-done : (bs : List (List ℕ)) → numbers (all_done bs) ≡ zeros bs
numbers-done [] = refl
numbers-done (b ∷ bs) = ap (λ (ns : List ℕ). 0 ∷ ns) (numbers-done bs)

-- the answers behind the numbers
answers : {h h' : Record} {bs : List (List ℕ)} {ns : List ℕ} → Feeding h bs ns h' → (as' : List (Result ⊤ FeedRefusal)) × cutting.Feeding h bs as' h' × (ns ≡ numbers as')
answers none = ([], cutting.none, refl)
answers (next {h} {b = b} p ps) =
    let z = answers ps in
    (feed_answer h b ∷ z.0, cutting.next (refl, p.1) z.1, cons p.0 z.2)
  where
    cons : {n m : ℕ} {l l' : List ℕ} → n ≡ m → l ≡ l' → n ∷ l ≡ m ∷ l'
    cons p q = cc

-- a start that is done was asked for an instance that there is
known_is : (i : ℕ) → start_number (start_answer i) ≡ 0 → unknown i ≡ false
unfolding start_answer
known_is i = go (unknown i) refl
  where
    go : (x : Bool) → unknown i ≡ x → start_number (cond x (Err started-is.Unknown) (Ok tt)) ≡ 0 → unknown i ≡ false
    go true p e = absurd (omega (arith, e))
    go false p e = p

-- the digest at once, where there is the instance, the message is within the limit and there is room
digest-done : (i : ℕ) (m o : List ℕ) → unknown i ≡ false → length m ≤ LONGEST-MESSAGE → DIGEST ≤ length o
    → digest_answer i m o ≡ Ok (digest_calls i m)
unfolding digest_answer
digest-done i m o known fits room = rw (known, le-ltb LONGEST-MESSAGE (length m) fits, le-ltb (length o) DIGEST room)

digest-left : (i : ℕ) (m o : List ℕ) → digest_answer i m o ≡ Ok (digest_calls i m) → digest_out i m o ≡ over (digest_of i m) o
unfolding digest_out
digest-left i m o e = rw e

module _ (i : ℕ) (h₀ : Record) {h h' h'' : Record} {n : ℕ} {ns : List ℕ} {pieces : List (List ℕ)} {c : Counted} (o : List ℕ) {o' : List ℕ}
    (start : Starts h₀ i n h) (feeds : Feeding h pieces ns h') (finish : Finishes h' o c h'' o') where
  -- start done, pieces within the limit together and room for a digest: every feed is done, and finish answers and leaves what the digest of the pieces joined
  -- answers and leaves in that buffer
  pub c-any-cutting : n ≡ 0 → length (joined pieces) ≤ LONGEST-MESSAGE → DIGEST ≤ length o → (d : Counted) (o₁ : List ℕ) → Digests i (joined pieces) o d o₁
      → (ns ≡ zeros pieces) × (c ≡ d) × (d.number ≡ 0) × (o' ≡ o₁)
  c-any-cutting e fits room d o₁ whole =
      let known = known_is i (sym start.0 ∙ e) in
      let z = answers feeds in
      let a = any-cutting i known h₀ (refl, start.1) z.1 fits o (refl, finish.1, finish.2) room in
      let done = digest-done i (joined pieces) o known fits room in
      let d-is : d ≡ record { number = 0; calls = digest_calls i (joined pieces) } = whole.0 ∙ ap digested done in (
        z.2 ∙ ap numbers a.1 ∙ numbers-done pieces,
        finish.0 ∙ ap finished a.2 ∙ sym d-is,
        ap (λ (x : Counted). x.number) d-is,
        a.3 ∙ sym (whole.1 ∙ digest-left i (joined pieces) o done),
      )
