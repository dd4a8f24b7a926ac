-- One piece of a text: what is given out of it, and the state that follows. The loop over blocks: what the state and the buffer hold
-- after i of them, with laws none, more, all. Assumes nothing.
use mathlib.Core.Path.{◌≡◌, refl, sym, ap, ap₂, ◌∙◌}
use mathlib.Core.List.{List, [], ◌∷◌, ◌++◌}
use Prim.Native.Nat.{ℕ, ◌+◌, ◌-◌, ◌*◌, ◌/◌, ◌≤◌, ◌<◌, min}
use native.Mathlib.Nat.{le-div_iff_mul-le, le_trans}
use native.Mathlib.Numerals.{add-one}
use native.Mathlib.Omega.{arith}
use lib.ListN.{length, take, drop, length-take, length-drop, length-append}
use lib.Seq.{take_all, take_at, take-take, take-nil, drop_at, length-take-le}
use Rattle.base_lists.specs.Buffers.{over}
use Rattle.base_lists.specs.Over.{over-length, over-whole}
use Rattle.gage_planes_spec.specs.declared.State.{State}
use Rattle.gage_planes_spec.specs.Told.{ROOM, told}
use Rattle.gage_planes_spec.specs.Bytes.{length-told, take-told}
use Rattle.gage_weave.specs.Mixing.{MixedIn}
use Rattle.gage_sponge.specs.Padding.{padded, block, block_count, last_block, LARGEST-RATE}
use Rattle.gage_sponge.proofs.Blocks.{length-last-block}
use Rattle.gage_sponge.specs.Absorbing.{xored, Run, from}
use Rattle.ingage_spec.specs.declared.Instance.{Instance}
use Rattle.ingage_spec.specs.Instances.{Fitting}
use Rattle.ingage_spec.specs.Cipher.{AFTER-ASSOCIATED, half, last_xored, absorbing, absorbed, encrypting, piece, masked, decrypting}
use Rattle.ingage_call.specs.declared.texts.Way.{Way}
use Rattle.ingage_call.specs.declared.texts.Way.TheVariants.{Absorb, Encrypt, Decrypt}
use Rattle.ingage_call.specs.Ways.{piece_block, piece_text, given, flow}
use Rattle.ingage_steps.specs.Arrays.{last_mixed, marked_block}
use Rattle.ingage_steps.specs.First.{last-told}
use Rattle.ingage_spec.specs.Masking.{masked-take, length-masked}
use Rattle.ingage_spec.specs.Pieces.{piece-starts, length-piece}
use Rattle.ingage_spec.specs.Runs.{length-encrypting, length-decrypting}
use Rattle.ingage_spec.proofs.Flows.{sealing-grows, opening-grows, length_found}
use Rattle.ingage_call.proofs.Pads.{block_of, piece-part, marked-piece}
use Rattle.ingage_call.proofs.Writing.{written}

-- a padded piece p mixed into a state s
mixed-in : (z : Instance) → Fitting z → (p b : List ℕ) (s x : State) → b ≡ last_block p → MixedIn (take z.rate b) s x
    → told z.state x ≡ xored (take z.rate (last_block p)) (told z.state s)
mixed-in z fits p b s x e f = f.each z.state fits.held ∙ rw e

-- a block of the associated data mixed into a state s
pub piece-absorbed : (z : Instance) → Fitting z → (p b : List ℕ) (s x : State) → take z.rate b ≡ marked_block z.rate p → MixedIn (take z.rate b) s x
    → told z.state x ≡ xored (marked_block z.rate p) (told z.state s)
piece-absorbed z fits p b s x e f = f.each z.state fits.held ∙ rw e

-- one piece p of a text, over a buffer o of its length: what was told there, and the state that follows
module _ (z : Instance) (fits : Fitting z) (p : List ℕ) (s : State) (short : length p ≤ z.rate) (o part : List ℕ) (fills : length o ≡ length p) where
  abbrev counterpart : List ℕ
  counterpart = masked p (told z.state s)

  -- the first bytes of y were told there
  filled-by : (y : State) (c : List ℕ) → told z.state y ≡ c → take (length p) c ≡ counterpart → part ≡ over (told (min (length o) ROOM) y) o
      → part ≡ counterpart
  filled-by y c e f g =
      let d = fits.ends in
      let h = fits.held in
      let m : min (length o) ROOM ≡ length p = omega arith in
      g ∙ rw m (over-whole (told (length p) y) o (omega (arith, length-told (length p) y))) ∙ sym (take-told (length p) z.state y (omega arith)) ∙ ap
      (take (length p)) e ∙ f

  pub piece-sealed : (b : List ℕ) (x : State) → b ≡ last_block p → MixedIn (take z.rate b) s x → part ≡ over (told (min (length o) ROOM) x) o
      → (told z.state x ≡ xored (take z.rate (last_block p)) (told z.state s)) × (part ≡ counterpart)
  unfolding last_block padded
  piece-sealed b x e f g =
      let d = fits.ends in
      let t = fits.small in
      let front : take (length p) (take z.rate b) ≡ p =
      take-take (length p) z.rate b short ∙ rw (e, take_all (LARGEST-RATE - 1) p (omega arith)) (take_at p _ (length p) refl) in
      let long : length (take z.rate b) ≡ z.rate = length-take-le z.rate b (rw e (omega (arith, length-last-block p))) in (
        mixed-in z fits p b s x e f,
        filled-by x (xored (take z.rate b) (told z.state s)) (f.each z.state fits.held)
            (masked-take (length p) (take z.rate b) (told z.state s) (omega arith) ∙ ap (λ (c : List ℕ). masked c (told z.state s)) front) g,
      )

  pub piece-opened : (b : List ℕ) (m x : State) → MixedIn p s m → part ≡ over (told (min (length o) ROOM) m) o → b ≡ last_block part
      → MixedIn (take z.rate b) s x
      → (told z.state x ≡ xored (take z.rate (last_block counterpart)) (told z.state s)) × (part ≡ counterpart)
  unfolding masked
  piece-opened b m x f g e y =
      let found : part ≡ counterpart = filled-by m (xored p (told z.state s)) (f.each z.state fits.held) refl g in
      (mixed-in z fits counterpart b s x (e ∙ ap last_block found) y, found)

-- a piece p mixed in for what its text is passed for: what each of the three calls promises is what the definitions by way say
none_left : (o : List ℕ) → length o ≡ 0 → o ≡ []
none_left [] e = refl
none_left (x ∷ o) e = absurd (omega arith)

module _ (w : Way) (n R : ℕ) (p : List ℕ) (s r : State) (o : List ℕ) where
  abbrev Goes : Type 0
  Goes = (told n r ≡ xored (piece_block w R p (told n s)) (told n s)) × (o ≡ piece_text w p (told n s))

  pub absorb-goes : w ≡ Absorb → length o ≡ given w (length p) → told n r ≡ xored (marked_block R p) (told n s) → Goes
  absorb-goes e l q = let k : length o ≡ 0 = rw e at l in rw e (q, none_left o k)

  pub encrypt-goes : w ≡ Encrypt → told n r ≡ xored (take R (last_block p)) (told n s) → o ≡ masked p (told n s) → Goes
  encrypt-goes e q t = rw e (q, t)

  pub decrypt-goes : w ≡ Decrypt → told n r ≡ xored (take R (last_block (masked p (told n s)))) (told n s) → o ≡ masked p (told n s) → Goes
  decrypt-goes e q t = rw e (q, t)

-- a text passed, by what it is passed for: after i blocks
pub record Passing (w : Way) (z : Instance) (T : List ℕ) (s : State) (o : List ℕ) (r : State) (out : List ℕ) (i : ℕ) : Type 0 where
  pub turns : i ≤ block_count z.rate T
  pub state : told z.state r ≡ (flow w z (from (told z.state s)) T i).run.state
  pub text : out ≡ over (flow w z (from (told z.state s)) T i).text o

-- none yet
none_passed : (w : Way) (z : Instance) (r : Run) (T : List ℕ) → ((flow w z r T 0).run ≡ r) × ((flow w z r T 0).text ≡ [])
unfolding absorbing encrypting decrypting
none_passed Absorb z r T = (refl, refl)
none_passed Encrypt z r T = (refl, take-nil (length T))
none_passed Decrypt z r T = (refl, refl)

pub passing-none : (w : Way) (z : Instance) (T : List ℕ) (s : State) (o : List ℕ) → Passing w z T s o s o 0
passing-none w z T s o =
    let n = none_passed w z (from (told z.state s)) T in
    record { turns = omega arith; state = rw n.0; text = rw n.1 }

module _ (z : Instance) (fits : Fitting z) (P : List ℕ) (s : State) (o : List ℕ) where
  abbrev R : ℕ
  R = z.rate

  abbrev n : ℕ
  n = z.state

  wide : R ≤ length (told n s)
  wide = let e = fits.ends in omega (arith, length-told n s)

  -- piece i, masked, reaches to the end that the code works out
  piece-end : (i end : ℕ) (state : List ℕ) → length state ≡ length (told n s) → i < block_count R P → end ≡ min (i * R + R) (length P)
      → i * R + length (masked (piece R P i) state) ≡ end
  piece-end i end state l h e =
      let k = length-piece R P i in
      let starts = piece-starts R P i h in
      let m : length (masked (piece R P i) state) ≡ length (piece R P i) = length-masked (piece R P i) state (omega (arith, wide)) in
      omega arith

  sealing-more : {r : State} {out : List ℕ} {i : ℕ} (end : ℕ) (part : List ℕ) (r' : State) → Passing Encrypt z P s o r out i → i < block_count R P
      → end ≡ min (i * R + R) (length P) → told n r' ≡ half (xored (take R (last_block (take (end - i * R) (drop (i * R) P)))) (told n r))
      → part ≡ masked (take (end - i * R) (drop (i * R) P)) (told n r)
      → Passing Encrypt z P s o r' (take (i * R) out ++ (part ++ drop (end - i * R) (drop (i * R) out))) (i + 1)
  unfolding encrypting
  sealing-more {r} {out} {i} end part r' w h e q p =
      let grows = sealing-grows R fits.moves (from (told n s)) wide P in
      let state : List ℕ = (encrypting R (from (told n s)) P i).run.state in
      let text : List ℕ = take (length P) (encrypting R (from (told n s)) P i).text in
      let next : List ℕ = masked (piece R P i) state in
      let c : take (end - i * R) (drop (i * R) P) ≡ piece R P i = piece-part R P i end (piece-starts R P i h) e in
      let long : i * R + length next ≡ end = piece-end i end state (length-encrypting R (from (told n s)) P i) h e in
      record {
        turns = omega arith;
        state = rw (add-one i) (q
            ∙ ap₂ (λ (x y : List ℕ). half (xored x y)) (rw c (block_of R P i fits.moves fits.small h)) w.state);
        text = rw (add-one i) (ap (λ (x : List ℕ). take (i * R) out ++ (x ++ drop (end - i * R) (drop (i * R) out))) (p ∙ ap₂ masked c w.state)
            ∙ written text next o out (i * R) end w.text (grows.long i h) long
            ∙ ap (λ (t : List ℕ). over t o) (sym (grows.more i h)));
      }

  -- the block of a text that just grew by its last piece x
  grown-block : (d x : List ℕ) (i : ℕ) → length d ≡ i * R → length x ≤ R → take R (last_block x) ≡ block R (d ++ x) i
  unfolding piece
  grown-block d x i l h =
      let last : piece R (d ++ x) i ≡ x = rw (drop_at d x (i * R) l) (take_all R x h) in
      let there : i ≤ length (d ++ x) / R = (le-div_iff_mul-le fits.moves).1 (omega (arith, length-append d x)) in
      ap (λ (c : List ℕ). take R (last_block c)) (sym last) ∙ block_of R (d ++ x) i fits.moves fits.small (omega arith)

  opening-more : {r : State} {out : List ℕ} {i : ℕ} (end : ℕ) (part : List ℕ) (r' : State) → Passing Decrypt z P s o r out i → i < block_count R P
      → end ≡ min (i * R + R) (length P)
      → told n r' ≡ half (xored (take R (last_block (masked (take (end - i * R) (drop (i * R) P)) (told n r)))) (told n r))
      → part ≡ masked (take (end - i * R) (drop (i * R) P)) (told n r)
      → Passing Decrypt z P s o r' (take (i * R) out ++ (part ++ drop (end - i * R) (drop (i * R) out))) (i + 1)
  unfolding decrypting
  opening-more {r} {out} {i} end part r' w h e q p =
      let grows = opening-grows R fits.moves (from (told n s)) wide P in
      let state : List ℕ = (decrypting R (from (told n s)) P i).run.state in
      let text : List ℕ = (decrypting R (from (told n s)) P i).text in
      let next : List ℕ = masked (piece R P i) state in
      let long : i * R + length next ≡ end = piece-end i end state (length-decrypting R (from (told n s)) P i) h e in
      let found : masked (take (end - i * R) (drop (i * R) P)) (told n r) ≡ next =
      ap₂ masked (piece-part R P i end (piece-starts R P i h) e) w.state in
      record {
        turns = omega arith;
        state = rw (add-one i) (q
            ∙ ap₂ (λ (x y : List ℕ). half (xored x y)) (rw found (grown-block text next i (grows.long i h) (omega arith))) w.state);
        text = rw (add-one i) (ap (λ (x : List ℕ). take (i * R) out ++ (x ++ drop (end - i * R) (drop (i * R) out))) (p ∙ found)
            ∙ written text next o out (i * R) end w.text (grows.long i h) long);
      }

  absorbing-more : {r : State} {out : List ℕ} {i : ℕ} (end : ℕ) (part : List ℕ) (r' : State) → Passing Absorb z P s o r out i → i < block_count R P
      → end ≡ min (i * R + R) (length P) → told n r' ≡ half (xored (marked_block R (take (end - i * R) (drop (i * R) P))) (told n r))
      → part ≡ [] → Passing Absorb z P s o r' (take 0 out ++ (part ++ drop (0 - 0) (drop 0 out))) (i + 1)
  unfolding absorbing
  absorbing-more {r} {out} {i} end part r' w h e q p =
      let c : take (end - i * R) (drop (i * R) P) ≡ piece R P i = piece-part R P i end (piece-starts R P i h) e in
      record {
        turns = omega arith;
        state = rw (add-one i) (q ∙ ap₂ (λ (x y : List ℕ). half (xored x y)) (rw c (marked-piece z P i fits h)) w.state);
        text = rw p w.text;
      }

  -- one more, whatever the text is passed for: the part of the buffer that the code lends is from a to b
  pub passing-more : (w : Way) {r : State} {out : List ℕ} {i : ℕ} (end a b : ℕ) (part : List ℕ) (r' : State) → Passing w z P s o r out i → i < block_count R P
      → end ≡ min (i * R + R) (length P) → a ≡ given w (i * R) → b ≡ given w end
      → told n r' ≡ half (xored (piece_block w R (take (end - i * R) (drop (i * R) P)) (told n r)) (told n r))
      → part ≡ piece_text w (take (end - i * R) (drop (i * R) P)) (told n r)
      → Passing w z P s o r' (take a out ++ (part ++ drop (b - a) (drop a out))) (i + 1)
  passing-more Absorb end a b part r' w h e f g q p = rw (f, g) (absorbing-more end part r' w h e q p)
  passing-more Encrypt end a b part r' w h e f g q p = rw (f, g) (sealing-more end part r' w h e q p)
  passing-more Decrypt end a b part r' w h e f g q p = rw (f, g) (opening-more end part r' w h e q p)

  -- no more is given out than there is of the text
  given-long : (w : Way) (i : ℕ) → length (flow w z (from (told n s)) P i).text ≤ given w (length P)
  given-long Absorb i = omega arith
  given-long Encrypt i = omega (arith, length-take (length P) (encrypting R (from (told n s)) P i).text)
  given-long Decrypt i = omega (arith, length_found R fits.moves (from (told n s)) wide P i)

  -- the buffer keeps its length
  pub length-passing : (w : Way) {r : State} {out : List ℕ} {i : ℕ} → given w (length P) ≤ length o → Passing w z P s o r out i → length out ≡ length o
  length-passing w {r} {out} {i} room p =
      ap length p.text ∙ over-length (flow w z (from (told n s)) P i).text o (le_trans (given-long w i) room)

-- after the last block
pub passing-all : {w : Way} {z : Instance} {T : List ℕ} {s : State} {o : List ℕ} {r : State} {out : List ℕ} {i : ℕ} → block_count z.rate T ≤ i
    → Passing w z T s o r out i
    → Passing w z T s o r out (block_count z.rate T)
passing-all {w} {z} {T} {s} {o} {r} {out} {i} h p = let t = p.turns in let e : i ≡ block_count z.rate T = omega arith in rw e at p

-- the part of the buffer that is lent for the piece of a text from at to end: within the buffer, and as long as what is given out for it
pub record Lent (w : Way) (a b : ℕ) (p out : List ℕ) : Type 0 where
  pub starts : a ≤ b
  pub ends : b ≤ length out
  pub fills : length (take (b - a) (drop a out)) ≡ given w (length p)

pub lent : (w : Way) (at end a b : ℕ) (m out : List ℕ) → at ≤ end → end ≤ length m → given w (length m) ≤ length out
    → a ≡ given w at → b ≡ given w end → Lent w a b (take (end - at) (drop at m)) out
lent w at end a b m out h k g e f =
    let p : length (take (end - at) (drop at m)) ≡ end - at = length-take-le (end - at) (drop at m) (rw length-drop (omega arith)) in
    by w g e f p
  where
    by : (w : Way) → given w (length m) ≤ length out → a ≡ given w at → b ≡ given w end → length (take (end - at) (drop at m)) ≡ end - at
        → Lent w a b (take (end - at) (drop at m)) out
    by Absorb g e f p = record { starts = omega arith; ends = omega arith; fills = rw (e, f) refl }
    by Encrypt g e f p = record {
      starts = omega arith;
      ends = omega arith;
      fills = rw (e, f) (length-take-le (end - at) (drop at out) (rw length-drop (omega arith)) ∙ sym p);
    }
    by Decrypt g e f p = record {
      starts = omega arith;
      ends = omega arith;
      fills = rw (e, f) (length-take-le (end - at) (drop at out) (rw length-drop (omega arith)) ∙ sym p);
    }

-- the associated data whole, and the constant after it
pub absorbed-all : (z : Instance) (A : List ℕ) (s r r' : State) → Fitting z
    → told z.state r ≡ (flow Absorb z (from (told z.state s)) A (block_count z.rate A)).run.state
    → r' ≡ last_mixed AFTER-ASSOCIATED z.state r → told z.state r' ≡ (absorbed z (from (told z.state s)) A).state
unfolding absorbed
absorbed-all z A s r r' fits e f =
    let m = fits.moves in
    let d = fits.ends in
    let h = fits.held in
    ap (told z.state) f ∙ last-told AFTER-ASSOCIATED z.state r (omega arith) (omega arith) (omega arith) ∙ ap (last_xored AFTER-ASSOCIATED) e
