-- The public calls' refusals and what they give when done, from what each step has promised. Assumes nothing.
use Rattle.std.specs.Prelude.{Ok, Err, Some, None, Option}
use mathlib.Core.Path.{◌≡◌, refl, sym, ap, ◌∙◌}
use mathlib.Core.Bool.{Bool, true, false, cond}
use mathlib.Core.List.{List, append-nil}
use Prim.Native.Nat.{ℕ, ◌+◌, ◌-◌, ◌≤◌, ◌<◌}
use native.Mathlib.Nat.{min-eq_left}
use native.Mathlib.Omega.{arith}
use lib.Dec.{eqb}
use lib.ListN.{length, take, drop, length-replicate, drop_of_length-le}
use lib.Seq.{take_all, drop_at, length-take-le, take-take, take-add}
use borrow.Author.Tests.{eqb-true, lt-ltb}
use Rattle.base_lists.specs.Buffers.{over, copied, cleared}
use Rattle.base_lists.specs.Over.{over-length}
use Rattle.gage_spec.specs.Permutation.{LARGEST}
use Rattle.gage_sponge.specs.Padding.{block_count}
use Rattle.gage_sponge.specs.Absorbing.{Run, from}
use Rattle.ingage_spec.specs.declared.Instance.{Instance}
use Rattle.ingage_answers.specs.declared.SealRefusal.TheVariants as sealed
use Rattle.ingage_answers.specs.declared.OpenRefusal.TheVariants as opened
use Rattle.ingage_spec.specs.Instances.{Fitting, named, named-fits}
use Rattle.ingage_spec.specs.Cipher.{begun, encrypting, decrypting, finished, seal_of, encrypted, decrypted, accepted}
use Rattle.ingage_answers.specs.Answers.{sized, too_long, calls_of, SealCall, seal_call, seal_named, OpenCall, open_call, open_named}
use Rattle.ingage_spec.specs.Runs.{encrypting-from, decrypting-from}
use Rattle.ingage_spec.proofs.Results.{length-seal, length-decrypted}
use Rattle.ingage_answers.specs.Naming.{seal-unnamed, open-unnamed, seal-named, open-named}
use Rattle.ingage_answers.specs.Exactly.{Within, not-too-long, seal-counted, open-counted, sealed-within, opened-within}
use Rattle.gage_planes_spec.specs.declared.State.{State}
use Rattle.gage_planes_spec.specs.Told.{told}

never : {P : Type 0} → ◌≡◌ {A = Bool} true false → P
never e = absurd (let z : ◌≡◌ {A = ℕ} 0 1 = cc e in omega arith)

all_three : (a b c : Bool) → cond a (cond b c false) false ≡ true → (a ≡ true) × (b ≡ true) × (c ≡ true)
all_three true true c e = (refl, refl, e)
all_three true false c e = never (sym e)
all_three false b c e = never (sym e)

-- a promise in parts
pub seal-met : {c x : SealCall} → c ≡ x → (x.answer ≡ c.answer) × (x.out ≡ c.out) × (x.seal ≡ c.seal)
seal-met e = (ap (λ (y : SealCall). y.answer) (sym e), ap (λ (y : SealCall). y.out) (sym e), ap (λ (y : SealCall). y.seal) (sym e))

pub open-met : {c x : OpenCall} → c ≡ x → (x.answer ≡ c.answer) × (x.out ≡ c.out)
open-met e = (ap (λ (y : OpenCall). y.answer) (sym e), ap (λ (y : OpenCall). y.out) (sym e))

module _ (z : Instance) (key nonce A text out seal : List ℕ) where
  -- refusals, in their order
  module _ (wrong : sized z (length key) (length nonce) (length seal) ≡ false) where
    pub seal-sizes : seal_call z key nonce A text out seal ≡ record { answer = Err sealed.Sizes; out = out; seal = seal }
    unfolding seal_call
    seal-sizes = rw wrong

    pub open-sizes : open_call z key nonce A text seal out ≡ record { answer = Err opened.Sizes; out = out }
    unfolding open_call
    open-sizes = rw wrong

  module _ (right : sized z (length key) (length nonce) (length seal) ≡ true) where
    module _ (long : too_long (length A) (length text) ≡ true) where
      pub seal-long : seal_call z key nonce A text out seal ≡ record { answer = Err sealed.TooLong; out = out; seal = seal }
      unfolding seal_call
      seal-long = rw (right, long)

      pub open-long : open_call z key nonce A text seal out ≡ record { answer = Err opened.TooLong; out = out }
      unfolding open_call
      open-long = rw (right, long)

    module _ (short : too_long (length A) (length text) ≡ false) where
      module _ (none : length out < length text) where
        pub seal-room : seal_call z key nonce A text out seal ≡ record { answer = Err sealed.NoRoom; out = out; seal = seal }
        unfolding seal_call
        seal-room = rw (right, short, lt-ltb (length out) (length text) none)

        pub open-room : open_call z key nonce A text seal out ≡ record { answer = Err opened.NoRoom; out = out }
        unfolding open_call
        open-room = rw (right, short, lt-ltb (length out) (length text) none)

      -- within the sizes and with room
      pub within : length text ≤ length out → Within z key nonce A text seal out
      unfolding sized
      within room =
          let s = all_three (eqb (length key) z.key) (eqb (length nonce) z.nonce) (eqb (length seal) z.seal) right in
          let l = not-too-long (length A) (length text) short in
          record {
            key-size = eqb-true (length key) z.key s.0;
            nonce-size = eqb-true (length nonce) z.nonce s.1;
            seal-size = eqb-true (length seal) z.seal s.2;
            associated = l.0;
            short = l.1;
            room = room;
          }

-- the array holds the state
pub held_in : (z : Instance) (f : List ℕ) → Fitting z → length f ≡ LARGEST → z.state ≤ length f
held_in z f fits l = let h = fits.held in omega arith

-- the seal's place in the state
pub seal-place : (z : Instance) (f : List ℕ) → Fitting z → z.state ≤ length f → take (z.rate + z.seal - z.rate) (drop z.rate f)
    ≡ seal_of z (take z.state f)
unfolding seal_of
seal-place z f fits l =
    let d = fits.ends in
    let k : z.rate + z.seal - z.rate ≡ z.seal = omega arith in
    let n : z.state ≡ z.rate + (z.state - z.rate) = omega arith in
    let r : drop z.rate (take z.state f) ≡ take (z.state - z.rate) (drop z.rate f) =
    ap (λ (x : List ℕ). drop z.rate x) (ap (λ (x : ℕ). take x f) n ∙ take-add z.rate (z.state - z.rate) f)
    ∙ drop_at (take z.rate f) (take (z.state - z.rate) (drop z.rate f)) z.rate (length-take-le z.rate f (omega arith)) in
    rw (k, r) (sym (take-take z.seal (z.state - z.rate) (drop z.rate f) (omega arith)))

-- a buffer of just a text's length is filled
pub filled : (x o : List ℕ) → length x ≡ length o → copied x o ≡ x
filled x o e = rw (take_all (length o) x (omega arith), drop_of_length-le o {i = length x} (omega arith)) (append-nil x)

-- zeros over a text that was written are zeros over what stood there before
pub cleared-over : (w o : List ℕ) (k : ℕ) → length w ≡ k → k ≤ length o → cleared k (over w o) ≡ cleared k o
cleared-over w o k l h =
    rw (over-length w o (omega arith), min-eq_left h, length-replicate, drop_at w (drop (length w) o) k l, l)

module _ (z : Instance) (fits : Fitting z) (key nonce A text seal out : List ℕ) (w : Within z key nonce A text seal out) (s : State)
    (begins : told z.state s ≡ (begun z key nonce A).state) where
  abbrev R : ℕ
  R = z.rate

  abbrev n : ℕ
  n = z.state

  abbrev k : ℕ
  k = block_count z.rate text

  abbrev start : Run
  start = begun z key nonce A

  -- sealing, step after step
  pub seal-done : (e : State) (f T out' seal' : List ℕ) (count : ℕ) → told n e ≡ (encrypting R (from (told n s)) text k).run.state
      → out' ≡ over (take (length text) (encrypting R (from (told n s)) text k).text) out
      → take n f ≡ (finished (from (told n e))).state → T ≡ seal_of z (take n f) → seal' ≡ copied T seal → count ≡ calls_of z (length A) (length text)
      → seal_call z key nonce A text out seal ≡ record { answer = Ok count; out = out'; seal = seal' }
  unfolding encrypted finished
  seal-done e f T out' seal' count state write done place put calls =
      let same = encrypting-from R start text k in
      let last : told n e ≡ (encrypting R start text k).run.state = state ∙ rw begins same.0 in
      let t : out' ≡ over (encrypted z key nonce A text).text out = write ∙ rw (begins, same.1) in
      let tag : T ≡ (encrypted z key nonce A text).seal = place ∙ ap (seal_of z) (done ∙ rw last) in
      let p : seal' ≡ (encrypted z key nonce A text).seal =
      put ∙ rw tag (filled (encrypted z key nonce A text).seal seal (length-seal z fits key nonce A w.key-size w.nonce-size text ∙ sym
      w.seal-size)) in
      let c : count ≡ (encrypted z key nonce A text).calls = calls ∙ seal-counted z key nonce A text seal out w fits.moves in
      sealed-within z key nonce A text seal out w ∙ rw (c, t, p)

  -- opening, step after step
  module _ (d : State) (f T out' : List ℕ) (count : ℕ) (state : told n d ≡ (decrypting R (from (told n s)) text k).run.state)
      (write : out' ≡ over (decrypting R (from (told n s)) text k).text out)
      (done : take n f ≡ (finished (from (told n d))).state) (place : T ≡ seal_of z (take n f)) (calls : count ≡ calls_of z (length A) (length text)) where
    -- the seal worked out, the message and the count
    worked-out : T ≡ (decrypted z key nonce A text).seal
    unfolding decrypted finished
    worked-out =
        let last : told n d ≡ (decrypting R start text k).run.state = state ∙ rw begins (decrypting-from R start text k).0 in
        place ∙ ap (seal_of z) (done ∙ rw last)

    given : out' ≡ over (decrypted z key nonce A text).text out
    unfolding decrypted
    given = write ∙ rw (begins, (decrypting-from R start text k).1)

    counted : count ≡ (decrypted z key nonce A text).calls
    counted = calls ∙ open-counted z key nonce A text seal out w fits.moves

    pub open_done : accepted T seal ≡ true
        → open_call z key nonce A text seal out ≡ record { answer = Ok count; out = out' }
    open_done t =
        let m : accepted (decrypted z key nonce A text).seal seal ≡ true = rw worked-out at t in
        opened-within z key nonce A text seal out w ∙ rw (m, counted, given)

    pub open-wrong : (zeros : List ℕ) → accepted T seal ≡ false → zeros ≡ cleared (length text) out'
        → open_call z key nonce A text seal out ≡ record { answer = Err (opened.Seal count); out = zeros }
    open-wrong zeros t e =
        let m : accepted (decrypted z key nonce A text).seal seal ≡ false = rw worked-out at t in
        let b : zeros ≡ cleared (length text) out =
        e ∙ rw given (cleared-over (decrypted z key nonce A text).text out (length text)
        (length-decrypted z fits key nonce A w.key-size w.nonce-size text) w.room) in
        opened-within z key nonce A text seal out w ∙ rw (m, counted, b)

-- what a number is found to name
module _ (i : ℕ) {r : Option Instance} (found : r ≡ named i) (key nonce A text out seal : List ℕ) where
  pub seal-unknown : r ≡ None → seal_named (named i) key nonce A text out seal ≡ record { answer = Err sealed.Instance; out = out; seal = seal }
  seal-unknown e = seal-unnamed i key nonce A text out seal (sym found ∙ e)

  pub open_unknown : r ≡ None → open_named (named i) key nonce A text seal out ≡ record { answer = Err opened.Instance; out = out }
  open_unknown e = open-unnamed i key nonce A text out seal (sym found ∙ e)

  module _ {z : Instance} (e : r ≡ Some z) where
    pub seal-known : {x : SealCall} → seal_call z key nonce A text out seal ≡ x → seal_named (named i) key nonce A text out seal ≡ x
    seal-known h = seal-named i key nonce A text out seal z (sym found ∙ e) ∙ h

    pub open-known : {x : OpenCall} → open_call z key nonce A text seal out ≡ x → open_named (named i) key nonce A text seal out ≡ x
    open-known h = open-named i key nonce A text out seal z (sym found ∙ e) ∙ h

pub fits-known : (i : ℕ) {r : Option Instance} {z : Instance} → r ≡ named i → r ≡ Some z → Fitting z
fits-known i {r} {z} found e = named-fits i z (sym found ∙ e)
