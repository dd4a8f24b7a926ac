-- Demand 2 in document 01's words, of what the public calls promise (`seal_call`, `open_call`; ingage_call/proofs/Contracts.antt): on bytes, within the
-- sizes and with room, open answers done exactly when ciphertext and seal are what seal makes of some message, and then gives that message.
-- `Bytes` is a premise of these lists; that what `open` is passed meets it by its type is `open-bytes` in demand_reading/specs/Bytes.antt. Assumes nothing.
use Rattle.std.specs.Prelude.{◌≡◌, refl, Bool, true, false, not, cond, ◌↔◌, List, ℕ, ◌≤◌, ltb, length, Ok, Err}
use Rattle.std.proofs.Common.{sym, ap, ◌∙◌, arith}
use borrow.Author.Tests.{eq-eqb, le-ltb, ltb-false}
use Rattle.base_lists.specs.Never.{never}
use Rattle.base_lists.specs.Below.{Below}
use Rattle.base_lists.specs.Buffers.{over, cleared}
use Rattle.base_lists.specs.Over.{over-whole}
use Rattle.ingage_spec.specs.declared.Instance.{Instance}
use Rattle.ingage_answers.specs.declared.OpenRefusal.TheVariants as opened
use Rattle.ingage_spec.specs.Instances.{Fitting}
use Rattle.ingage_spec.specs.Cipher.{Work, encrypted, decrypted, accepted}
use Rattle.ingage_spec.proofs.RoundTrip.{seal-open, exactly, accepted-refl, accepted-eq}
use Rattle.ingage_spec.proofs.Results.{seal-calls, open-calls, length-encrypted, length-decrypted, decrypted-below}
use Rattle.ingage_answers.specs.Answers.{seal_count, open_count, LONGEST-ASSOCIATED, LONGEST-TEXT, sized, too_long}
use Rattle.ingage_answers.specs.Answers.{calls_of, SealCall, seal_call, OpenCall, open_call}

-- seal makes C and T of P, in any buffers of just their lengths
abbrev pub Makes : Instance → List ℕ → List ℕ → List ℕ → List ℕ → List ℕ → List ℕ → ℕ → Type 0
Makes z key nonce A P C T n =
    (out seal : List ℕ) → Below 256 out → Below 256 seal → length out ≡ length C → length seal ≡ length T
    → seal_call z key nonce A P out seal ≡ record { answer = Ok n; out = C; seal = T }

-- key, nonce and seal have their sizes, nothing is too long, and there is room for the text
pub record Within (z : Instance) (key nonce A text seal out : List ℕ) : Type 0 where
  pub key-size : length key ≡ z.key
  pub nonce-size : length nonce ≡ z.nonce
  pub seal-size : length seal ≡ z.seal
  pub associated : length A ≤ LONGEST-ASSOCIATED
  pub short : length text ≤ LONGEST-TEXT
  pub room : length text ≤ length out

-- what open is given is bytes
pub record Bytes (key nonce A C T : List ℕ) : Type 0 where
  pub key-bytes : Below 256 key
  pub nonce-bytes : Below 256 nonce
  pub associated-bytes : Below 256 A
  pub cipher-bytes : Below 256 C
  pub seal-bytes : Below 256 T

-- lengths that are not too long
pub not-too-long : (assoc text : ℕ) → too_long assoc text ≡ false → (assoc ≤ LONGEST-ASSOCIATED) × (text ≤ LONGEST-TEXT)
unfolding too_long
not-too-long assoc text = go (ltb LONGEST-ASSOCIATED assoc) refl
  where
    go : (a : Bool) → ltb LONGEST-ASSOCIATED assoc ≡ a → cond a true (ltb LONGEST-TEXT text) ≡ false → (assoc ≤ LONGEST-ASSOCIATED) × (text ≤ LONGEST-TEXT)
    go true p e = never (sym e)
    go false p e = (ltb-false LONGEST-ASSOCIATED assoc p, ltb-false LONGEST-TEXT text e)

module _ (z : Instance) (key nonce A text seal out : List ℕ) (w : Within z key nonce A text seal out) where
  sizes-right : sized z (length key) (length nonce) (length seal) ≡ true
  unfolding sized
  sizes-right =
      rw (eq-eqb (length key) z.key w.key-size, eq-eqb (length nonce) z.nonce w.nonce-size)
      (eq-eqb (length seal) z.seal w.seal-size)

  not-long : too_long (length A) (length text) ≡ false
  unfolding too_long
  not-long = rw (le-ltb LONGEST-ASSOCIATED (length A) w.associated) (le-ltb LONGEST-TEXT (length text) w.short)

  -- the calls counted are those of the algorithms, where a block has a byte
  module _ (moves : 1 ≤ z.rate) where
    pub seal-counted : calls_of z (length A) (length text) ≡ (encrypted z key nonce A text).calls
    unfolding calls_of
    seal-counted = rw (le-ltb z.rate 1 moves, not-long) (sym (seal-calls z key nonce A text))

    pub open-counted : calls_of z (length A) (length text) ≡ (decrypted z key nonce A text).calls
    unfolding calls_of
    open-counted = rw (le-ltb z.rate 1 moves, not-long) (sym (open-calls z key nonce A text))

  pub sealed-within : seal_call z key nonce A text out seal ≡ record {
    answer = Ok (encrypted z key nonce A text).calls;
    out = over (encrypted z key nonce A text).text out;
    seal = (encrypted z key nonce A text).seal;
  }
  unfolding seal_call
  sealed-within = rw (sizes-right, not-long, le-ltb (length out) (length text) w.room)

  pub opened-within : open_call z key nonce A text seal out ≡ cond (not (accepted (decrypted z key nonce A text).seal seal))
      (record { answer = Err (opened.Seal (decrypted z key nonce A text).calls); out = cleared (length text) out })
      (record { answer = Ok (decrypted z key nonce A text).calls; out = over (decrypted z key nonce A text).text out })
  unfolding open_call
  opened-within = rw (sizes-right, not-long, le-ltb (length out) (length text) w.room)

module _ (z : Instance) (fits : Fitting z) (key nonce A C T out : List ℕ) (w : Within z key nonce A C T out) (b : Bytes key nonce A C T) where
  -- seal makes what the algorithm works out
  makes : (P : List ℕ) (n : ℕ) → length P ≡ length C → encrypted z key nonce A P ≡ record { text = C; seal = T; calls = n } → Makes z key nonce A P C T n
  makes P n l e o s ob sb ol sl =
      sealed-within z key nonce A P s o (record {
        key-size = w.key-size;
        nonce-size = w.nonce-size;
        seal-size = sl ∙ w.seal-size;
        associated = w.associated;
        short = rw l w.short;
        room = omega arith;
      })
      ∙ rw (e, over-whole C o (omega arith))

  made : (P : List ℕ) (n : ℕ) → length P ≡ length C → Makes z key nonce A P C T n → encrypted z key nonce A P ≡ record { text = C; seal = T; calls = n }
  made P n l m =
      let p : seal_call z key nonce A P C T ≡ record { answer = Ok n; out = C; seal = T } = m C T b.cipher-bytes b.seal-bytes refl refl in
      let q = sealed-within z key nonce A P T C (record {
        key-size = w.key-size;
        nonce-size = w.nonce-size;
        seal-size = w.seal-size;
        associated = w.associated;
        short = rw l w.short;
        room = omega arith;
      }) in
      let e = sym q ∙ p in
      let long : length (encrypted z key nonce A P).text ≡ length P = length-encrypted z fits key nonce A w.key-size w.nonce-size P in
      work-eq (encrypted z key nonce A P) (sym (over-whole (encrypted z key nonce A P).text C (omega arith)) ∙ ap (λ (x : SealCall). x.out) e)
      (ap (λ (x : SealCall). x.seal) e) (ap (λ (x : SealCall). seal_count x.answer) e)
    where
      work-eq : (x : Work) {c t : List ℕ} {k : ℕ} → x.text ≡ c → x.seal ≡ t → x.calls ≡ k → x ≡ record { text = c; seal = t; calls = k }
      work-eq x e f g = rw (← e, ← f, ← g)

  -- where open finds the seal of a message
  opens : (P : List ℕ) (n : ℕ) → encrypted z key nonce A P ≡ record { text = C; seal = T; calls = n }
      → open_call z key nonce A C T out ≡ record { answer = Ok n; out = over P out }
  opens P n e =
      opened-within z key nonce A C T out w
      ∙ rw ((exactly z fits key nonce A w.key-size w.nonce-size P C T n).0 e, accepted-refl T)

  -- open gives the message of which seal makes C and T
  pub open_gives : (P : List ℕ) (n : ℕ) → length P ≡ length C → Makes z key nonce A P C T n
      → open_call z key nonce A C T out ≡ record { answer = Ok n; out = over P out }
  open_gives P n l m = opens P n (made P n l m)

  -- and answers done only where there is one
  pub open-found : (n : ℕ) → (open_call z key nonce A C T out).answer ≡ Ok n
      → (P : List ℕ) × Below 256 P × (length P ≡ length C) × Makes z key nonce A P C T n
  open-found n e =
      by-seal (accepted (decrypted z key nonce A C).seal T) refl
      (ap (λ (x : OpenCall). x.answer) (sym (opened-within z key nonce A C T out w)) ∙ e)
    where
      by-seal : (t : Bool) → accepted (decrypted z key nonce A C).seal T ≡ t
          → (cond {A = OpenCall} (not t) (record { answer = Err (opened.Seal (decrypted z key nonce A C).calls); out = cleared (length C) out })
          (record { answer = Ok (decrypted z key nonce A C).calls; out = over (decrypted z key nonce A C).text out })).answer ≡ Ok n
          → (P : List ℕ) × Below 256 P × (length P ≡ length C) × Makes z key nonce A P C T n
      by-seal true s d =
          let P : List ℕ = (decrypted z key nonce A C).text in
          let l = length-decrypted z fits key nonce A w.key-size w.nonce-size C in
          let bytes = decrypted-below z key nonce A b.key-bytes b.nonce-bytes b.associated-bytes C b.cipher-bytes in
          let calls : (decrypted z key nonce A C).calls ≡ n = ap open_count d in (
            P,
            bytes,
            l,
            makes P n l (seal-open z fits key nonce A w.key-size w.nonce-size C ∙ rw
                (accepted-eq (decrypted z key nonce A C).seal T s, calls) refl),
          )
      by-seal false s d = absurd (let i : ◌≡◌ {A = ℕ} 0 1 = cc d in omega arith)

  pub open-exactly : ((n : ℕ) × ((open_call z key nonce A C T out).answer ≡ Ok n))
      ↔ ((n : ℕ) × (P : List ℕ) × Below 256 P × (length P ≡ length C) × Makes z key nonce A P C T n)
  open-exactly = (
    λ (n, e). let f = open-found n e in (n, f.0, f.1, f.2, f.3),
    λ (n, P, p, l, m). (n, ap (λ (x : OpenCall). x.answer) (open_gives P n l m)),
  )
