-- Demand 2 over the exported calls, at each of the six instances: within the sizes and with room, open answers 0 exactly when ciphertext and seal are what
-- seal makes of some message, and then gives that message. `Bytes` is a premise of these lists; what open is passed meets it by its type (Bytes.antt).
-- Assumes nothing.
use Rattle.std.specs.Prelude.{◌≡◌, refl, ◌↔◌, List, ℕ, length, Ok, Err, Some, Result}
use Rattle.std.proofs.Common.{sym, ap, ◌∙◌, arith}
use Rattle.base_lists.specs.Below.{Below}
use Rattle.base_lists.specs.Buffers.{over}
use Rattle.ingage_spec.specs.declared.Instance.{Instance}
use Rattle.ingage_spec.specs.Instances.{named, named-fits}
use Rattle.ingage_answers.specs.declared.SealRefusal.{SealRefusal}
use Rattle.ingage_answers.specs.declared.SealRefusal.TheVariants as sealed-is
use Rattle.ingage_answers.specs.declared.OpenRefusal.{OpenRefusal}
use Rattle.ingage_answers.specs.declared.OpenRefusal.TheVariants as opened-is
use Rattle.ingage_answers.specs.Answers.{seal_number, seal_count, open_number, open_count, SealCall, OpenCall, seal_call, seal_named, open_call, open_named}
use Rattle.ingage_answers.specs.Exactly.{Makes, Within, Bytes, open_gives, open-found}
use Rattle.ingage_answers.specs.Naming.{seal-named, open-named}
use Rattle.lubdhvani.specs.Answers.{sealed, opened}
use Rattle.lubdhvani.specs.declared.answers.Counted.{Counted}
use Rattle.lubdhvani_demands.specs.Promises.{Seals, Opens}

-- 0 is done, and no refusal
sealed-done : (a : Result ℕ SealRefusal) → seal_number a ≡ 0 → a ≡ Ok (seal_count a)
sealed-done (Ok n) e = refl
sealed-done (Err sealed-is.Instance) e = absurd (omega (arith, e))
sealed-done (Err sealed-is.Sizes) e = absurd (omega (arith, e))
sealed-done (Err sealed-is.TooLong) e = absurd (omega (arith, e))
sealed-done (Err sealed-is.NoRoom) e = absurd (omega (arith, e))

opened-done : (a : Result ℕ OpenRefusal) → open_number a ≡ 0 → a ≡ Ok (open_count a)
opened-done (Ok n) e = refl
opened-done (Err opened-is.Instance) e = absurd (omega (arith, e))
opened-done (Err opened-is.Sizes) e = absurd (omega (arith, e))
opened-done (Err opened-is.TooLong) e = absurd (omega (arith, e))
opened-done (Err opened-is.NoRoom) e = absurd (omega (arith, e))
opened-done (Err (opened-is.Seal n)) e = absurd (omega (arith, e))

-- the exported seal makes C and T of P in n calls, in any buffers of just their lengths
abbrev pub CMakes : ℕ → List ℕ → List ℕ → List ℕ → List ℕ → List ℕ → List ℕ → ℕ → Type 0
CMakes i key nonce A P C T n =
    (out seal : List ℕ) (r : Counted) (out' seal' : List ℕ) → Below 256 out → Below 256 seal → length out ≡ length C → length seal ≡ length T
    → Seals i key nonce A P out seal r out' seal' → (r ≡ record { number = 0; calls = n }) × ((out' ≡ C) × (seal' ≡ T))

module _ (i : ℕ) (z : Instance) (known : named i ≡ Some z) (key nonce A : List ℕ) where
  -- it is the same as what the call below makes
  c-makes : (P C T : List ℕ) (n : ℕ) → Makes z key nonce A P C T n → CMakes i key nonce A P C T n
  c-makes P C T n m out seal r out' seal' ob sb ol sl p =
      let e : seal_named (named i) key nonce A P out seal ≡ record { answer = Ok n; out = C; seal = T } =
      seal-named i key nonce A P out seal z known ∙ m out seal ob sb ol sl in (
        p.0 ∙ ap (λ (x : SealCall). sealed x.answer) e,
        (p.1.0 ∙ ap (λ (x : SealCall). x.out) e, p.1.1 ∙ ap (λ (x : SealCall). x.seal) e),
      )

  makes-c : (P C T : List ℕ) (n : ℕ) → CMakes i key nonce A P C T n → Makes z key nonce A P C T n
  makes-c P C T n m out seal ob sb ol sl =
      let call = seal_named (named i) key nonce A P out seal in
      let q = m out seal (sealed call.answer) call.out call.seal ob sb ol sl (refl, (refl, refl)) in
      let done : call.answer ≡ Ok n =
      sealed-done call.answer (ap (λ (x : Counted). x.number) q.0) ∙ ap Ok (ap (λ (x : Counted). x.calls) q.0) in
      sym (seal-named i key nonce A P out seal z known) ∙ same call done q.1.0 q.1.1
    where
      same : (x : SealCall) {a : Result ℕ SealRefusal} {c t : List ℕ} → x.answer ≡ a → x.out ≡ c → x.seal ≡ t → x ≡ record { answer = a; out = c; seal = t }
      same x e f g = rw (← e, ← f, ← g)

  module _ (C T out : List ℕ) (w : Within z key nonce A C T out) (b : Bytes key nonce A C T) (r : Counted) (out' : List ℕ)
      (p : Opens i key nonce A C T out r out') where
    call-is : open_named (named i) key nonce A C T out ≡ open_call z key nonce A C T out
    call-is = open-named i key nonce A C out T z known

    -- open gives the message of which seal makes C and T, with seal's count
    pub c-open-gives : (P : List ℕ) (n : ℕ) → length P ≡ length C → CMakes i key nonce A P C T n → (r ≡ record { number = 0; calls = n }) × (out' ≡ over P out)
    c-open-gives P n l m =
        let e = call-is ∙ open_gives z (named-fits i z known) key nonce A C T out w b P n l (makes-c P C T n m) in
        (p.0 ∙ ap (λ (x : OpenCall). opened x.answer) e, p.1 ∙ ap (λ (x : OpenCall). x.out) e)

    -- and answers 0 only where there is one
    pub c-open-found : r.number ≡ 0 → (P : List ℕ) × Below 256 P × (length P ≡ length C) × CMakes i key nonce A P C T r.calls
    c-open-found e =
        let a = (open_named (named i) key nonce A C T out).answer in
        let done : a ≡ Ok r.calls =
        opened-done a (sym (ap (λ (x : Counted). x.number) p.0) ∙ e) ∙ ap Ok (sym (ap (λ (x : Counted). x.calls) p.0)) in
        let f = open-found z (named-fits i z known) key nonce A C T out w b r.calls (sym (ap (λ (x : OpenCall). x.answer) call-is) ∙ done) in
        (f.0, f.1, f.2, c-makes f.0 C T r.calls f.3)

    pub c-open-exactly : (r.number ≡ 0) ↔ ((n : ℕ) × (P : List ℕ) × Below 256 P × (length P ≡ length C) × CMakes i key nonce A P C T n)
    c-open-exactly = (
      λ e. let f = c-open-found e in (r.calls, f.0, f.1, f.2, f.3),
      λ (n, P, q, l, m). ap (λ (x : Counted). x.number) (c-open-gives P n l m).0,
    )
