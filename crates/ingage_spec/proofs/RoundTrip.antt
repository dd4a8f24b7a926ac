-- Sealing and opening undo each other, at every instance that keeps the rule of the table, every key and nonce of its sizes and every
-- associated data (the buyer's demand 2): texts, seals and counts. Assumes nothing.
use Rattle.std.specs.Prelude.{◌≡◌, true, ◌↔◌, ℕ, ◌*◌, ◌≤◌, length}
use Rattle.std.proofs.Common.{sym, ap₂, ◌∙◌, arith}
use Rattle.std.proofs.Math.Path.{ap}
use mathlib.Core.List.{List}
use Rattle.std.proofs.Math.Seq.{take_all}
use Rattle.base_lists.specs.Sameness.{same-eq, same_refl}
use Rattle.gage_sponge.specs.Padding.{block_count}
use Rattle.gage_sponge.specs.Absorbing.{Run}
use Rattle.ingage_spec.specs.declared.Instance.{Instance}
use Rattle.ingage_spec.specs.Instances.{Fitting}
use Rattle.ingage_spec.specs.Cipher.{Work, worked, begun, encrypting, finished, encrypted, decrypted, accepted}
use Rattle.ingage_spec.specs.Pieces.{pieces-reach}
use Rattle.ingage_spec.specs.Runs.{length-begun}
use Rattle.ingage_spec.specs.Flows.{Follows}
use Rattle.ingage_spec.proofs.Flows.{ciphertext-follows, follows-ciphertext, follows-opened, opened-follows}

module _ (z : Instance) (fits : Fitting z) (key nonce A : List ℕ) (k : length key ≡ z.key) (n : length nonce ≡ z.nonce) where
  abbrev here : Run
  here = begun z key nonce A

  pub wide : z.rate ≤ length here.state
  wide = let e = fits.ends in omega (arith, length-begun z fits.begins key nonce A k n)

  -- where C follows from P, sealing P and opening C work out the same seal with as many calls
  pub sealed-work : (P C : List ℕ) → Follows z.rate here P C
      → encrypted z key nonce A P ≡ worked z C (finished (encrypting z.rate here P (block_count z.rate P)).run)
  unfolding encrypted
  sealed-work P C f =
      ap (λ (t : List ℕ). worked z t (finished (encrypting z.rate here P (block_count z.rate P)).run))
      (follows-ciphertext z.rate fits.moves here wide P C f)

  pub opened-work : (P C : List ℕ) → Follows z.rate here P C
      → decrypted z key nonce A C ≡ worked z P (finished (encrypting z.rate here P (block_count z.rate P)).run)
  unfolding decrypted
  opened-work P C f =
      let o = follows-opened z.rate fits.moves here wide P C f (block_count z.rate P) (omega arith) in
      rw (sym f.long) (ap₂ (λ (t : List ℕ) (w : Run). worked z t (finished w))
      (o.1 ∙ take_all (block_count z.rate P * z.rate) P (pieces-reach z.rate P fits.moves)) o.0)

  -- opening what sealing made gives the message back
  pub open-seal : (P : List ℕ) → decrypted z key nonce A (encrypted z key nonce A P).text
      ≡ record { text = P; seal = (encrypted z key nonce A P).seal; calls = (encrypted z key nonce A P).calls }
  unfolding encrypted
  open-seal P = opened-work P (encrypted z key nonce A P).text (ciphertext-follows z.rate fits.moves here wide P)

  -- sealing what opening found gives the ciphertext back
  pub seal-open : (C : List ℕ) → encrypted z key nonce A (decrypted z key nonce A C).text
      ≡ record { text = C; seal = (decrypted z key nonce A C).seal; calls = (decrypted z key nonce A C).calls }
  unfolding decrypted
  seal-open C =
      let f = opened-follows z.rate fits.moves here wide C in
      let o = opened-work (decrypted z key nonce A C).text C f in
      sealed-work (decrypted z key nonce A C).text C f
      ∙ ap (λ (w : Work). record { text = C; seal = w.seal; calls = w.calls }) (sym o)

  -- sealing makes C and T of P with n calls exactly when opening C finds P and T with n calls
  pub exactly : (P C T : List ℕ) (calls : ℕ)
      → (encrypted z key nonce A P ≡ record { text = C; seal = T; calls = calls })
      ↔ (decrypted z key nonce A C ≡ record { text = P; seal = T; calls = calls })
  exactly P C T calls = (
    λ e. ap (λ (w : Work). decrypted z key nonce A w.text) (sym e) ∙ open-seal P
        ∙ ap (λ (w : Work). record { text = P; seal = w.seal; calls = w.calls }) e,
    λ e. ap (λ (w : Work). encrypted z key nonce A w.text) (sym e) ∙ seal-open C
        ∙ ap (λ (w : Work). record { text = C; seal = w.seal; calls = w.calls }) e,
  )

-- a seal is accepted exactly when it is the one worked out
pub accepted-refl : (T : List ℕ) → accepted T T ≡ true
accepted-refl T = same_refl _

pub accepted-eq : (T' T : List ℕ) → accepted T' T ≡ true → T' ≡ T
accepted-eq T' T e = same-eq _ _ e
