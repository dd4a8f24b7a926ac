-- When a call is refused with 2: key or font digest not of its size. Assumes nothing.
use Rattle.std.specs.Prelude.{◌≡◌, Bool, eqb, length}
use Rattle.std.proofs.Math.Path.{refl}
use Rattle.std.proofs.Math.Bool.{true, false, cond}
use borrow.Author.Tests.{eq-eqb, ne_eqb}
use Rattle.frame_spec.specs.Told.{key_length, Told}
use Rattle.frame_body.specs.Fields.{digest_length}
use Rattle.read_call.specs.Answers.{sized_told}

module _ (t : Told) where
  pub other_key : (length t.key ≡ key_length → ⊥) → sized_told t ≡ false
  unfolding sized_told
  other_key n = rw (ne_eqb (length t.key) key_length n)

  pub other-font : (length t.font ≡ digest_length → ⊥) → sized_told t ≡ false
  unfolding sized_told
  other-font n = go (eqb (length t.key) key_length)
    where
      go : (b : Bool) → cond b (eqb (length t.font) digest_length) false ≡ false
      go true = ne_eqb (length t.font) digest_length n
      go false = refl

  pub both-sized : length t.key ≡ key_length → length t.font ≡ digest_length → sized_told t ≡ true
  unfolding sized_told
  both-sized k f = rw (eq-eqb (length t.key) key_length k) (eq-eqb (length t.font) digest_length f)
