-- The calls with an instance's number: 1 comes before every other refusal, and at a known number what is said over the sizes of an
-- instance holds (`Exactly`). Assumes nothing.
use Rattle.std.specs.Prelude.{◌≡◌, List, ℕ, Err, Some, None}
use Rattle.ingage_spec.specs.declared.Instance.{Instance}
use Rattle.ingage_answers.specs.declared.SealRefusal.TheVariants as sealed
use Rattle.ingage_answers.specs.declared.OpenRefusal.TheVariants as opened
use Rattle.ingage_spec.specs.Instances.{named, FIRST, first, first-named}
use Rattle.ingage_answers.specs.Answers.{seal_call, seal_named, open_call, open_named}

module _ (i : ℕ) (key nonce A text out seal : List ℕ) where
  -- a number that names none is 1, whatever else is wrong
  pub seal-unnamed : named i ≡ None → seal_named (named i) key nonce A text out seal ≡ record { answer = Err sealed.Instance; out = out; seal = seal }
  unfolding seal_named
  seal-unnamed e = rw e

  pub open-unnamed : named i ≡ None → open_named (named i) key nonce A text seal out ≡ record { answer = Err opened.Instance; out = out }
  unfolding open_named
  open-unnamed e = rw e

  -- else the call is that of the instance
  module _ (z : Instance) (e : named i ≡ Some z) where
    pub seal-named : seal_named (named i) key nonce A text out seal ≡ seal_call z key nonce A text out seal
    unfolding seal_named
    seal-named = rw e

    pub open-named : open_named (named i) key nonce A text seal out ≡ open_call z key nonce A text seal out
    unfolding open_named
    open-named = rw e

-- as frames are sealed
pub seal-first : (key nonce A P out seal : List ℕ) → seal_named (named FIRST) key nonce A P out seal ≡ seal_call first key nonce A P out seal
seal-first key nonce A P out seal = seal-named FIRST key nonce A P out seal first first-named

pub open-first : (key nonce A C seal out : List ℕ) → open_named (named FIRST) key nonce A C seal out ≡ open_call first key nonce A C seal out
open-first key nonce A C seal out = open-named FIRST key nonce A C out seal first first-named
