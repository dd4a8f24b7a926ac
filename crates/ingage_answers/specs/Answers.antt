-- What the public calls seal and open answer and leave in the buffers lent (document 01, 'Numbers returned'), in its order of
-- refusals, one line each. Assumes nothing: these are definitions.
use Rattle.std.specs.Prelude.{ℕ, ◌+◌, ◌/◌, Bool, true, false, not, cond, List, eqb, ltb, length, Ok, Err, Some, None, Result, Option}
use Rattle.base_lists.specs.Buffers.{over, cleared}
use Rattle.ingage_spec.specs.Cipher.{encrypted, decrypted, accepted}
use Rattle.ingage_spec.specs.declared.Instance.{Instance}
use Rattle.ingage_answers.specs.declared.SealRefusal.{SealRefusal}
use Rattle.ingage_answers.specs.declared.SealRefusal.TheVariants as sealed
use Rattle.ingage_answers.specs.declared.OpenRefusal.{OpenRefusal}
use Rattle.ingage_answers.specs.declared.OpenRefusal.TheVariants as opened

-- number 3: the longest associated data, and the longest message or ciphertext, in bytes
abbrev pub LONGEST-ASSOCIATED : ℕ
LONGEST-ASSOCIATED = 1024

abbrev pub LONGEST-TEXT : ℕ
LONGEST-TEXT = 4096

-- number 2: key, nonce and seal (or the buffer for it) have the instance's sizes, exactly
unfoldable pub sized : Instance → ℕ → ℕ → ℕ → Bool
sized z key nonce seal = cond (eqb key z.key) (cond (eqb nonce z.nonce) (eqb seal z.seal) false) false

unfoldable pub too_long : ℕ → ℕ → Bool
too_long assoc text = cond (ltb LONGEST-ASSOCIATED assoc) true (ltb LONGEST-TEXT text)

-- how often the permutation is called for so many bytes: at the start, for each block, the last one not whole, and at the end
unfoldable pub calls_of : Instance → ℕ → ℕ → ℕ
calls_of z assoc text =
    cond (ltb z.rate 1) 0 (cond (too_long assoc text) 0 (1 + (assoc / z.rate + 1) + (text / z.rate + 1) + 1))

-- the answer of seal, and its two buffers afterwards
pub record SealCall : Type 0 where
  pub answer : Result ℕ SealRefusal
  pub out : List ℕ
  pub seal : List ℕ

unfoldable pub seal_call : Instance → List ℕ → List ℕ → List ℕ → List ℕ → List ℕ → List ℕ → SealCall
seal_call z key nonce A P out seal =
    cond (not (sized z (length key) (length nonce) (length seal))) (record { answer = Err sealed.Sizes; out = out; seal = seal })
    (cond (too_long (length A) (length P)) (record { answer = Err sealed.TooLong; out = out; seal = seal })
    (cond (ltb (length out) (length P)) (record { answer = Err sealed.NoRoom; out = out; seal = seal })
    (record {
      answer = Ok (encrypted z key nonce A P).calls;
      out = over (encrypted z key nonce A P).text out;
      seal = (encrypted z key nonce A P).seal;
    })))

-- at what a number names: 1 comes first, then the refusals of the instance
unfoldable pub seal_named : Option Instance → List ℕ → List ℕ → List ℕ → List ℕ → List ℕ → List ℕ → SealCall
seal_named None key nonce A P out seal = record { answer = Err sealed.Instance; out = out; seal = seal }
seal_named (Some z) key nonce A P out seal = seal_call z key nonce A P out seal

-- the answer of open, and its buffer afterwards
pub record OpenCall : Type 0 where
  pub answer : Result ℕ OpenRefusal
  pub out : List ℕ

unfoldable pub open_call : Instance → List ℕ → List ℕ → List ℕ → List ℕ → List ℕ → List ℕ → OpenCall
open_call z key nonce A C seal out =
    cond (not (sized z (length key) (length nonce) (length seal))) (record { answer = Err opened.Sizes; out = out })
    (cond (too_long (length A) (length C)) (record { answer = Err opened.TooLong; out = out })
    (cond (ltb (length out) (length C)) (record { answer = Err opened.NoRoom; out = out })
    (cond (not (accepted (decrypted z key nonce A C).seal seal)) (record {
      answer = Err (opened.Seal (decrypted z key nonce A C).calls);
      out = cleared (length C) out;
    })
    (record {
      answer = Ok (decrypted z key nonce A C).calls;
      out = over (decrypted z key nonce A C).text out;
    }))))

unfoldable pub open_named : Option Instance → List ℕ → List ℕ → List ℕ → List ℕ → List ℕ → List ℕ → OpenCall
open_named None key nonce A C seal out = record { answer = Err opened.Instance; out = out }
open_named (Some z) key nonce A C seal out = open_call z key nonce A C seal out

-- document 01, 'Numbers returned'
abbrev pub seal_number : Result ℕ SealRefusal → ℕ
seal_number (Ok calls) = 0
seal_number (Err sealed.Instance) = 1
seal_number (Err sealed.Sizes) = 2
seal_number (Err sealed.TooLong) = 3
seal_number (Err sealed.NoRoom) = 4

abbrev pub open_number : Result ℕ OpenRefusal → ℕ
open_number (Ok calls) = 0
open_number (Err opened.Instance) = 1
open_number (Err opened.Sizes) = 2
open_number (Err opened.TooLong) = 3
open_number (Err opened.NoRoom) = 4
open_number (Err (opened.Seal calls)) = 5

-- the count: 0 on every refusal but 5
abbrev pub seal_count : Result ℕ SealRefusal → ℕ
seal_count (Ok calls) = calls
seal_count (Err f) = 0

abbrev pub open_count : Result ℕ OpenRefusal → ℕ
open_count (Ok calls) = calls
open_count (Err opened.Instance) = 0
open_count (Err opened.Sizes) = 0
open_count (Err opened.TooLong) = 0
open_count (Err opened.NoRoom) = 0
open_count (Err (opened.Seal calls)) = calls
