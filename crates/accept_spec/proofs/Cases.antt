-- What a call can answer, case by case in its order: 2, 3, 19, then what the stretches come to. Assumes nothing.
use Rattle.std.specs.Prelude.{◌≡◌, Bool, not, cond, ℕ, ◌≤◌, length, Err}
use Rattle.std.proofs.Math.Path.{refl}
use Rattle.std.proofs.Math.Bool.{true, false}
use mathlib.Core.List.{List, []}
use Rattle.std.proofs.Common.{arith}
use Rattle.std.proofs.Math.Dec.{eqb, ltb}
use borrow.Author.Tests.{eq-eqb, eqb-true, le-ltb, ltb-false}
use Rattle.frame_body.specs.Fields.{digest_length}
use Rattle.frame_spec.specs.Told.{key_length, Told}
use Rattle.read_spec.specs.Sizes.{Sizes}
use Rattle.read_spec.specs.Judging.{judge}
use Rattle.read_call.specs.Answers.{longest_stream, sized_told}
use Rattle.accept_spec.specs.declared.Accepted.{Accepted}
use Rattle.accept_spec.specs.declared.AcceptFault.TheVariants as answer-is
use Rattle.accept_spec.specs.Nonces.{AllDiffer}
use Rattle.accept_spec.specs.Accepting.{most_stretches, refused, yes, stretches_in, read_all, accept_from, accept_answer}
use Rattle.accept_spec.specs.Exactly.{Lines, nonces_of, Outcome, outcome, good-yes}
use Rattle.accept_spec.specs.Readings.{counted}

module _ (t : Told) (ed : ℕ) (s : List ℕ) where
  pub data Case : Accepted → Type 0 where
    sizes-wrong : Case (refused (Err answer-is.Sizes))
    long : Case (refused (Err answer-is.TooLong))
    many : Case (refused (Err answer-is.TooMany))
    judged : Sizes t → length s ≤ longest_stream → length (read_all t ed s) ≤ most_stretches → {a : Accepted} → Outcome s [] (read_all t ed s) a → Case a

  pub accept-case : Case (accept_answer t ed s)
  unfolding accept_answer sized_told
  accept-case =
      go (eqb (length t.key) key_length) refl (eqb (length t.font) digest_length) refl (ltb longest_stream (length s)) refl
      (ltb most_stretches (stretches_in s)) refl
    where
      go : (a : Bool) → eqb (length t.key) key_length ≡ a → (b : Bool) → eqb (length t.font) digest_length ≡ b
          → (c : Bool) → ltb longest_stream (length s) ≡ c → (d : Bool) → ltb most_stretches (stretches_in s) ≡ d
          → Case (cond (not (cond a b false)) (refused (Err answer-is.Sizes))
          (cond c (refused (Err answer-is.TooLong))
          (cond d (refused (Err answer-is.TooMany))
          (accept_from s [] (read_all t ed s)))))
      go false w b x c y d z = sizes-wrong
      go true w false x c y d z = sizes-wrong
      go true w true x true y d z = long
      go true w true x false y true z = many
      go true w true x false y false z =
          judged (record { key-is = eqb-true (length t.key) key_length w; font-is = eqb-true (length t.font) digest_length x })
          (ltb-false longest_stream (length s) y) (omega (arith, ltb-false most_stretches (stretches_in s) z, counted (judge t ed) s))
          (outcome s (read_all t ed s) [] tt)

  -- all lines with nonces that differ, within the limits
  pub good-accepted : Sizes t → length s ≤ longest_stream → length (read_all t ed s) ≤ most_stretches → Lines (read_all t ed s)
      → AllDiffer (nonces_of s (read_all t ed s))
      → accept_answer t ed s ≡ yes s
  unfolding accept_answer sized_told
  good-accepted z h few l d =
      rw (
        eq-eqb (length t.key) key_length z.key-is,
        eq-eqb (length t.font) digest_length z.font-is,
        le-ltb longest_stream (length s) h,
        le-ltb most_stretches (stretches_in s) (omega (arith, few, counted (judge t ed) s)),
      )
      (good-yes s (read_all t ed s) [] l d)
