-- What `permutation` makes of its words: a size and a count of rounds in decimal, a state in hexadecimal. Assumes nothing: these are definitions.
use Rattle.std.specs.Prelude.{Ok, Err, Some, None, Result, Option, ⊤}
use Rattle.std.specs.Prelude.{Bool, false, cond, List, [], ◌∷◌, ℕ, ◌+◌, ◌-◌, ◌*◌, ◌/◌, ◌%◌, eqb, ltb, length, replicate}
use Rattle.base_lists.specs.Buffers.{same}
use Rattle.base_hex.specs.Hex.{all_digits, bytes_from}
use Rattle.gage_spec.specs.Permutation.{LARGEST, answered}
use Rattle.gage_spec.specs.declared.PermuteRefusal.{PermuteRefusal}
use Rattle.gage_spec.specs.declared.PermuteRefusal.TheVariants as answer
use Rattle.gage_spec.specs.declared.Permuted.{Permuted}
use Rattle.tool_trial.specs.declared.TrialFault.{TrialFault}
use Rattle.tool_trial.specs.declared.TrialFault.TheVariants.{Size, Rounds, NoNumber, NoState}
use Rattle.tool_trial.specs.declared.Trial.{Trial}

-- `back`
unfoldable pub is_back : List ℕ → Bool
is_back w = same w (0x62 ∷ 0x61 ∷ 0x63 ∷ 0x6B ∷ [])

-- all numbers from LARGE on are taken for LARGE, which is no size and no count of rounds
abbrev pub LARGE : ℕ
LARGE = 1000

-- a number with one decimal digit more
unfoldable pub grown : ℕ → ℕ → ℕ
grown v d = cond (ltb LARGE (10 * v + d)) LARGE (10 * v + d)

-- the number v with the digits of w behind it
unfoldable pub number_from : ℕ → List ℕ → Option ℕ
number_from v [] = Some v
number_from v (c ∷ w) = cond (ltb c 0x30) None (cond (ltb 0x39 c) None (number_from (grown v (c - 0x30)) w))

-- a word of decimal digits, at least one
unfoldable pub number_in : List ℕ → Option ℕ
number_in w = cond (ltb (length w) 1) None (number_from 0 w)

-- two hexadecimal digits for each of n bytes
unfoldable pub is_state : List ℕ → ℕ → Bool
is_state t n = cond (eqb (length t % 2) 0) (cond (eqb (length t / 2) n) (all_digits t) false) false

-- the bytes that the digits are, and zeros behind them
abbrev pub state_in : List ℕ → List ℕ
state_in t = bytes_from t 0 LARGEST

unfoldable pub refusal : Result ⊤ TrialFault → Trial
refusal o = record { outcome = o; size = 0; state = replicate LARGEST 0 }

-- the trial's fault where the permutation is refused
abbrev pub fault_of : PermuteRefusal → TrialFault
fault_of answer.Size = Size
fault_of answer.Rounds = Rounds

-- the size is refused before the rounds, and both before a text that is no state
unfoldable pub told_by : Result ⊤ PermuteRefusal → List ℕ → ℕ → List ℕ → Trial
told_by (Ok tt) s n t = cond (is_state t n) (record { outcome = Ok tt; size = n; state = s }) (refusal (Err NoState))
told_by (Err answer.Size) s n t = refusal (Err Size)
told_by (Err answer.Rounds) s n t = refusal (Err Rounds)

abbrev pub told : Permuted → ℕ → List ℕ → Trial
told p n t = told_by p.answer p.state n t

-- f, the permutation or its inverse, on the state, where size and rounds are numbers
unfoldable pub tried_by : (ℕ → List ℕ → List ℕ) → Option ℕ → Option ℕ → List ℕ → Trial
tried_by f (Some n) (Some k) t = told (answered f (state_in t) n k) n t
tried_by f (Some n) None t = refusal (Err NoNumber)
tried_by f None k t = refusal (Err NoNumber)

abbrev pub tried : (ℕ → List ℕ → List ℕ) → List ℕ → List ℕ → List ℕ → Trial
tried f size rounds t = tried_by f (number_in size) (number_in rounds) t

-- document 01's number of a size that is not permitted, order W9's of rounds that are not 1 to 255; 0 where it is done, and where the words are no trial, for
-- which the papers have no number
abbrev pub outcome_number : Result ⊤ TrialFault → ℕ
outcome_number (Ok tt) = 0
outcome_number (Err Size) = 1
outcome_number (Err Rounds) = 18
outcome_number (Err NoNumber) = 0
outcome_number (Err NoState) = 0
