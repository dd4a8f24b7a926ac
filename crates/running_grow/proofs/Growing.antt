-- The steps by value take in the full blocks of the unfinished bytes and those fed, and keep what is left. Assumes nothing.
use mathlib.Core.Path.{◌≡◌, sym, ap, ◌∙◌}
use mathlib.Core.List.{List, ◌++◌, append_assoc}
use Prim.Native.Nat.{ℕ, ◌+◌, ◌-◌, ◌*◌, ◌/◌, ◌≤◌, ◌<◌}
use native.Mathlib.Nat.{div_self, one-mul}
use native.Mathlib.Omega.{arith}
use lib.ListN.{length, take, drop, length-append, length-drop, take-append-drop}
use lib.Seq.{take_all, drop-drop, length-take-le}
use Rattle.gage_spec.specs.Permutation.{LARGEST}
use Rattle.gage_spec.specs.Tables.{permitted-size}
use Rattle.gage_sponge.specs.Padding.{LARGEST-RATE}
use Rattle.gage_sponge.specs.Absorbing.{Run, from}
use Rattle.digest_spec.specs.Instances.{size_of, rate_of}
use Rattle.digest_spec.specs.Shapes.{known-whole}
use Rattle.digest_sponge.specs.Parts.{taken, taken_in, within}
use Rattle.digest_sponge.specs.Joining.{taken-split, left_split, taken-short, left-short, taken-state, length_taken, within-front}
use Rattle.running_spec.specs.Running.{left_of}
use Rattle.running_grow.specs.Growing.{Growing}

-- what an instance's sizes make room for
pub record Sizes (i held missing : ℕ) : Type 0 where
  pub some : 0 < rate_of i
  pub least : rate_of i ≤ LARGEST-RATE
  pub room : size_of i ≤ LARGEST
  pub whole : held + missing ≡ rate_of i
  pub lacks : 0 < missing

module _ (i : ℕ) {held missing : ℕ} (g : Growing i held missing) where
  pub sizes : Sizes i held missing
  sizes =
      let f = (known-whole i g.known).fits in
      record { some = f.some; least = f.least; room = (permitted-size (size_of i) f.permits).1; whole = g.whole; lacks = g.lacks }

  module _ (block b : List ℕ) (long : length block ≡ LARGEST-RATE) where
    -- the unfinished bytes are as many as are held
    held_bytes : length (take held block) ≡ held
    held_bytes = let z = sizes in length-take-le held block (omega arith)

    -- too few bytes to fill the block
    module _ (few : length b < missing) where
      short : length (take held block ++ b) < rate_of i
      short = let z = sizes in rw length-append (omega (arith, held_bytes))

      pub state-kept : (s : List ℕ) → taken_in i s (take (held - 0) (drop 0 block)) ≡ taken_in i s (take held block ++ b)
      unfolding taken_in
      state-kept s =
          let z = sizes in
          let none : held - 0 ≡ held = omega arith in
          let r : Run = from (take (size_of i) s) in
          rw (none, g.known)
          (ap (λ (q : Run). within LARGEST q.state) (taken-short (rate_of i) (take held block) (omega (arith, held_bytes)) r)
          ∙ ap (λ (q : Run). within LARGEST q.state) (sym (taken-short (rate_of i) (take held block ++ b) short r)))

      pub block-kept : within LARGEST-RATE (take held block ++ b) ≡ within LARGEST-RATE (left_of i (take held block ++ b))
      unfolding left_of
      block-kept = rw (left-short (rate_of i) (take held block ++ b) short)

    -- enough: the first block and the rest
    module _ (enough : missing ≤ length b) where
      first : List ℕ
      first = take held block ++ take missing b

      first-long : length first ≡ rate_of i
      unfolding first
      first-long =
          let z = sizes in
          length-append (take held block) (take missing b) ∙ omega (arith, held_bytes, length-take-le missing b enough)

      one_block : length first ≡ 1 * rate_of i
      one_block = first-long ∙ sym (one-mul (rate_of i))

      both : take held block ++ b ≡ first ++ drop missing b
      unfolding first
      both =
          ap (λ (l : List ℕ). take held block ++ l) (sym (take-append-drop missing b))
          ∙ sym (append_assoc (take held block) (take missing b) (drop missing b))

      -- the block as it is filled, cut to the rate
      filled-front : (f : List ℕ) → f ≡ within LARGEST-RATE (take held block ++ take (missing - 0) (drop 0 b))
          → take (held + missing - 0) (drop 0 f) ≡ first
      unfolding first
      filled-front f e =
          let z = sizes in
          let none : missing - 0 ≡ missing = omega arith in
          let all : held + missing - 0 ≡ rate_of i = omega arith in
          rw (all, e, none) (within-front (rate_of i) LARGEST-RATE first first-long z.least)

      pub state-grown : (o : List ℕ) → length o ≡ LARGEST → (f s t : List ℕ)
          → f ≡ within LARGEST-RATE (take held block ++ take (missing - 0) (drop 0 b))
          → s ≡ taken_in i o (take (held + missing - 0) (drop 0 f))
          → t ≡ taken_in i s (take (length b - missing) (drop missing b))
          → t ≡ taken_in i o (take held block ++ b)
      unfolding taken_in
      state-grown o o-long f s t f-is s-is t-is =
          let z = sizes in
          let R = rate_of i in
          let n = size_of i in
          let c : List ℕ = drop missing b in
          let rest : take (length b - missing) c ≡ c = take_all (length b - missing) c (omega (arith, length-drop missing b)) in
          let one : length first / R ≡ 1 = rw first-long (div_self z.some) in
          let r : Run = from (take n o) in
          let a : Run = taken R first r 1 in
          let s-first : s ≡ within LARGEST a.state = s-is ∙ rw (filled-front f f-is, g.known, one) in
          let a-long : length a.state ≡ n = length_taken R first r 1 ∙ length-take-le n o (omega arith) in
          let s-front : take n s ≡ a.state = ap (take n) s-first ∙ within-front n LARGEST a.state a-long z.room in
          t-is ∙ rw (rest, g.known)
          (ap (within LARGEST) (taken-state R c (from (take n s)) a (length c / R) s-front
          ∙ ap (λ (q : Run). q.state) (sym (taken-split R 1 first c z.some one_block r))
          ∙ ap (λ (x : List ℕ). (taken R x r (length x / R)).state) (sym both)))

      pub block-grown : {at : ℕ} (f : List ℕ) → at ≡ missing + (length b - missing) / (held + missing) * (held + missing)
          → f ≡ within LARGEST-RATE (take 0 block ++ take (length b - at) (drop at b))
          → f ≡ within LARGEST-RATE (left_of i (take held block ++ b))
      unfolding left_of
      block-grown {at} f at-is f-is =
          let z = sizes in
          let R = rate_of i in
          let c : List ℕ = drop missing b in
          let place : at ≡ missing + length c / R * R = at-is ∙ rw (z.whole, sym (length-drop missing b)) in
          let rest : take (length b - at) (drop at b) ≡ drop at b = take_all (length b - at) (drop at b) (rw length-drop (omega arith)) in
          let left : drop at b ≡ drop (length c / R * R) c = ap (λ (n : ℕ). drop n b) place ∙ sym (drop-drop (length c / R * R) missing b) in
          f-is ∙ ap (within LARGEST-RATE) (rest ∙ left ∙ sym (left_split R 1 first c z.some one_block)
          ∙ ap (λ (x : List ℕ). drop (length x / R * R) x) (sym both))
