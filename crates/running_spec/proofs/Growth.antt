-- Laws of a record that is fed: two feeds are one, feeding a message from the start gives the record of that message, and finishing that
-- one gives document 01's digest and its count. Assumes nothing.
use Rattle.std.specs.Prelude.{◌≡◌, false, take, replicate}
use Rattle.std.proofs.Math.Path.{sym, ap, ap₂}
use Rattle.std.proofs.Common.{◌∙◌, div-mul-le_self, arith, length-append, length-drop}
use mathlib.Core.List.{List, ◌++◌, append_assoc}
use Prim.Native.Nat.{ℕ, ◌+◌, ◌*◌, ◌/◌, ◌%◌}
use Rattle.std.proofs.Math.Nat.{mod-lt, mod-add-mod, mod-add-div'}
use Rattle.std.proofs.Math.ListN.{length, drop, take-append-drop}
use Rattle.std.proofs.Math.Seq.{length-take-le}
use Rattle.gage_spec.specs.Permutation.{LARGEST}
use Rattle.gage_spec.specs.Tables.{permitted-size}
use Rattle.gage_sponge.specs.Padding.{LARGEST-RATE}
use Rattle.gage_sponge.specs.Absorbing.{Run, from}
use Rattle.digest_spec.specs.Instances.{unknown, size_of, rate_of, outputs_of}
use Rattle.digest_spec.specs.Hashing.{absorbed, sponged}
use Rattle.digest_sponge.specs.Calls.{absorbed-calls}
use Rattle.digest_spec.specs.Outputs.{length-absorbed}
use Rattle.digest_spec.specs.Shapes.{known-whole}
use Rattle.digest_sponge.specs.Parts.{taken, closed}
use Rattle.digest_sponge.specs.Joining.{taken-before, taken-split, left_split, taken-state, length_taken}
use Rattle.digest_sponge.specs.Joining.{absorbed-taken, sponged-closed, within-front}
use Rattle.running_spec.specs.Running.{written, left_of, running_of, so_far, unfinished, taken_up, grown, concluded}
use Rattle.running_spec.specs.declared.Record.{Record}
use Rattle.running_spec.specs.Growth.{Sized, Fitting}

fitting : (i : ℕ) → unknown i ≡ false → Fitting i
fitting i known =
    let f = (known-whole i known).fits in
    record { some = f.some; least = f.least; room = (permitted-size (size_of i) f.permits).1 }

-- as many bytes are left of x as its length leaves behind whole blocks
pub length-left : (i : ℕ) (x : List ℕ) → length (left_of i x) ≡ length x % rate_of i
unfolding left_of
length-left i x =
    length-drop (length x / rate_of i * rate_of i) x ∙ omega (arith, mod-add-div' (length x) (rate_of i))

-- x is its whole blocks and what is left; what is left, and b behind it, is taken up as x and b are
module _ (i : ℕ) (known : unknown i ≡ false) (x b : List ℕ) where
  whole : List ℕ
  whole = take (length x / rate_of i * rate_of i) x

  length_whole : length whole ≡ length x / rate_of i * rate_of i
  unfolding whole
  length_whole = length-take-le (length x / rate_of i * rate_of i) x (div-mul-le_self (length x) (rate_of i))

  parts : whole ++ left_of i x ≡ x
  unfolding whole left_of
  parts = take-append-drop (length x / rate_of i * rate_of i) x

  taken-whole : (q : Run) → taken (rate_of i) x q (length x / rate_of i) ≡ taken (rate_of i) whole q (length x / rate_of i)
  taken-whole q =
      ap (λ (y : List ℕ). taken (rate_of i) y q (length x / rate_of i)) (sym parts)
      ∙ taken-before (rate_of i) whole (left_of i x) q (length x / rate_of i) (omega (arith, length_whole))

  together : whole ++ (left_of i x ++ b) ≡ x ++ b
  together = sym (append_assoc whole (left_of i x) b) ∙ ap (λ (l : List ℕ). l ++ b) parts

  pub taken-on : (q : Run) → taken (rate_of i) (left_of i x ++ b) (taken (rate_of i) x q (length x / rate_of i)) (length (left_of i x ++ b) / rate_of i)
      ≡ taken (rate_of i) (x ++ b) q (length (x ++ b) / rate_of i)
  taken-on q =
      let R = rate_of i in
      let c : List ℕ = left_of i x ++ b in
      ap (λ (p : Run). taken R c p (length c / R)) (taken-whole q)
      ∙ sym (taken-split R (length x / R) whole c (fitting i known).some length_whole q)
      ∙ ap (λ (y : List ℕ). taken R y q (length y / R)) together

  pub left-on : left_of i (left_of i x ++ b) ≡ left_of i (x ++ b)
  unfolding left_of
  left-on =
      let R = rate_of i in
      sym (left_split R (length x / R) whole (left_of i x ++ b) (fitting i known).some length_whole)
      ∙ ap (λ (y : List ℕ). drop (length y / R * R) y) together

-- what a record written anew is taken for
module _ (i t : ℕ) (s rest : List ℕ) (known : unknown i ≡ false) where
  pub written-state : length s ≡ size_of i → so_far (written i t s rest) ≡ record { state = s; calls = t / rate_of i }
  unfolding so_far written
  written-state e = ap (λ (l : List ℕ). record { state = l; calls = t / rate_of i }) (within-front (size_of i) LARGEST s e (fitting i known).room)

  pub written-rest : length rest ≡ t % rate_of i → unfinished (written i t s rest) ≡ rest
  unfolding unfinished written
  written-rest e =
      let f = fitting i known in
      within-front (t % rate_of i) LARGEST-RATE rest e (omega (arith, mod-lt t f.some, f.least))

-- two feeds are one
module _ (r : Record) (known : unknown r.instance ≡ false) (z : Sized r) (a b : List ℕ) where
  abbrev i : ℕ
  i = r.instance

  abbrev x : List ℕ
  x = unfinished r ++ a

  length-unfinished : length (unfinished r) ≡ r.total % rate_of i
  unfolding unfinished
  length-unfinished =
      let f = fitting i known in
      let e : length r.block ≡ LARGEST-RATE = z.block in
      length-take-le (r.total % rate_of i) r.block (omega (arith, mod-lt r.total f.some, f.least))

  left-counted : length (left_of i x) ≡ (r.total + length a) % rate_of i
  left-counted =
      length-left i x
      ∙ ap (λ (n : ℕ). n % rate_of i) (length-append (unfinished r) a ∙ ap (λ (n : ℕ). n + length a) length-unfinished)
      ∙ mod-add-mod r.total (rate_of i) (length a)

  length_up : length (taken_up r x) ≡ size_of i
  unfolding taken_up so_far
  length_up =
      let f = fitting i known in
      let e : length r.state ≡ LARGEST = z.state in
      length_taken (rate_of i) x (so_far r) (length x / rate_of i)
      ∙ length-take-le (size_of i) r.state (omega (arith, f.room))

  -- the record after the first
  abbrev one : Record
  one = grown r (r.total + length a) x

  one_state : (so_far one).state ≡ taken_up r x
  unfolding grown
  one_state = ap (λ (q : Run). q.state) (written-state i (r.total + length a) (taken_up r x) (left_of i x) known length_up)

  one-rest : unfinished one ≡ left_of i x
  unfolding grown
  one-rest = written-rest i (r.total + length a) (taken_up r x) (left_of i x) known left-counted

  state-twice : taken_up one (left_of i x ++ b) ≡ taken_up r (x ++ b)
  unfolding taken_up grown written
  state-twice =
      let c : List ℕ = left_of i x ++ b in
      taken-state (rate_of i) c (so_far one) (taken (rate_of i) x (so_far r) (length x / rate_of i)) (length c / rate_of i) one_state
      ∙ ap (λ (q : Run). q.state) (taken-on i known x b (so_far r))

  pub grown-twice : (u : ℕ) → grown one u (unfinished one ++ b) ≡ grown r u (unfinished r ++ (a ++ b))
  unfolding grown written
  grown-twice u =
      ap (λ (l : List ℕ). grown one u (l ++ b)) one-rest
      ∙ ap₂ (written i u) state-twice (left-on i known x b)
      ∙ ap (grown r u) (append_assoc (unfinished r) a b)

-- the record of a message
module _ (i : ℕ) (known : unknown i ≡ false) (m : List ℕ) where
  abbrev n : ℕ
  n = size_of i

  abbrev R : ℕ
  R = rate_of i

  -- is taken for the sponge after the whole blocks, and for what is left
  pub running-state : so_far (running_of i m) ≡ absorbed n R m (length m / R)
  unfolding running_of
  running-state =
      written-state i (length m) (absorbed n R m (length m / R)).state (left_of i m) known (length-absorbed n R m (length m / R))
      ∙ ap (λ (k : ℕ). record { state = (absorbed n R m (length m / R)).state; calls = k }) (sym (absorbed-calls n R m (length m / R)))

  pub running-rest : unfinished (running_of i m) ≡ left_of i m
  unfolding running_of
  running-rest = written-rest i (length m) (absorbed n R m (length m / R)).state (left_of i m) known (length-left i m)

  absorbed-all : (l : List ℕ) → absorbed n R l (length l / R) ≡ taken R l (from (replicate n 0)) (length l / R)
  absorbed-all l = absorbed-taken n R l (length l / R) (div-mul-le_self (length l) R)

  -- grows to that of the message and b
  state-grown : (b : List ℕ) → taken_up (running_of i m) (left_of i m ++ b) ≡ (absorbed n R (m ++ b) (length (m ++ b) / R)).state
  unfolding taken_up running_of written
  state-grown b =
      let c : List ℕ = left_of i m ++ b in
      let e : (so_far (running_of i m)).state ≡ (taken R m (from (replicate n 0)) (length m / R)).state =
      ap (λ (q : Run). q.state) (running-state ∙ absorbed-all m) in
      taken-state R c (so_far (running_of i m)) (taken R m (from (replicate n 0)) (length m / R)) (length c / R) e
      ∙ ap (λ (q : Run). q.state) (taken-on i known m b (from (replicate n 0)) ∙ sym (absorbed-all (m ++ b)))

  pub running-grown : (b : List ℕ)
      → grown (running_of i m) ((running_of i m).total + length b) (unfinished (running_of i m) ++ b) ≡ running_of i (m ++ b)
  unfolding grown running_of written
  running-grown b =
      ap (λ (l : List ℕ). grown (running_of i m) (length m + length b) (l ++ b)) running-rest
      ∙ ap (λ (s : List ℕ). written i (length m + length b) s (left_of i (left_of i m ++ b))) (state-grown b)
      ∙ ap₂ (λ (t : ℕ) (l : List ℕ). written i t (absorbed n R (m ++ b) (length (m ++ b) / R)).state l) (sym (length-append m b)) (left-on i known m b)

  -- and ends as document 01's sponge
  pub running-concluded : concluded (running_of i m) ≡ sponged n R (outputs_of i) m
  unfolding concluded running_of written left_of
  running-concluded =
      let f = fitting i known in
      ap₂ (closed R (outputs_of i)) running-rest (running-state ∙ absorbed-all m)
      ∙ sym (sponged-closed n R (outputs_of i) m f.some f.least)
