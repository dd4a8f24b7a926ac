-- Bytes by a rule: the first is the start, and each further one is the one before it and the step, mod 256.
-- Assumes nothing: these are definitions, and the laws of a loop that goes by them.
use Rattle.std.specs.Prelude.{◌≡◌, ℕ, zero, suc, ◌+◌, ◌%◌, ◌<◌, ◌≤◌, List, [], ◌∷◌, ◌++◌, length, slice_index, slice_set, refl}
use Rattle.std.proofs.Common.{sym, ap, ◌∙◌, append-nil, not-suc-le-zero, le_of_suc-le-suc, add-one, arith, drop_of_length-le}
use Rattle.base_lists.specs.Fill.{Filled, filled_none, filled_more, filled-all, filled-length}

-- n bytes
unfoldable pub ramp : ℕ → ℕ → ℕ → List ℕ
ramp start step zero = []
ramp start step (suc n) = start ∷ ramp ((start + step) % 256) step n

-- byte i of them
unfoldable pub byte_at : ℕ → ℕ → ℕ → ℕ
byte_at start step zero = start
byte_at start step (suc i) = byte_at ((start + step) % 256) step i

length-ramp : (start step n : ℕ) → length (ramp start step n) ≡ n
unfolding ramp
length-ramp start step zero = refl
length-ramp start step (suc n) = ap suc (length-ramp ((start + step) % 256) step n)

get_d-ramp : (start step n i : ℕ) → i < n → slice_index (ramp start step n) i ≡ byte_at start step i
unfolding ramp byte_at
get_d-ramp start step zero i h = absurd (not-suc-le-zero h)
get_d-ramp start step (suc n) zero h = refl
get_d-ramp start step (suc n) (suc i) h = get_d-ramp ((start + step) % 256) step n i (le_of_suc-le-suc h)

byte_at-suc : (start step i : ℕ) → byte_at start step (suc i) ≡ (byte_at start step i + step) % 256
unfolding byte_at
byte_at-suc start step zero = refl
byte_at-suc start step (suc i) = byte_at-suc ((start + step) % 256) step i

-- after i turns the buffer out holds the first i bytes by the rule, x is the next, and behind them stands what o held
pub record Ramped (start step : ℕ) (o out : List ℕ) (x i : ℕ) : Type 0 where
  pub put : Filled (ramp start step (length o)) o out i
  pub next : x ≡ byte_at start step i

pub ramped-none : (start step : ℕ) (o : List ℕ) → Ramped start step o o start 0
unfolding byte_at
ramped-none start step o = record { put = filled_none _ o (omega (arith, length-ramp start step (length o))); next = refl }

module _ {start step : ℕ} {o out : List ℕ} {x i : ℕ} (w : Ramped start step o out x i) where
  pub ramped-length : length out ≡ length o
  ramped-length = filled-length w.put

  pub ramped-more : (y : ℕ) → i < length out → y ≡ (x + step) % 256 → Ramped start step o (slice_set out i x) y (i + 1)
  ramped-more y h e =
      let g : i < length o = omega (arith, ramped-length) in
      record {
        put = filled_more x w.put (omega (arith, length-ramp start step (length o))) (w.next ∙ sym (get_d-ramp start step (length o) i g));
        next = e ∙ ap (λ (b : ℕ). (b + step) % 256) w.next ∙ sym (byte_at-suc start step i) ∙ ap (byte_at start step) (sym (add-one i));
      }

  pub ramped-all : length out ≤ i → out ≡ ramp start step (length o)
  ramped-all h =
      let n : length (ramp start step (length o)) ≡ length o = length-ramp start step (length o) in
      filled-all w.put (omega (arith, n, ramped-length))
      ∙ ap (λ (l : List ℕ). ramp start step (length o) ++ l) (drop_of_length-le o {i = length (ramp start step (length o))} (omega (arith, n)))
      ∙ append-nil (ramp start step (length o))
