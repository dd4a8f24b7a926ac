-- Each return of a step by value gives what the order's refusals say, in their order. Assumes nothing.
use Rattle.std.specs.Prelude.{Ok, Err, Result, ⊤}
use mathlib.Core.Path.{◌≡◌, refl, sym, ap, ◌∙◌}
use mathlib.Core.Bool.{false}
use mathlib.Core.List.{List, ◌++◌}
use Prim.Native.Nat.{ℕ, ◌+◌, ◌/◌, ◌%◌, ◌≤◌}
use native.Mathlib.Omega.{arith}
use borrow.Author.Tests.{le-ltb}
use lib.ListN.{length, take}
use Rattle.base_lists.specs.Buffers.{copied, over}
use Rattle.base_lists.specs.Over.{copied_all}
use Rattle.gage_spec.specs.Permutation.{LARGEST}
use Rattle.gage_sponge.specs.Absorbing.{from}
use Rattle.digest_spec.specs.Instances.{DIGEST, unknown, size_of, rate_of, outputs_of}
use Rattle.digest_call.specs.Answers.{LONGEST-MESSAGE}
use Rattle.digest_call.specs.Counting as digest-calls
use Rattle.digest_sponge.specs.Parts.{sponge_of, taken_in, closed_by, within}
use Rattle.digest_sponge.specs.Joining.{taken-state, closed-calls, closed-state}
use Rattle.digest_sponge.specs.declared.Shape.{Shape}
use Rattle.running_spec.specs.Running.{written, so_far, unfinished, unfeedable, taken_up, grown, feed_answer}
use Rattle.running_spec.specs.Running.{feed_record, concluded, finish_answer, finish_out, on_finish, ended}
use Rattle.running_grow.specs.declared.Grown.{Grown}
use Rattle.running_grow.specs.Growing.{grown_by}
use Rattle.running_grow.specs.Held.{rate-is, outputs-is}
use Rattle.running_spec.specs.Order.{finish-passes}
use Rattle.running_spec.specs.declared.Record.{Record}
use Rattle.running_spec.specs.declared.FeedRefusal.{FeedRefusal}
use Rattle.running_spec.specs.declared.FeedRefusal.TheVariants as fed-is
use Rattle.running_spec.specs.declared.FinishRefusal.{FinishRefusal}
use Rattle.running_spec.specs.declared.FinishRefusal.TheVariants as finished-is

-- a refused feed leaves the record
pub feed-refused : (r : Record) (b : List ℕ) (a : Result ⊤ FeedRefusal) → (a ≡ Ok tt → ⊥) → a ≡ feed_answer r b → r ≡ feed_record r b
unfolding feed_record
feed-refused r b (Ok tt) k e = absurd (k refl)
feed-refused r b (Err fed-is.AfterFinish) k e = rw (sym e)
feed-refused r b (Err fed-is.Unknown) k e = rw (sym e)
feed-refused r b (Err fed-is.TooLong) k e = rw (sym e)

-- a refused finish leaves the record
pub finish-refused : (r : Record) (a : Result ℕ FinishRefusal) → ((n : ℕ) → a ≡ Ok n → ⊥) → r ≡ on_finish a (ended r) r
finish-refused r (Ok n) k = absurd (k n refl)
finish-refused r (Err finished-is.AfterFinish) k = refl
finish-refused r (Err finished-is.Unknown) k = refl
finish-refused r (Err finished-is.NoRoom) k = refl

-- a record that is fed, and what `grow` gives for it
module _ (r : Record) (known : unknown r.instance ≡ false) where
  -- the state grown by a step is the one after the full blocks
  grown-state : (x : List ℕ) → taken_in r.instance r.state x ≡ within LARGEST (taken_up r x)
  unfolding taken_in taken_up so_far
  grown-state x =
      rw known
      (ap (within LARGEST) (taken-state (rate_of r.instance) x (from (take (size_of r.instance) r.state)) (so_far r)
      (length x / rate_of r.instance) refl))

  pub feed-done : (b : List ℕ) (g : Grown) → Ok tt ≡ feed_answer r b → g ≡ grown_by r.instance r.state r.block r.total b
      → record { total = r.total + length b; instance = r.instance; finished = 0; state = g.state; block = g.block } ≡ feed_record r b
  unfolding feed_record grown written unfinished grown_by
  feed-done b g e g-is =
      rw (g-is, known, grown-state (take (r.total % rate_of r.instance) r.block ++ b), sym e)

-- what the code works out of a record that is finished
module _ (r : Record) (known : unknown r.instance ≡ false) {shape : Shape} (Shape-is : shape ≡ sponge_of r.instance) where
  rate : shape.rate ≡ rate_of r.instance
  rate = rate-is r.instance r.total known Shape-is

  outputs : shape.outputs ≡ outputs_of r.instance
  outputs = outputs-is r.instance r.total known Shape-is

  -- the digest that is given out, and its count
  given_out : (hash : List ℕ) → hash ≡ closed_by r.instance r.state (take (r.total % shape.rate) r.block)
      → hash ≡ (concluded r).hash
  unfolding closed_by concluded unfinished so_far
  given_out hash e =
      e ∙ rw (known, rate)
      (closed-state (rate_of r.instance) (outputs_of r.instance) (take (r.total % rate_of r.instance) r.block)
      (from (take (size_of r.instance) r.state)) (so_far r) refl)

  counted : r.total / shape.rate + 1 + shape.outputs ≡ (concluded r).run.calls
  unfolding concluded so_far
  counted =
      rw (rate, outputs)
      (sym (closed-calls (rate_of r.instance) (outputs_of r.instance) (unfinished r) (so_far r)))

  -- the count is far below the machine's largest number
  pub count_fits : r.total ≤ LONGEST-MESSAGE → r.total / shape.rate + shape.outputs ≤ LONGEST-MESSAGE + DIGEST
  count_fits h = rw (rate, outputs) (digest-calls.count_fits r.instance r.total known h).1

  pub finish-done : (o hash w : List ℕ) → length hash ≡ DIGEST → unfeedable r ≡ false → r.finished ≤ 0 → DIGEST ≤ length o
      → hash ≡ closed_by r.instance r.state (take (r.total % shape.rate) r.block) → w ≡ copied hash o
      → (Ok (r.total / shape.rate + 1 + shape.outputs) ≡ finish_answer r o) × (w ≡ finish_out r o)
  finish-done o hash w long u f h hash-is w-is =
      let p = finish-passes r o (le-ltb 0 r.finished f) u h in
      let copy : w ≡ over hash o = w-is ∙ copied_all hash o (omega arith) in
      (ap Ok counted ∙ sym p.0, copy ∙ ap (λ (l : List ℕ). over l o) (given_out hash hash-is) ∙ sym p.1)
