-- `c-yes-exactly` (order W12 over the exported calls): `lubdhvani_accept` answers 0 if and only if key and font digest have their sizes, the stream is within
-- 65,536 bytes and 512 stretches, every stretch that a whole run of `lubdhvani_read` sees reads as a line, and no two of them have one nonce. That the stream
-- is bytes is a premise; what the call is passed meets it by its type (Bytes.antt). Assumes nothing.
use Rattle.std.specs.Prelude.{◌≡◌, refl, List, ℕ, ◌≤◌, length, Ok}
use Rattle.std.proofs.Common.{sym, ap, subst, ◌∙◌, arith}
use Rattle.base_lists.specs.Below.{Below}
use Rattle.line_layout.specs.Layouts.{layout_of}
use Rattle.frame_spec.specs.Told.{Told, told}
use Rattle.read_spec.specs.Sizes.{Sizes}
use Rattle.read_spec.specs.Ceiling.{all_work}
use Rattle.read_readings.specs.Readings.{Reading}
use Rattle.read_call.specs.Answers.{longest_stream}
use Rattle.demand_reading.specs.Promises.{Seen}
use Rattle.demand_reading.proofs.Whole.{whole-run-single}
use Rattle.accept_spec.specs.declared.Accepted as below
use Rattle.accept_spec.specs.Accepting.{accept_answer, accept_number}
use Rattle.accept_spec.specs.Exactly.{Cause, refused, repeated, all-good, at-fault}
use Rattle.accept_spec.proofs.Cases.{Case, sizes-wrong, long, many, judged, accept-case}
use Rattle.accept_runs.specs.Promises.{stretches_seen, Good}
use Rattle.accept_runs.proofs.YesExactly as inner
use Rattle.lubdhvani.specs.Accepting.{accepted_out}
use Rattle.lubdhvani.specs.Readings.{asked_of}
use Rattle.lubdhvani.specs.declared.accept.Accepted.{Accepted}
use Rattle.lubdhvani.specs.declared.read.Asked.{Asked}
use Rattle.lubdhvani_demands.proofs.Reading.{c-run}
use Rattle.lubdhvani_orders.specs.Promises.{Accepts, WholeRun}
use Rattle.lubdhvani_orders.specs.Whole.{c-whole, c-whole-run}

-- what a yes asks of a stream
pub record Acceptable (key font : List ℕ) (asked : Asked) (s : List ℕ) : Type 0 where
  pub sizes : Sizes (told key font (layout_of asked.layout))
  pub short : length s ≤ longest_stream
  pub good : (w : WholeRun key font asked s) → Good s (stretches_seen w.seen)

-- 0, with the stream's length for both places
abbrev pub yes : List ℕ → Accepted
yes s = record { number = 0; first = length s; closing = length s }

-- no fault has the number 0
no_zero : (s : List ℕ) {x : List (List ℕ)} {r : Reading} {a : below.Accepted} → Cause s x r a → accept_number a.answer ≡ 0 → ⊥
no_zero s (refused n) e = n e
no_zero s (repeated l o) e = omega (arith, e)

module _ (key font : List ℕ) (asked : Asked) (enough : all_work ≤ asked.allowed) (s : List ℕ) (bytes : Below 256 s) where
  abbrev t : Told
  t = told key font (layout_of asked.layout)

  zero-yes : (a : below.Accepted) → Case t asked.editions s a → accept_number a.answer ≡ 0 → a.answer ≡ Ok tt
  zero-yes _ sizes-wrong e = absurd (omega (arith, e))
  zero-yes _ long e = absurd (omega (arith, e))
  zero-yes _ many e = absurd (omega (arith, e))
  zero-yes _ (judged z h few (all-good l d)) e = refl
  zero-yes _ (judged z h few (at-fault f)) e = absurd (no_zero s f.cause e)

  -- of runs of the C calls what is asked of runs of the read calls below, and back: there is a run, and all see the same
  over-c : inner.Acceptable key font (asked_of asked) s → Acceptable key font asked s
  over-c a = record { sizes = a.sizes; short = a.short; good = λ w. a.good (c-whole w) }

  under-c : Acceptable key font asked s → inner.Acceptable key font (asked_of asked) s
  under-c a =
      let w = c-whole-run key font asked s a.sizes a.short in
      record {
        sizes = a.sizes;
        short = a.short;
        good = λ v. subst (λ (l : List Seen). Good s (stretches_seen l))
            (whole-run-single key font (asked_of asked) s a.sizes a.short (c-run w.run) w.ended v.run v.ended) (a.good w);
      }

  pub c-yes-exactly : (r : Accepted) → Accepts key font asked.editions asked.layout s r
      → (r.number ≡ 0 → Acceptable key font asked s) × (Acceptable key font asked s → r ≡ yes s)
  c-yes-exactly r p =
      let a = accept_answer t asked.editions s in
      let z = inner.yes-exactly key font (asked_of asked) enough s bytes a refl in (
        λ e. over-c (z.0 (zero-yes a (accept-case t asked.editions s) (sym (ap (λ (x : Accepted). x.number) p) ∙ e))),
        λ c. p ∙ ap accepted_out (z.1 (under-c c)),
      )
