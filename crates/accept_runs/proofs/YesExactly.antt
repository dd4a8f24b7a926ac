-- `yes-exactly` (order W12), from the promises alone: yes if and only if key and font digest have their sizes, the stream is within 65,536 bytes and 512
-- stretches, every stretch that a whole run of `read` sees reads as a line, and no two of them have one nonce. That the stream is bytes is a premise, which
-- a call meets by its type. Assumes nothing.
use Rattle.std.specs.Prelude.{◌≡◌, List, map, ℕ, ◌≤◌, length, Ok}
use Rattle.std.proofs.Common.{sym, ap, subst, ◌∙◌, arith}
use Rattle.std.proofs.lemmas.List.{length-map}
use Rattle.base_lists.specs.Below.{Below}
use Rattle.frame_spec.specs.Told.{Told, told}
use Rattle.read_spec.specs.Sizes.{Sizes}
use Rattle.read_spec.specs.Ceiling.{all_work}
use Rattle.read_readings.specs.Readings.{Reading}
use Rattle.read_call.specs.declared.Asked.{Asked}
use Rattle.read_call.specs.Answers.{longest_stream}
use Rattle.demand_reading.specs.Whole.{WholeRun}
use Rattle.demand_reading.proofs.Whole.{whole_run}
use Rattle.demand_joined.specs.Seeing.{seen_of}
use Rattle.accept_spec.specs.declared.Accepted.{Accepted}
use Rattle.accept_spec.specs.Nonces.{AllDiffer}
use Rattle.accept_spec.specs.Accepting.{most_stretches, yes, read_all, accept_answer, accept_number}
use Rattle.accept_spec.specs.Exactly.{Lines, nonces_of, Cause, refused, repeated, all-good, at-fault}
use Rattle.accept_spec.proofs.Cases.{Case, sizes-wrong, long, many, judged, accept-case, good-accepted}
use Rattle.accept_runs.specs.Promises.{Accepts, stretches_seen, Good}
use Rattle.accept_runs.proofs.Runs.{whole-seen, lines-seen, seen-lines, nonces-seen}

-- what a yes asks of a stream
pub record Acceptable (key font : List ℕ) (asked : Asked) (s : List ℕ) : Type 0 where
  pub sizes : Sizes (told key font asked.layout)
  pub short : length s ≤ longest_stream
  pub good : (w : WholeRun key font asked s) → Good s (stretches_seen w.seen)

-- no fault is a yes
faulty : (s : List ℕ) {x : List (List ℕ)} {r : Reading} {a : Accepted} → Cause s x r a → a.answer ≡ Ok tt → ⊥
faulty s (refused n) e = n (ap accept_number e)
faulty s (repeated l o) e = omega (arith, ap accept_number e)

module _ (key font : List ℕ) (asked : Asked) (enough : all_work ≤ asked.allowed) (s : List ℕ) (bytes : Below 256 s) where
  abbrev t : Told
  t = told key font asked.layout

  abbrev rs : List Reading
  rs = read_all t asked.editions s

  good-seen : Sizes t → length s ≤ longest_stream → length rs ≤ most_stretches → Lines rs → AllDiffer (nonces_of s rs)
      → (w : WholeRun key font asked s) → Good s (stretches_seen w.seen)
  good-seen z h few l d w = subst (Good s) (sym (whole-seen key font asked enough s bytes z h w)) (record {
    few = omega (arith, few, length-map rs seen_of);
    lines = lines-seen rs l;
    differ = subst AllDiffer (sym (nonces-seen s rs)) d;
  })

  only_yes : (a : Accepted) → Case t asked.editions s a → a.answer ≡ Ok tt → Acceptable key font asked s
  only_yes _ sizes-wrong e = absurd (omega (arith, ap accept_number e))
  only_yes _ long e = absurd (omega (arith, ap accept_number e))
  only_yes _ many e = absurd (omega (arith, ap accept_number e))
  only_yes _ (judged z h few (all-good l d)) e = record { sizes = z; short = h; good = good-seen z h few l d }
  only_yes _ (judged z h few (at-fault f)) e = absurd (faulty s f.cause e)

  yes-then : Acceptable key font asked s → accept_answer t asked.editions s ≡ yes s
  yes-then a =
      let w = whole_run key font asked s a.sizes a.short in
      let g : Good s (map seen_of rs) = subst (Good s) (whole-seen key font asked enough s bytes a.sizes a.short w) (a.good w) in
      good-accepted t asked.editions s a.sizes a.short (omega (arith, g.few, length-map rs seen_of)) (seen-lines rs g.lines)
      (subst AllDiffer (nonces-seen s rs) g.differ)

  pub yes-exactly : (r : Accepted) → Accepts key font asked.editions asked.layout s r
      → (r.answer ≡ Ok tt → Acceptable key font asked s) × (Acceptable key font asked s → r ≡ yes s)
  yes-exactly r p = (
    λ e. only_yes (accept_answer t asked.editions s) (accept-case t asked.editions s) (ap (λ (a : Accepted). a.answer) (sym p) ∙ e),
    λ a. p ∙ yes-then a,
  )
