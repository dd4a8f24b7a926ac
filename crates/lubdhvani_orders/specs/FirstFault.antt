-- `c-first-fault` (order W12 over the exported calls): where the number that `lubdhvani_accept` answers is none of 0, 2, 3 and 19, every stretch before the one
-- at the places answered reads as a line and their nonces differ, and that one is refused with the number, or, with 22, reads as a line itself and repeats a
-- nonce of theirs. Assumes nothing.
use Rattle.std.specs.Prelude.{◌≡◌, refl, List, ◌∷◌, ◌++◌, map, ℕ, ◌≤◌, length}
use Rattle.std.proofs.Common.{ap, subst}
use Rattle.base_lists.specs.Below.{Below}
use Rattle.line_layout.specs.Layouts.{layout_of}
use Rattle.frame_spec.specs.Told.{told}
use Rattle.read_spec.specs.Sizes.{Sizes}
use Rattle.read_spec.specs.Ceiling.{all_work}
use Rattle.read_call.specs.Answers.{longest_stream}
use Rattle.demand_reading.specs.Promises.{Seen}
use Rattle.accept_spec.specs.declared.Accepted as below
use Rattle.accept_spec.specs.Nonces.{AllDiffer}
use Rattle.accept_spec.specs.Accepting.{accept_answer}
use Rattle.accept_runs.specs.Promises.{stretches_seen, nonce_seen, LinesSeen}
use Rattle.accept_runs.proofs.FirstFault as proved
use Rattle.accept_runs.specs.FirstFault as inner
use Rattle.accept_runs.specs.FirstFault.{NamesOne, Because}
use Rattle.lubdhvani.specs.Accepting.{accepted_out}
use Rattle.lubdhvani.specs.Readings.{asked_of}
use Rattle.lubdhvani.specs.declared.accept.Accepted.{Accepted}
use Rattle.lubdhvani.specs.declared.read.Asked.{Asked}
use Rattle.lubdhvani_orders.specs.Promises.{Accepts, WholeRun}
use Rattle.lubdhvani_orders.specs.Whole.{c-whole}

-- the stretch named among those that a run sees
pub record Named (s : List ℕ) (r : Accepted) (seen : List Seen) : Type 0 where
  pub before : List Seen
  pub this : Seen
  pub behind : List Seen
  pub parts : seen ≡ before ++ (this ∷ behind)
  pub first-is : r.first ≡ this.first
  pub closing-is : r.closing ≡ this.closing
  pub lines : LinesSeen before
  pub differ : AllDiffer (map (nonce_seen s) before)
  pub because : Because s (map (nonce_seen s) before) this r.number

-- the call could read the stream, and so it names a stretch of every whole run
pub record Faulted (key font : List ℕ) (asked : Asked) (s : List ℕ) (r : Accepted) : Type 0 where
  pub sizes : Sizes (told key font (layout_of asked.layout))
  pub short : length s ≤ longest_stream
  pub named : (w : WholeRun key font asked s) → Named s r (stretches_seen w.seen)

-- as the struct says it
named-out : (s : List ℕ) (a : below.Accepted) (seen : List Seen) → inner.Named s a seen → Named s (accepted_out a) seen
named-out s a seen n = record {
  before = n.before;
  this = n.this;
  behind = n.behind;
  parts = n.parts;
  first-is = n.first-is;
  closing-is = n.closing-is;
  lines = n.lines;
  differ = n.differ;
  because = n.because;
}

module _ (key font : List ℕ) (asked : Asked) (enough : all_work ≤ asked.allowed) (s : List ℕ) (bytes : Below 256 s) where
  pub c-first-fault : (r : Accepted) → Accepts key font asked.editions asked.layout s r → NamesOne r.number → Faulted key font asked s r
  c-first-fault r p n =
      let t = told key font (layout_of asked.layout) in
      let a = accept_answer t asked.editions s in
      let f = proved.first-fault key font (asked_of asked) enough s bytes a refl (subst NamesOne (ap (λ (x : Accepted). x.number) p) n) in
      rw p (record {
        sizes = f.sizes;
        short = f.short;
        named = λ w. named-out s a (stretches_seen w.seen) (f.named (c-whole w));
      })
