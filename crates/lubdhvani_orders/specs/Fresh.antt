-- `c-fresh-as-read` (order W10 over the exported calls): a fresh build by `lubdhvani_index_update` that answers 0 holds, in order, exactly the stretches that a
-- whole run of `lubdhvani_read` sees, each with its place and its number. That the stream is bytes is a premise; what the call is passed meets it by its type
-- (Bytes.antt). Assumes nothing.
use Rattle.std.specs.Prelude.{◌≡◌, refl, List, ℕ, ◌≤◌}
use Rattle.std.proofs.Common.{sym, ap, subst, ◌∙◌}
use Rattle.base_lists.specs.Below.{Below}
use Rattle.line_layout.specs.Layouts.{layout_of}
use Rattle.frame_spec.specs.Told.{told}
use Rattle.read_spec.specs.Ceiling.{all_work}
use Rattle.index_spec.specs.Updating.{updated}
use Rattle.index_reading.proofs.Fresh.{AsRead, fresh-as-read}
use Rattle.lubdhvani.specs.declared.index.Indexed.{Indexed}
use Rattle.lubdhvani.specs.declared.read.Asked.{Asked}
use Rattle.lubdhvani_orders.specs.Promises.{Updates, WholeRun}
use Rattle.lubdhvani_orders.specs.Whole.{c-whole}

pub c-fresh-as-read : (key font : List ℕ) (asked : Asked) (s : List ℕ) → Below 256 s → all_work ≤ asked.allowed
    → (u : WholeRun key font asked s) (table : List ℕ) (r : Indexed) (table' : List ℕ)
    → Updates key font asked.editions asked.layout s table 0 r table' → r.number ≡ 0 → AsRead u.seen r.count table'
c-fresh-as-read key font asked s bytes all u table r table' p e =
    let lay = layout_of asked.layout in
    let n = updated (told key font lay) asked.editions s table 0 in
    subst (λ (x : Indexed). AsRead u.seen x.count table') (sym p.0)
    (fresh-as-read key font asked.editions asked.allowed lay s bytes all (c-whole u) table n table' (refl, p.1)
    (sym (ap (λ (x : Indexed). x.number) p.0) ∙ e))
