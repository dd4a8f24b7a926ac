-- `c-desk-reads` and `c-desk-from-stream` (order W14): `desk-reads` and `desk-from-stream` over the exported calls. Where `lubdhvani_desk_copy` is done, a
-- whole run of `lubdhvani_read` over the new stream sees exactly the chosen lines in the asked order, and nothing else; and whatever the table is, each of
-- these is seen by the run over the stream given, at the place that the entry names, with the same bytes between its marks. That the stream is bytes is a
-- premise, which what the call is passed meets by its type (Bytes.antt). Assumes nothing.
use Rattle.std.specs.Prelude.{◌≡◌, refl, List, [], ◌∷◌, ◌++◌, map, ℕ, ◌≤◌, take, Result}
use Rattle.std.proofs.Common.{sym, ap, subst, ◌∙◌}
use Rattle.base_lists.specs.Below.{Below}
use Rattle.line_layout.specs.declared.Layout.{Layout}
use Rattle.line_layout.specs.Layouts.{layout_of}
use Rattle.frame_spec.specs.Told.{Told, told}
use Rattle.read_spec.specs.Ceiling.{all_work}
use Rattle.demand_reading.specs.Promises as reading
use Rattle.demand_reading.specs.Promises.{Seen}
use Rattle.demand_reading.specs.Reaching.{Ended}
use Rattle.demand_reading.specs.Whole.{WholeRun}
use Rattle.demand_joined.specs.Seeing.{the_end}
use Rattle.lubdhvani.specs.Readings.{asked_of}
use Rattle.lubdhvani.specs.declared.read.Asked.{Asked}
use Rattle.lubdhvani_demands.specs.Promises.{Run}
use Rattle.lubdhvani_demands.proofs.Reading.{c-run}
use Rattle.desk_spec.specs.declared.DeskRefusal.{DeskRefusal}
use Rattle.desk_spec.specs.Desk.{desk_call, desk_number, length_of}
use Rattle.desk_reading.specs.Promises.{given_seen, moved_all}
use Rattle.desk_reading.proofs.ReadsLaws.{desk-reads}
use Rattle.desk_reading.proofs.FromStream.{AllFrom, desk-from-stream}
use Rattle.lubdhvani_desk.specs.declared.Reworked.{Reworked}
use Rattle.lubdhvani_desk_demands.specs.Promises.{Copies}

-- with so many calls of the permutation allowed that every stretch has all the work it takes
module _ (key font : List ℕ) (asked : Asked) (s table : List ℕ) (count : ℕ) (bytes : Below 256 s) (all : all_work ≤ asked.allowed) where
  abbrev lay : Layout
  lay = layout_of asked.layout

  abbrev t : Told
  t = told key font lay

  module _ (list o : List ℕ) (r : Reworked) (out : List ℕ) (p : Copies key font asked.editions asked.layout s table count list o r out)
      (zero_number : r.number ≡ 0) where
    -- what the call below answers
    abbrev a : Result ℕ DeskRefusal
    a = desk_call t asked.editions s table count list o

    below-zero : desk_number a ≡ 0
    below-zero = sym (ap (λ (x : Reworked). x.number) p.0) ∙ zero_number

    so-many : r.length ≡ length_of a
    so-many = ap (λ (x : Reworked). x.length) p.0

    pub c-desk-reads : {seen : List Seen} → Run key font asked (take r.length out) 0 0 seen → Ended seen
        → seen ≡ moved_all 0 (map (given_seen t asked.editions s table) list) ++ (the_end r.length ∷ [])
    c-desk-reads {seen} run-to ended =
        let w : WholeRun key font (asked_of asked) (take (length_of a) out) = record {
          seen = seen;
          run = subst (λ (n : ℕ). reading.Run key font (asked_of asked) (take n out) 0 0 seen) so-many (c-run run-to);
          ended = ended;
        } in
        desk-reads key font asked.editions asked.allowed lay s table count bytes all list o a out (refl, p.1) below-zero w
        ∙ ap (λ (n : ℕ). moved_all 0 (map (given_seen t asked.editions s table) list) ++ (the_end n ∷ [])) (sym so-many)

    pub c-desk-from-stream : {seen : List Seen} → Run key font asked s 0 0 seen → Ended seen
        → AllFrom key font asked.editions asked.allowed lay s table count bytes all seen (take r.length out) 0 list
    c-desk-from-stream {seen} run-to ended =
        let w : WholeRun key font (asked_of asked) s = record { seen = seen; run = c-run run-to; ended = ended } in
        subst (λ (n : ℕ). AllFrom key font asked.editions asked.allowed lay s table count bytes all seen (take n out) 0 list) (sym so-many)
        (desk-from-stream key font asked.editions asked.allowed lay s table count bytes all list o a out (refl, p.1) below-zero w)
