-- `desk-reads` (order W14): where the call is done, a whole run of `read` over the new stream sees exactly the chosen lines in the asked order, with
-- their editions and jobs, and nothing else. From the promises of `desk` and `read` alone. Assumes nothing.
use Rattle.std.specs.Prelude.{◌≡◌, refl, List, [], ◌∷◌, ◌++◌, map, ℕ, ◌+◌, ◌-◌, ◌≤◌, length, take, Ok, Result}
use Rattle.std.proofs.Common.{sym, ap, subst, ◌∙◌, arith}
use Rattle.std.proofs.Math.Path.{ap₂}
use Rattle.base_lists.specs.Buffers.{over}
use Rattle.base_lists.specs.Over.{take-over}
use Rattle.base_lists.specs.Below.{Below}
use Rattle.line_layout.specs.declared.Layout.{Layout}
use Rattle.read_stretch.specs.Stretches.{span, bytes_at}
use Rattle.frame_spec.specs.Told.{Told, told}
use Rattle.read_spec.specs.Judged.{Judged, number_in}
use Rattle.read_spec.specs.Ceiling.{all_work}
use Rattle.read_readings.specs.Readings.{reading}
use Rattle.read_readings.specs.Joined.{Fit, Fits, joined}
use Rattle.read_call.specs.Answers.{judged_within}
use Rattle.demand_reading.specs.Promises.{Seen, Run}
use Rattle.demand_reading.specs.Whole.{WholeRun}
use Rattle.demand_joined.specs.Seeing.{seen_of, the_end, seen_to}
use Rattle.demand_joined.specs.Stretches.{stretches-read}
use Rattle.index_spec.specs.Updating.{judged_all}
use Rattle.index_spec.specs.Cases.{Takes}
use Rattle.index_reading.specs.Promises.{asking}
use Rattle.desk_spec.specs.declared.DeskRefusal.{DeskRefusal}
use Rattle.desk_spec.specs.Desk.{place_of, closing_of, chosen, new_stream, out_of, length_of}
use Rattle.desk_spec.specs.Chosen.{LineAt, closing-line}
use Rattle.desk_reading.specs.Promises.{Desks, Done, written, ItemLine, AllLines, given_seen, moved_to, behind, moved_all}
use Rattle.desk_reading.specs.Done.{DoneWhen, desk-done, line-closes}
use Rattle.desk_reading.specs.Lines.{judged-same}
use Rattle.desk_reading.specs.Pieces.{stretch-long, stretch-free, piece, joined-new, chosen_read, pieces-read}

-- with so many calls of the permutation allowed that every stretch has all the work it takes
module _ (key font : List ℕ) (editions a : ℕ) (lay : Layout) (s table : List ℕ) (count : ℕ) (bytes : Below 256 s) (all : all_work ≤ a) where
  abbrev t : Told
  t = told key font lay

  -- how a run judges
  abbrev judge : List ℕ → Judged
  judge = judged_within t (asking editions a lay)

  module _ (w : Takes t s table count) (i : ℕ) (x : ItemLine t editions s table count i) where
    -- the line that an item chooses
    pub item-line : LineAt t editions s (place_of table i) (closing_of t editions s (place_of table i))
    item-line = closing-line t editions w.sizes s w.short (place_of table i) (line-closes t editions s table count w i x)

    abbrev place : ℕ
    place = place_of table i

    abbrev closing : ℕ
    closing = closing_of t editions s (place_of table i)

    pub chosen-long : length (chosen t editions s table i) ≡ closing - place
    unfolding chosen
    chosen-long = stretch-long s place closing item-line.stretch-is

    fits : Fit (piece t editions s table i)
    unfolding chosen
    fits = record {
      some = omega (arith, chosen-long, item-line.stretch-is.some);
      run-free = stretch-free s place closing item-line.stretch-is;
      filler-free = tt;
    }

    -- a run judges its bytes as with all the work allowed
    pub chosen-judged : judge (bytes_at s (span place closing)) ≡ judged_all t editions (bytes_at s (span place closing))
    chosen-judged = judged-same key font editions a lay s table count w bytes all place closing item-line.stretch-is

    -- it is a line
    pub chosen-line : (given_seen t editions s table i).number ≡ 0
    chosen-line = ap number_in item-line.judged

    chosen-seen : (at : ℕ) → seen_of (reading (span (at + 1) (at + 1 + length (chosen t editions s table i))) (judge (chosen t editions s table i)))
        ≡ moved_to at (given_seen t editions s table i)
    unfolding chosen
    chosen-seen at =
        ap₂ (λ (n : ℕ) (j : Judged). seen_of (reading (span (at + 1) (at + 1 + n)) j)) chosen-long chosen-judged

  module _ (w : Takes t s table count) where
    all_fit : (list : List ℕ) → AllLines t editions s table count list → Fits (map (piece t editions s table) list)
    all_fit [] x = tt
    all_fit (i ∷ list) x = (fits w i x.0, all_fit list x.1)

    all_seen : (at : ℕ) (list : List ℕ) → AllLines t editions s table count list
        → map seen_of (chosen_read t editions s table judge at list) ≡ moved_all at (map (given_seen t editions s table) list)
    all_seen at [] x = refl
    all_seen at (i ∷ list) x =
        let n : at + 1 + length (chosen t editions s table i) + 1 ≡ behind at (given_seen t editions s table i) = omega (arith, chosen-long w i x.0) in
        ap₂ ◌∷◌ (chosen-seen w i x.0 at)
        (ap (λ (k : ℕ). map seen_of (chosen_read t editions s table judge k list)) n ∙ all_seen (behind at (given_seen t editions s table i)) list x.1)

  module _ (list o : List ℕ) (r : Result ℕ DeskRefusal) (out : List ℕ) (p : Desks key font editions lay s table count list o r out) (d : Done r) where
    abbrev new : List ℕ
    new = new_stream t editions s table list

    pub when : DoneWhen t editions s table count list (length o)
    when = (desk-done key font editions lay s table count list o r out p).0 d

    pub answer-is-done : r ≡ Ok (length new)
    answer-is-done = (desk-done key font editions lay s table count list o r out p).1 when

    -- the output then starts with the new stream, and behind it is as it was
    pub out-is : out ≡ over new o
    out-is = p.1 ∙ ap (λ (x : Result ℕ DeskRefusal). out_of x new o) (sym p.0 ∙ answer-is-done)

    pub written_is : written r out ≡ new
    written_is = ap₂ (λ (x : Result ℕ DeskRefusal) (l : List ℕ). take (length_of x) l) answer-is-done out-is ∙ take-over new o (length new) refl

    pub desk-reads : (u : WholeRun key font (asking editions a lay) (written r out))
        → u.seen ≡ moved_all 0 (map (given_seen t editions s table) list) ++ (the_end (length_of r) ∷ [])
    desk-reads u =
        let ps = map (piece t editions s table) list in
        let e : written r out ≡ joined ps = written_is ∙ sym (joined-new t editions s table list) in
        let n : length (joined ps) ≡ length_of r = ap length (joined-new t editions s table list) ∙ sym (ap length_of answer-is-done) in
        let run : Run key font (asking editions a lay) (joined ps) 0 0 u.seen =
        subst (λ (l : List ℕ). Run key font (asking editions a lay) l 0 0 u.seen) e u.run in
        stretches-read key font (asking editions a lay) when.takes.sizes ps (all_fit when.takes list when.lines)
        (omega (arith, ap length (joined-new t editions s table list), when.short)) run u.ended
        ∙ ap₂ seen_to n (pieces-read t editions s table judge 0 list)
        ∙ ap (λ (l : List Seen). l ++ (the_end (length_of r) ∷ [])) (all_seen when.takes 0 list when.lines)
