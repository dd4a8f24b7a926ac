-- That the desk's theorems are not empty: over the stream of W13's instance, with a table whose one entry names the place of its first frame, the desk is
-- done with that frame asked for. Assumes nothing.
use Rattle.std.specs.Prelude.{◌≡◌, refl, List, [], ◌∷◌, ℕ, ◌≤◌, length, replicate, Ok}
use Rattle.std.proofs.Common.{arith, length-append}
use Rattle.std.proofs.lemmas.List.{length-replicate}
use Rattle.frame_stuff_spec.specs.Stuffing.{mark}
use Rattle.line_layout.specs.declared.Layout.TheVariants.{Neither}
use Rattle.read_spec.specs.Ceiling.{all_work}
use Rattle.demand_reading.proofs.Whole.{whole_run}
use Rattle.demand_joined.specs.Frames.{line_at}
use Rattle.demand_joined.proofs.Joined.{stream}
use Rattle.demand_joined.proofs.Instance.{key, font, asked, t, frame_one, pairs, sizes, pairs-within, instance-read}
use Rattle.index_spec.specs.Cases.{Takes}
use Rattle.desk_spec.specs.Desk.{place_of, closing_of, chosen, new_stream, desk_call}
use Rattle.desk_spec.specs.Chosen.{LineAt, closing-line}
use Rattle.desk_reading.specs.Promises.{ItemLine}
use Rattle.desk_reading.specs.Done.{desk-done, line-closes}
use Rattle.desk_reading.specs.Lines.{line-chosen-so}
use Rattle.desk_reading.specs.Pieces.{stretch-long}

abbrev pub s : List ℕ
s = stream pairs

-- its first entry names place 1; the others are 0
abbrev pub table : List ℕ
table = 256 ∷ replicate 511 0

abbrev pub editions : ℕ
editions = asked.editions

pub takes : Takes t s table 1
takes = record {
  sizes = sizes;
  short = pairs-within;
  room = omega (arith, length-replicate {A = ℕ} 511 0);
  few = omega arith;
}

first-line : ItemLine t editions s table 1 0
first-line =
    let u = whole_run key font asked s sizes pairs-within in
    line-chosen-so key font editions all_work Neither s table 1 takes (λ p c x. refl) u [] _ (line_at 0 frame_one) instance-read.is refl refl 0 (omega arith)
    refl

there : LineAt t editions s (place_of table 0) (closing_of t editions s (place_of table 0))
there = closing-line t editions sizes s pairs-within (place_of table 0) (line-closes t editions s table 1 takes 0 first-line)

long : length (new_stream t editions s table (0 ∷ [])) ≤ length s
unfolding new_stream chosen
long =
    let p = place_of table 0 in
    let c = closing_of t editions s p in
    let x = there.stretch-is in
    omega (arith, stretch-long s p c x, length-append (chosen t editions s table 0) (mark ∷ []), x.behind, x.some, x.ends)

pub instance-done : desk_call t editions s table 1 (0 ∷ []) s ≡ Ok (length (new_stream t editions s table (0 ∷ [])))
instance-done =
    (desk-done key font editions Neither s table 1 (0 ∷ []) s _ _ (refl, refl)).1
    (record { takes = takes; lines = (first-line, tt); short = omega (arith, long, pairs-within); fits = long })
