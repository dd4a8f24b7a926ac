-- That W13's theorems are not empty: two frames, of edition one and of edition two, with a filler of two bytes between them and one behind, built
-- from the definitions; there is a whole run over their stream, and `joined-read-apart` says what it sees. And the stated exception: with what
-- stands between the second frame's marks for a filler, `joined-read` gives its line there. Assumes nothing.
use Rattle.std.specs.Prelude.{◌≡◌, refl, List, [], ◌∷◌, ◌++◌, ℕ, ◌+◌, ◌≤◌, length, replicate, Ok}
use Rattle.std.proofs.Common.{ap, ap₂, subst, ◌∙◌, arith, length-append}
use Rattle.base_lists.specs.Below.{Below, below-replicate}
use Rattle.frame_stuff_spec.specs.Bytes.{stuffed-below}
use Rattle.line_spec.specs.Lines.{is_digit, is_listed, all_listed, any_digit, is_transit, transits, transits_right, is_trade, line_rule}
use Rattle.line_layout.specs.declared.Layout.TheVariants.{Neither}
use Rattle.line_layout.specs.Layouts.{layout_rule}
use Rattle.frame_body.specs.declared.Edition.TheVariants.{One, Two}
use Rattle.frame_body.specs.Fields.{nonce_length, digest_length, job_length, Own, own_of}
use Rattle.frame_spec.specs.Told.{key_length, Told, told}
use Rattle.frame_spec.specs.Frames.{sealed_body, frame_of}
use Rattle.frame_spec.proofs.Bytes.{sealed-body-below}
use Rattle.frame_spec.specs.Lengths.{frame-lengths}
use Rattle.frame_write.specs.Outcomes.{Accepts}
use Rattle.read_spec.specs.Editions.{allows, both}
use Rattle.read_spec.specs.Judged.{label_of}
use Rattle.read_spec.specs.Sizes.{Sizes}
use Rattle.read_spec.specs.Ceiling.{all_work}
use Rattle.read_call.specs.declared.Asked.{Asked}
use Rattle.read_call.specs.Answers.{longest_stream}
use Rattle.demand_reading.specs.Promises.{Seen}
use Rattle.demand_reading.specs.EveryLine.{given}
use Rattle.demand_reading.proofs.Whole.{whole_run}
use Rattle.demand_joined.specs.Makes.{accepted-makes}
use Rattle.demand_joined.specs.Seeing.{the_end}
use Rattle.demand_joined.specs.Frames.{Frame, inside, count_of, line_at, length-frame, inside-some, inside-free}
use Rattle.demand_joined.specs.Fillers.{Refused, FillerSeen, filler-exactly, inside-made, short-unmade}
use Rattle.demand_joined.proofs.Joined.{Pair, stream, Sees, no-filler, a-filler, last_frame, joined-read, joined-read-apart}

pub key : List ℕ
key = replicate key_length 0

pub font : List ℕ
font = replicate digest_length 0

abbrev pub asked : Asked
asked = record { editions = both; allowed = all_work; layout = Neither }

abbrev pub t : Told
t = told key font Neither

-- one digit
pub one_digit : List ℕ
one_digit = 0x30 ∷ []

pub one : Own
one = own_of One (replicate nonce_length 1) []

pub two : Own
two = own_of Two (replicate nonce_length 2) (replicate job_length 3)

digit-accepted : layout_rule Neither one_digit ≡ Ok tt
unfolding one_digit layout_rule line_rule all_listed is_listed is_digit is_trade any_digit transits_right transits is_transit
digit-accepted = refl

accepts-one : Accepts t one one_digit
unfolding key font one_digit one
accepts-one = record {
  sealable = record { key-is = refl; nonce-is = refl; job_is = refl; font-is = refl; line-from = omega arith; line-to = omega arith };
  ruled = digit-accepted;
}

accepts-two : Accepts t two one_digit
unfolding key font one_digit two
accepts-two = record {
  sealable = record { key-is = refl; nonce-is = refl; job_is = refl; font-is = refl; line-from = omega arith; line-to = omega arith };
  ruled = digit-accepted;
}

pub frame_one : Frame t both
unfolding one allows
frame_one = record { own = one; line = one_digit; bytes = frame_of t one one_digit; makes = accepted-makes t one one_digit accepts-one; allowed = refl }

pub frame_two : Frame t both
unfolding two allows
frame_two = record { own = two; line = one_digit; bytes = frame_of t two one_digit; makes = accepted-makes t two one_digit accepts-two; allowed = refl }

-- a dangling 7D with a byte before it
pub filler : List ℕ
filler = 0x00 ∷ 0x7D ∷ []

pub with_filler : Frame t both → Pair t both
unfolding filler
with_filler f = record {
  frame = f;
  filler = filler;
  filler-bytes = (omega arith, (omega arith, tt));
  filler-free = (λ e. omega (arith, e), (λ e. omega (arith, e), tt));
}

abbrev pub pairs : List (Pair t both)
pairs = with_filler frame_one ∷ with_filler frame_two ∷ []

pub sizes : Sizes t
unfolding key font
sizes = record { key-is = refl; font-is = refl }

pub pairs-within : length (stream pairs) ≤ longest_stream
unfolding with_filler filler frame_one frame_two one two
pairs-within =
    let x = frame_of t one one_digit in
    let y = frame_of t two one_digit in
    let f = filler in
    omega (
      arith,
      frame-lengths accepts-one.sealable,
      frame-lengths accepts-two.sealable,
      length-append x (f ++ (y ++ (f ++ []))),
      length-append y (f ++ []),
    )

-- what the run sees: the line of the first frame, one refusal at the filler's places, the line of the second, and the end
pub record Shown (seen : List Seen) : Type 0 where
  pub between : Seen
  pub refused : Refused (length frame_one.bytes) (length frame_one.bytes + 2) between
  pub is : seen ≡ line_at 0 frame_one ∷ (between ∷ (line_at (length frame_one.bytes + 2) frame_two ∷ (the_end (length (stream pairs)) ∷ [])))

shown : {seen : List Seen} → Sees (λ f. Refused) 0 pairs seen → Shown seen
unfolding with_filler filler
shown (a-filler p q v h r (last_frame o)) =
    let z : 0 + length frame_one.bytes ≡ length frame_one.bytes = omega arith in
    let x = frame_two.bytes in
    let f = filler in
    let e : 0 + length frame_one.bytes + 2 + length x + 2 ≡ length (stream pairs) =
    omega (arith, length-append frame_one.bytes (f ++ (x ++ (f ++ []))), length-append x (f ++ [])) in
    record {
      between = v;
      refused = subst (λ (k : ℕ). Refused k (k + 2) v) z r;
      is = ap₂ (λ (k n : ℕ). line_at 0 frame_one ∷ (v ∷ (line_at (k + 2) frame_two ∷ (the_end n ∷ [])))) z e;
    }
shown (no-filler p q e more) = absurd (omega (arith, e))

pub instance-read : Shown (whole_run key font asked (stream pairs) sizes pairs-within).seen
unfolding with_filler filler
instance-read =
    let w = whole_run key font asked (stream pairs) sizes pairs-within in
    shown (joined-read-apart key font asked sizes (omega arith) pairs pairs-within (short-unmade t both filler (omega arith), tt) w.run w.ended)

two-below : Below 256 two.nonce × Below 256 two.job
unfolding two
two-below = (below-replicate 256 nonce_length 2 (omega arith), below-replicate 256 job_length 3 (omega arith))

pub inside-below : Below 256 (inside frame_two)
unfolding inside frame_two key font one_digit
inside-below =
    stuffed-below (sealed_body t two one_digit)
    (sealed-body-below accepts-two.sealable (below-replicate 256 key_length 0 (omega arith)) (below-replicate 256 digest_length 0 (omega arith))
    two-below.0 two-below.1 (omega arith, tt))

-- the first frame, and behind it the inside of the second; then the second
abbrev pub excepted : List (Pair t both)
excepted =
    record { frame = frame_one; filler = inside frame_two; filler-bytes = inside-below; filler-free = inside-free frame_two }
    ∷ with_filler frame_two ∷ []

-- the line of the first frame, the second's line at the filler's places, and again at its own
abbrev pub excepted_seen : List Seen
excepted_seen =
    line_at 0 frame_one
    ∷ (given (length frame_one.bytes) (length frame_one.bytes + length (inside frame_two)) (label_of two) one_digit (count_of frame_two)
    ∷ (line_at (length frame_one.bytes + length (inside frame_two)) frame_two ∷ (the_end (length (stream excepted)) ∷ [])))

excepted-seen : {seen : List Seen} → Sees (FillerSeen t both) 0 excepted seen → seen ≡ excepted_seen
unfolding with_filler filler frame_two
excepted-seen (a-filler p q v h r (last_frame o)) =
    let b = frame_one.bytes in
    let i = inside frame_two in
    let y = frame_two.bytes in
    let f = filler in
    let z : 0 + length b ≡ length b = omega arith in
    let n : 0 + length b + length i + length y + length f ≡ length (stream excepted) =
    omega (arith, length-append b (i ++ (y ++ (f ++ []))), length-append i (y ++ (f ++ [])), length-append y (f ++ [])) in
    let e = filler-exactly (label_of two) one_digit (count_of frame_two) (inside-made frame_two two-below.0 two-below.1) r in
    ap (λ (x : Seen). line_at 0 frame_one ∷ (x ∷ (line_at (0 + length b + length i) frame_two ∷ (the_end (0 + length b + length i + length y + length f) ∷ [])))) e
    ∙ ap₂ (λ (k m : ℕ). line_at 0 frame_one
    ∷ (given k (k + length i) (label_of two) one_digit (count_of frame_two) ∷ (line_at (k + length i) frame_two ∷ (the_end m ∷ [])))) z n
excepted-seen (no-filler p q e more) = absurd (omega (arith, e, inside-some frame_two))

pub excepted-within : length (stream excepted) ≤ longest_stream
unfolding with_filler filler frame_one frame_two one two
excepted-within =
    let x = frame_of t one one_digit in
    let y = frame_of t two one_digit in
    let i = inside frame_two in
    let f = filler in
    omega (
      arith,
      frame-lengths accepts-one.sealable,
      frame-lengths accepts-two.sealable,
      length-frame frame_two,
      length-append x (i ++ (y ++ (f ++ []))),
      length-append i (y ++ (f ++ [])),
      length-append y (f ++ []),
    )

pub exception-read : (whole_run key font asked (stream excepted) sizes excepted-within).seen ≡ excepted_seen
exception-read =
    let w = whole_run key font asked (stream excepted) sizes excepted-within in
    excepted-seen (joined-read key font asked sizes (omega arith) excepted excepted-within w.run w.ended)
