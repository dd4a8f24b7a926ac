-- What stands at a place of a trace, test by test, as `event_at` goes. Assumes nothing.
use mathlib.Core.Path.{◌≡◌, refl, sym, ap}
use mathlib.Core.Bool.{true, false}
use mathlib.Core.List.{List}
use Prim.Native.Nat.{ℕ, ◌+◌, ◌*◌, ◌-◌, ◌≤◌, ◌<◌}
use native.Mathlib.Omega.{arith}
use lib.ListN.{length, get_or, drop, length-drop}
use lib.Seq.{length-take-le}
use borrow.Author.Tests.{eq-eqb, le-leb, lt-leb}
use Rattle.base_fields.specs.Fields.{head_length, high_byte, no_field, front}
use Rattle.base_fields.specs.Laws.{head_at, front-few}
use Rattle.replay_spec.specs.declared.Kind.TheVariants.{Bad}
use Rattle.replay_spec.specs.Events.{kind_of, rule, takes, event, event_of, event_at}

module _ (trace : List ℕ) (at : ℕ) where
  tag : ℕ
  tag = get_or trace at 0

  -- what the length's two bytes say
  abbrev pub said : ℕ
  said = get_or trace (at + 1) 0 * high_byte + get_or trace (at + 2) 0

  none : front takes tag (drop at trace) ≡ no_field → event Bad at (length trace) ≡ event_at trace at
  unfolding event_at tag
  none e = sym (ap (event_of (length trace) at tag) e)

  -- fewer bytes than a head has are left
  pub too_few : length trace < at + head_length → event Bad at (length trace) ≡ event_at trace at
  too_few h = none (front-few takes tag (drop at trace) (omega (arith, length-drop at trace)))

  module _ (h : at + head_length ≤ length trace) where
    -- the tests of a field whose head is there
    pub other_length : rule (kind_of (get_or trace at 0)) said ≡ false → event Bad at (length trace) ≡ event_at trace at
    unfolding front takes tag
    other_length r = none (rw (head_at trace at h, eq-eqb (get_or trace at 0) (get_or trace at 0) refl, r))

    pub too_short : rule (kind_of (get_or trace at 0)) said ≡ true → length trace - at - head_length < said → event Bad at (length trace) ≡ event_at trace at
    unfolding front takes tag
    too_short r s =
        none (rw (
          head_at trace at h,
          eq-eqb (get_or trace at 0) (get_or trace at 0) refl,
          r,
          lt-leb said (length (drop (at + head_length) trace))
              (omega (arith, length-drop (at + head_length) trace)),
        ))

    pub whole : rule (kind_of (get_or trace at 0)) said ≡ true → said ≤ length trace - at - head_length
        → event (kind_of (get_or trace at 0)) (at + head_length) (at + head_length + said) ≡ event_at trace at
    unfolding event_at front takes tag
    whole r s =
        let l : said ≤ length (drop (at + head_length) trace) = omega (arith, length-drop (at + head_length) trace) in
        rw (
          head_at trace at h,
          eq-eqb (get_or trace at 0) (get_or trace at 0) refl,
          r,
          le-leb said (length (drop (at + head_length) trace)) l,
          length-take-le said
              (drop (at + head_length) trace) l,
        )
