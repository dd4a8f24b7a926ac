-- `write` meets its promise: a name and rows of their lengths, then what the reader says of the bundle made of them. Assumes nothing.
use Rattle.std.specs.Prelude.{Err}
use Rattle.std.proofs.lemmas.Result.{err_from_is_err_and}
use mathlib.Core.Path.{◌≡◌, sym, ap, ◌∙◌}
use mathlib.Core.Bool.{true}
use native.Mathlib.Omega.{arith}
use lib.ListN.{length, length-take}
use Rattle.bundle_spec.specs.Bundles.{name_tag, takes}
use Rattle.bundle_spec.specs.Lengths.{name-taken, length-bundle}
use Rattle.bundle_write.specs.Order.{name-refused, rows-refused, fault-refused, given}
use Rattle.bundle_write.proofs.Making.{first_part}
use Rattle.bundle_write.proofs.write.Goals as goal

pub returns-then-not-rule_takes : goal.returns-then-not-rule_takes
returns-then-not-rule_takes c =
    let s = c in record { value = (name-refused s.args.name.now s.args.rows.now s.args.out.now (sym c.rule_takes.ensures ∙ c.if-not-rule_takes.true)).0; out_after = (name-refused s.args.name.now s.args.rows.now s.args.out.now (sym c.rule_takes.ensures ∙ c.if-not-rule_takes.true)).1 }

pub returns-then-rows-ne-ROWS : goal.returns-then-rows-ne-ROWS
returns-then-rows-ne-ROWS c =
    let s = c in record { value = (rows-refused s.args.name.now s.args.rows.now s.args.out.now (sym c.rule_takes.ensures ∙ c.if-not-rule_takes.false) c.if-rows-ne-ROWS.true).0; out_after = (rows-refused s.args.name.now s.args.rows.now s.args.out.now (sym c.rule_takes.ensures ∙ c.if-not-rule_takes.false) c.if-rows-ne-ROWS.true).1 }

pub slice_bounds-bundle-end : goal.slice_bounds-bundle-end
slice_bounds-bundle-end c = omega (arith, name-taken (length c.args.name.now) (sym c.rule_takes.ensures ∙ c.if-not-rule_takes.false))

pub slice_bounds-read-end : goal.slice_bounds-read-end
slice_bounds-read-end c =
    simp length-take (omega (arith, name-taken (length c.args.name.now) (sym c.rule_takes.ensures ∙ c.if-not-rule_takes.false)))

pub slice_bounds-bundle-end-2 : goal.slice_bounds-bundle-end-2
slice_bounds-bundle-end-2 c = omega (arith, name-taken (length c.args.name.now) (sym c.rule_takes.ensures ∙ c.if-not-rule_takes.false))

pub slice_bounds-give-end : goal.slice_bounds-give-end
slice_bounds-give-end c =
    simp length-take (omega (arith, name-taken (length c.args.name.now) (sym c.rule_takes.ensures ∙ c.if-not-rule_takes.false)))

pub give-requires : goal.give-requires
give-requires c =
    let s = c in
    let rule : takes name_tag (length s.args.name.now) ≡ true = sym
    c.rule_takes.ensures ∙ c.if-not-rule_takes.false in
    let is = first_part s.args.name.now s.args.rows.now c.made-bundle.result
    c.if-rows-ne-ROWS.false
    c.made-bundle.ensures in
    rw is (omega (
      arith,
      length-bundle s.args.name.now s.args.rows.now
          c.if-rows-ne-ROWS.false,
      name-taken (length s.args.name.now) rule,
    ))

pub returns-in_err-read : goal.returns-in_err-read
returns-in_err-read c =
    let (y, err, from) = err_from_is_err_and c.from_residual.result c.from_residual.ensures.1 in
    let rule : takes name_tag (length c.args.name.now) ≡ true = sym c.rule_takes.ensures ∙ c.if-not-rule_takes.false in
    let is = first_part c.args.name.now c.args.rows.now c.made-bundle.result c.if-rows-ne-ROWS.false c.made-bundle.ensures in
    let told = fault-refused c.args.name.now c.args.rows.now c.args.out.now rule c.if-rows-ne-ROWS.false c.in_err-read.field-0.0
    (rw is at (sym c.read.ensures) ∙ c.in_err-read.was) in
    record { value = err ∙ ap Err from ∙ told.0; out_after = told.1 }

pub returns : goal.returns
returns c =
    let rule : takes name_tag (length c.args.name.now) ≡ true = sym c.rule_takes.ensures ∙ c.if-not-rule_takes.false in
    let is = first_part c.args.name.now c.args.rows.now c.made-bundle.result c.if-rows-ne-ROWS.false c.made-bundle.ensures in
    let told = given c.args.name.now c.args.rows.now c.args.out.now rule c.if-rows-ne-ROWS.false _ (rw is at (sym c.read.ensures) ∙ c.in_ok-read.was) in
    record { value = rw is at c.give.ensures.value ∙ told.0; out_after = rw is at c.give.ensures.out_after ∙ told.1 }
