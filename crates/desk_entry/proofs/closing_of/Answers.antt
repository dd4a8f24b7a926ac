-- `closing_of` meets its promise: each return is a case of the definition. Assumes nothing.
use native.Mathlib.Omega.{arith}
use mathlib.Core.Path.{ap}
use Rattle.frame_spec.specs.Told.{told}
use Rattle.read_numbers.specs.declared.Report.{Report}
use Rattle.desk_entry.proofs.Closing.{at-start, beyond, elsewhere, no_line, a-line}
use Rattle.desk_entry.proofs.closing_of.Goals as goal

pub returns-then-place-eq0 : goal.returns-then-place-eq0
returns-then-place-eq0 c =
    let t = told c.args.key.now c.args.font.now c.args.layout in
    at-start t c.args.editions c.args.stream.now c.args.place c.if-place-eq0.true

pub returns-then-place-stream : goal.returns-then-place-stream
returns-then-place-stream c =
    let t = told c.args.key.now c.args.font.now c.args.layout in
    beyond t c.args.editions c.args.stream.now c.args.place c.if-place-eq0.false c.if-place-stream.true

pub returns-then-reading-place : goal.returns-then-reading-place
returns-then-reading-place c =
    let t = told c.args.key.now c.args.font.now c.args.layout in
    elsewhere t c.args.editions c.args.stream.now c.args.place c.if-place-eq0.false
    (omega (arith, c.if-place-stream.false)) c.read-reading.result
    c.read-reading.ensures.value c.if-reading-place.true

pub returns-then-numbers-ne-LINE : goal.returns-then-numbers-ne-LINE
returns-then-numbers-ne-LINE c =
    let t = told c.args.key.now c.args.font.now c.args.layout in
    no_line t c.args.editions c.args.stream.now c.args.place c.if-place-eq0.false
    (omega (arith, c.if-place-stream.false))
    c.read-reading.result c.read-reading.ensures.value
    c.if-reading-place.false c.numbers.result.outcome
    (ap (λ (x : Report). x.outcome) c.numbers.ensures) c.if-numbers-ne-LINE.true

pub returns : goal.returns
returns c =
    let t = told c.args.key.now c.args.font.now c.args.layout in
    a-line t c.args.editions c.args.stream.now c.args.place c.if-place-eq0.false
    (omega (arith, c.if-place-stream.false))
    c.read-reading.result c.read-reading.ensures.value
    c.if-reading-place.false c.numbers.result.outcome
    (ap (λ (x : Report). x.outcome) c.numbers.ensures) c.if-numbers-ne-LINE.false
