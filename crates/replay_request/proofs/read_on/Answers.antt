use mathlib.Core.Path.{refl, sym, ap, ◌∙◌}
use native.Mathlib.Omega.{arith}
use Rattle.frame_spec.specs.Told.{told}
use Rattle.replay_spec.proofs.Requesting.{request-end}
use Rattle.replay_spec.specs.Answers.{judging}
use Rattle.replay_request.specs.Requests.{reached_of}
use Rattle.replay_request.proofs.Looking.{line-told, end-told, pass-told}
use Rattle.replay_request.proofs.read_on.Goals as goal

pub loop-at-init : goal.loop-at-init
loop-at-init c = refl

pub returns-then-seen-eq-LINE : goal.returns-then-seen-eq-LINE
returns-then-seen-eq-LINE c =
    let l = c.loop-at in
    line-told (told c.args.key.now c.args.font.now c.args.layout) c.args.editions c.args.stream.now c.requires.layout_value c.requires.stream_len_bound l.at
    c.loop-at-test.true c.look_at-seen.result c.look_at-seen.ensures
    c.if-seen-eq-LINE.true
    ∙ sym (ap reached_of l.invariant)

pub returns-then-seen : goal.returns-then-seen
returns-then-seen c =
    let l = c.loop-at in
    c.nothing_at.ensures
    ∙ sym (ap reached_of (l.invariant ∙ end-told (told c.args.key.now c.args.font.now c.args.layout) c.args.editions c.args.stream.now
    c.requires.layout_value c.requires.stream_len_bound l.at c.loop-at-test.true c.look_at-seen.result c.look_at-seen.ensures
    c.if-seen-eq-LINE.false c.if-seen.true))

pub loop-at-smaller : goal.loop-at-smaller
loop-at-smaller c =
    let l = c.loop-at in
    let g = pass-told (told c.args.key.now c.args.font.now c.args.layout) c.args.editions c.args.stream.now c.requires.layout_value c.requires.stream_len_bound
    l.at c.loop-at-test.true c.look_at-seen.result c.look_at-seen.ensures c.if-seen-eq-LINE.false c.if-seen.false in
    omega (arith, g.on, g.within)

pub loop-at-preserved : goal.loop-at-preserved
loop-at-preserved c =
    let l = c.loop-at in
    l.invariant ∙ (pass-told (told c.args.key.now c.args.font.now c.args.layout) c.args.editions c.args.stream.now c.requires.layout_value c.requires.stream_len_bound
    l.at c.loop-at-test.true c.look_at-seen.result c.look_at-seen.ensures c.if-seen-eq-LINE.false c.if-seen.false).same

pub returns : goal.returns
returns c =
    let l = c.loop-at in
    c.nothing_at-2.ensures
    ∙ sym (ap reached_of (l.invariant ∙ request-end (judging (told c.args.key.now c.args.font.now c.args.layout) c.args.editions)
    c.args.stream.now l.at c.loop-at-test.false))
