-- `accept` meets its promise, refusal by refusal in the order. Assumes nothing.
use mathlib.Core.Path.{◌∙◌}
use Rattle.index_count.specs.Counted.{stretches_from}
use Rattle.accept_call.proofs.Judging.{bad-key, bad-font, too_long, too_many, all-judged}
use Rattle.accept_call.proofs.accept.Goals as goal

pub returns-then-key-ne-KEY_LENGTH : goal.returns-then-key-ne-KEY_LENGTH
returns-then-key-ne-KEY_LENGTH c =
    c.refused_with.ensures ∙ bad-key c.args.key.now c.args.font.now c.args.layout c.args.editions c.args.stream.now c.if-key-ne-KEY_LENGTH.true

pub returns-then-font-ne-DIGEST_LENGTH : goal.returns-then-font-ne-DIGEST_LENGTH
returns-then-font-ne-DIGEST_LENGTH c =
    c.refused_with-then-font-ne-DIGEST_LENGTH.ensures ∙ bad-font c.args.key.now c.args.font.now c.args.layout c.args.editions c.args.stream.now c.if-key-ne-KEY_LENGTH.false
    c.if-font-ne-DIGEST_LENGTH.true

pub returns-then-stream-gt-LONGEST_STREAM : goal.returns-then-stream-gt-LONGEST_STREAM
returns-then-stream-gt-LONGEST_STREAM c =
    c.refused_with-then-stream-gt-LONGEST_STREAM.ensures ∙ too_long c.args.key.now c.args.font.now c.args.layout c.args.editions c.args.stream.now c.if-key-ne-KEY_LENGTH.false
    c.if-font-ne-DIGEST_LENGTH.false c.if-stream-gt-LONGEST_STREAM.true

pub returns-then-counted-gt-MOST_STRETCHES : goal.returns-then-counted-gt-MOST_STRETCHES
unfolding stretches_from
returns-then-counted-gt-MOST_STRETCHES c =
    c.refused_with-then-counted-gt-MOST_STRETCHES.ensures ∙ too_many c.args.key.now c.args.font.now c.args.layout c.args.editions c.args.stream.now
    c.if-key-ne-KEY_LENGTH.false c.if-font-ne-DIGEST_LENGTH.false c.if-stream-gt-LONGEST_STREAM.false
    (rw (← c.stretches_from-counted.ensures) c.if-counted-gt-MOST_STRETCHES.true)

pub accept_all-requires : goal.accept_all-requires
unfolding stretches_from
accept_all-requires c = record {
  counted_value = (c.stretches_from-counted.ensures, c.if-counted-gt-MOST_STRETCHES.false);
  sizes = record {
    key-is = c.if-key-ne-KEY_LENGTH.false;
    font-is =
        c.if-font-ne-DIGEST_LENGTH.false;
  };
}

pub returns : goal.returns
unfolding stretches_from
returns c =
    c.accept_all.ensures ∙ all-judged c.args.key.now c.args.font.now c.args.layout c.args.editions c.args.stream.now
    c.if-key-ne-KEY_LENGTH.false c.if-font-ne-DIGEST_LENGTH.false c.if-stream-gt-LONGEST_STREAM.false
    (rw (← c.stretches_from-counted.ensures) c.if-counted-gt-MOST_STRETCHES.false)
