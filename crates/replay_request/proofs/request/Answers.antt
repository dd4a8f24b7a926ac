-- `request` meets its promise: each refusal is a line of `requested`. Assumes nothing.
use mathlib.Core.Path.{sym, ap, ◌∙◌}
use Rattle.frame_spec.specs.Told.{told}
use Rattle.replay_spec.specs.Refusals.{other_key, other-font, both-sized}
use Rattle.replay_request.specs.Requests.{reached_of}
use Rattle.replay_request.proofs.Asking.{unsized, too_long, reads_on}
use Rattle.replay_request.proofs.request.Goals as goal

pub returns-then-key-ne-KEY_LENGTH : goal.returns-then-key-ne-KEY_LENGTH
returns-then-key-ne-KEY_LENGTH c =
    let t = (told c.args.key.now c.args.font.now c.args.layout) in
    c.nothing_at.ensures ∙ sym (ap reached_of (unsized t c.args.editions c.args.stream.now c.args.from (other_key t c.if-key-ne-KEY_LENGTH.true)))

pub returns-then-font-ne-DIGEST_LENGTH : goal.returns-then-font-ne-DIGEST_LENGTH
returns-then-font-ne-DIGEST_LENGTH c =
    let t = (told c.args.key.now c.args.font.now c.args.layout) in
    c.nothing_at-then-font-ne-DIGEST_LENGTH.ensures ∙ sym (ap reached_of (unsized t c.args.editions c.args.stream.now c.args.from (other-font t c.if-font-ne-DIGEST_LENGTH.true)))

pub returns-then-stream-gt-LONGEST_STREAM : goal.returns-then-stream-gt-LONGEST_STREAM
returns-then-stream-gt-LONGEST_STREAM c =
    let t = (told c.args.key.now c.args.font.now c.args.layout) in
    c.nothing_at-then-stream-gt-LONGEST_STREAM.ensures
    ∙ sym (ap reached_of (too_long t c.args.editions c.args.stream.now c.args.from
    (both-sized t c.if-key-ne-KEY_LENGTH.false c.if-font-ne-DIGEST_LENGTH.false) c.if-stream-gt-LONGEST_STREAM.true))

pub read_on-requires : goal.read_on-requires
read_on-requires c =
    record { layout_value = both-sized (told c.args.key.now c.args.font.now c.args.layout) c.if-key-ne-KEY_LENGTH.false c.if-font-ne-DIGEST_LENGTH.false; stream_len_bound = c.if-stream-gt-LONGEST_STREAM.false }

pub returns : goal.returns
returns c =
    let t = (told c.args.key.now c.args.font.now c.args.layout) in
    c.read_on.ensures
    ∙ sym (ap reached_of (reads_on t c.args.editions c.args.stream.now c.args.from
    (both-sized t c.if-key-ne-KEY_LENGTH.false c.if-font-ne-DIGEST_LENGTH.false) c.if-stream-gt-LONGEST_STREAM.false))
