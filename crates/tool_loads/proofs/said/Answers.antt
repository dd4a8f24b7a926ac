-- `said` meets its promise: the key, then the font, then the stream. Assumes nothing.
use Rattle.tool_loads.proofs.Saying.{no_key_lem, no-font, over-long, all_there, not-loaded}
use Rattle.tool_loads.proofs.said.Goals as goal

pub returns-then-not-is_key : goal.returns-then-not-is_key
returns-then-not-is_key c =
    let a = c.args in
    no_key_lem a.key a.font a.stream c.is_key.ensures c.if-not-is_key.true c.as_text.ensures

pub returns-then-not-is_font : goal.returns-then-not-is_font
returns-then-not-is_font c =
    let a = c.args in
    no-font a.key a.font a.stream c.is_key.ensures c.if-not-is_key.false
    c.is_font.ensures c.if-not-is_font.true
    c.as_text-then-not-is_font.ensures

pub returns-then-n-gt-LONGEST_STREAM : goal.returns-then-n-gt-LONGEST_STREAM
returns-then-n-gt-LONGEST_STREAM c =
    let a = c.args in
    over-long a.key a.font a.stream c.is_key.ensures
    c.if-not-is_key.false
    c.is_font.ensures c.if-not-is_font.false
    c.in-Ok.is c.if-n-gt-LONGEST_STREAM.true c.as_text-then-n-gt-LONGEST_STREAM.ensures

pub returns-else-n-gt-LONGEST_STREAM : goal.returns-else-n-gt-LONGEST_STREAM
returns-else-n-gt-LONGEST_STREAM c =
    let a = c.args in
    all_there a.key a.font a.stream c.is_key.ensures
    c.if-not-is_key.false
    c.is_font.ensures c.if-not-is_font.false
    c.in-Ok.is c.if-n-gt-LONGEST_STREAM.false c.nothing.ensures

pub returns-in-Err : goal.returns-in-Err
returns-in-Err c =
    let a = c.args in
    not-loaded a.key a.font a.stream c.is_key.ensures
    c.if-not-is_key.false
    c.is_font.ensures c.if-not-is_font.false c.in-Err.is
    c.unloaded.ensures
