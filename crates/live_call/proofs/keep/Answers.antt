-- `keep` meets its promise: a byte is written where a mark came before it and the window has room. Assumes nothing.
use Rattle.live_call.proofs.Numbers.{kept-none, kept-room, kept_full}
use Rattle.live_call.proofs.keep.Goals as goal

pub returns-then-n-eq-NO_MARK : goal.returns-then-n-eq-NO_MARK
returns-then-n-eq-NO_MARK c =
    let a = c.args in
    kept-none a.n a.window.now a.byte c.if-n-eq-NO_MARK.true

pub returns-then-held : goal.returns-then-held
returns-then-held c =
    let a = c.args in
    kept-room a.n a.window.now a.byte c.if-n-eq-NO_MARK.false c.if-held.true

pub returns-else-held : goal.returns-else-held
returns-else-held c =
    let a = c.args in
    kept_full a.n a.window.now a.byte c.if-n-eq-NO_MARK.false c.if-held.false
