-- `joined` meets its promise: two copies over zeros, one behind the other. Assumes nothing.
use Rattle.running_grow.proofs.Filling.{block-joined}
use borrow.Author.Rules.{rules}
use Rattle.running_grow.proofs.joined.Goals as goal

pub returns : goal.returns
returns c =
    block-joined c.args.block
    c.args.bytes.now
    c.args.held _ _ (search rules)
    c.requires c.copy.ensures
    c.copy-2.ensures
