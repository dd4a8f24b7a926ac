-- `words_of` meets its promise: the two numbers of eight bytes and of four. Assumes nothing.
use borrow.Author.Rules.{rules}
use Rattle.accept_nonces.proofs.Laws.{words_are}
use Rattle.accept_nonces.proofs.words_of.Goals as goal

pub returns : goal.returns
returns c = words_are c.args.n (search rules) _ _ c.from_be_bytes.ensures c.from_be_bytes-2.ensures
