-- `looked_at` meets its promise. Assumes nothing.
use Rattle.index_entry.proofs.Passing.{seen}
use Rattle.index_entry.proofs.looked_at.Goals as goal

pub returns : goal.returns
returns c = seen c.args.table.now c.args.count c.min-2.result c.min.result c.min.ensures c.min-2.ensures
