-- `substituted_byte` meets its promise: the formula gives the products of the table (`mixed-is`). Assumes nothing.
use Rattle.gage_cells.proofs.Formula.{mixed, mixed-is}
use Rattle.gage_cells.proofs.substituted_byte.Goals as goal

pub returns : goal.returns
unfolding mixed
returns c = mixed-is c.args.p c.args.b c.ranges.b.fits
