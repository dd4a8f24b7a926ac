-- `give_back` meets its promise: the sum from the left is the definition's from the right (`returned-left`). Assumes nothing.
use Rattle.gage_shuffle.proofs.Summing.{returned-left}
use Rattle.gage_shuffle.proofs.give_back.Goals as goal

pub returns : goal.returns
returns c = returned-left c.args.a c.args.b c.args.c c.args.d c.args.e c.args.f c.args.g c.args.h
