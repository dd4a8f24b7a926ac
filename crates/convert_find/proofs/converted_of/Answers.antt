-- `converted_of` meets its promise, case by case. Assumes nothing.
use Rattle.convert_find.proofs.converted_of.Goals as goal

pub returns-in-Line : goal.returns-in-Line
returns-in-Line c = rw c.in-Line.is
