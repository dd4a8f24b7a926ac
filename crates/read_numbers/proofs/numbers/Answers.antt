-- `numbers` meets its promise: each answer has its four numbers. Assumes nothing.
use mathlib.Core.Path.{sym, ap, ◌∙◌}
use Rattle.read_numbers.specs.Reports.{report_of}
use Rattle.read_numbers.proofs.numbers.Goals as goal

pub returns-in-Sizes : goal.returns-in-Sizes
returns-in-Sizes c = c.told.ensures ∙ ap report_of (sym c.in-Sizes.is)

pub returns-in-TooLong : goal.returns-in-TooLong
returns-in-TooLong c = c.told-in-TooLong.ensures ∙ ap report_of (sym c.in-TooLong.is)

pub returns-in-NoRoom : goal.returns-in-NoRoom
returns-in-NoRoom c = c.told-in-NoRoom.ensures ∙ ap report_of (sym c.in-NoRoom.is)

pub returns-in-Beyond : goal.returns-in-Beyond
returns-in-Beyond c = c.told-in-Beyond.ensures ∙ ap report_of (sym c.in-Beyond.is)

pub returns-in-End : goal.returns-in-End
returns-in-End c = c.told-in-End.ensures ∙ ap report_of (sym c.in-End.is)

pub returns-in-Shape : goal.returns-in-Shape
returns-in-Shape c = c.told-in-Shape.ensures ∙ ap report_of (sym c.in-Shape.is)

pub returns-in-Stuffing : goal.returns-in-Stuffing
returns-in-Stuffing c = c.told-in-Stuffing.ensures ∙ ap report_of (sym c.in-Stuffing.is)

pub returns-in-Font : goal.returns-in-Font
returns-in-Font c = c.told-in-Font.ensures ∙ ap report_of (sym c.in-Font.is)

pub returns-in-Work : goal.returns-in-Work
returns-in-Work c = c.told-in-Work.ensures ∙ ap report_of (sym c.in-Work.is)

pub returns-in-Seal : goal.returns-in-Seal
returns-in-Seal c = c.told-in-Seal.ensures ∙ ap report_of (sym c.in-Seal.is)

pub returns-in-Unlisted : goal.returns-in-Unlisted
returns-in-Unlisted c = c.told-in-Unlisted.ensures ∙ ap report_of (sym c.in-Unlisted.is)

pub returns-in-Trade : goal.returns-in-Trade
returns-in-Trade c = c.told-in-Trade.ensures ∙ ap report_of (sym c.in-Trade.is)

pub returns-in-Layout : goal.returns-in-Layout
returns-in-Layout c = c.told-in-Layout.ensures ∙ ap report_of (sym c.in-Layout.is)

pub returns-in-Line : goal.returns-in-Line
returns-in-Line c = c.told-in-Line.ensures ∙ ap report_of (sym c.in-Line.is)
