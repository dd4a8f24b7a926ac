-- What the desk's C call answers as a struct: number, length and item. Assumes nothing.
use Rattle.std.specs.Prelude.{Result, ℕ}
use Rattle.desk_spec.specs.declared.DeskRefusal.{DeskRefusal}
use Rattle.desk_call.specs.declared.Report.{Report}
use Rattle.desk_call.specs.Steps.{report_of}
use Rattle.lubdhvani_desk.specs.declared.Reworked.{Reworked}

abbrev pub report_out : Report → Reworked
report_out r = record { number = r.number; length = r.length; item = r.item }

abbrev pub reworked_out : Result ℕ DeskRefusal → Reworked
reworked_out a = report_out (report_of a)
