-- What the C calls of an index give as structs: the number and the count, an entry, and the entry of a line. Assumes nothing.
use Rattle.index_spec.specs.declared.Updated.{Updated}
use Rattle.index_spec.specs.Updating.{update_number}
use Rattle.index_entry.specs.declared.Entry as found
use Rattle.index_entry.specs.declared.Line as found-line
use Rattle.lubdhvani.specs.declared.index.Indexed.{Indexed}
use Rattle.lubdhvani.specs.declared.index.Entry.{Entry}
use Rattle.lubdhvani.specs.declared.index.EntryLine.{EntryLine}

abbrev pub updated_out : Updated → Indexed
updated_out u = record { number = update_number u.answer; count = u.count }

abbrev pub entry_out : found.Entry → Entry
entry_out e = record { there = e.there; place = e.place; number = e.number }

abbrev pub line_out : found-line.Line → EntryLine
line_out l = record { there = l.there; index = l.index; place = l.place }
