-- What the C calls answer as structs: each answer of the calls below with its number (document 01) and what goes with it. Assumes nothing.
use Rattle.std.specs.Prelude.{Result, ℕ}
use Rattle.digest_call.specs.declared.DigestRefusal.{DigestRefusal}
use Rattle.digest_call.specs.Answers as hashing
use Rattle.running_spec.specs.declared.FinishRefusal.{FinishRefusal}
use Rattle.running_spec.specs.Running.{finish_number, finish_count}
use Rattle.ingage_answers.specs.declared.SealRefusal.{SealRefusal}
use Rattle.ingage_answers.specs.declared.OpenRefusal.{OpenRefusal}
use Rattle.ingage_answers.specs.Answers.{seal_number, seal_count, open_number, open_count}
use Rattle.frame_write.specs.declared.Written.{Written}
use Rattle.frame_write.specs.declared.FrameRefusal.{FrameRefusal}
use Rattle.frame_write.specs.Answers as writing
use Rattle.convert_spec.specs.declared.ConvertFault.{ConvertFault}
use Rattle.convert_spec.specs.Answers as converting
use Rattle.bundle_read.specs.declared.BundleFault.{BundleFault}
use Rattle.bundle_read.specs.Answers as judging
use Rattle.bundle_write.specs.declared.BundleRefusal.{BundleRefusal}
use Rattle.bundle_write.specs.declared.Part as inner
use Rattle.bundle_write.specs.Answers.{write_number, write_length}
use Rattle.lubdhvani.specs.declared.answers.Counted.{Counted}
use Rattle.lubdhvani.specs.declared.answers.Measured.{Measured}
use Rattle.lubdhvani.specs.declared.frame.Framed.{Framed}
use Rattle.lubdhvani.specs.declared.bundle.Part.{Part}

abbrev pub digested : Result ℕ DigestRefusal → Counted
digested a = record { number = hashing.digest_number a; calls = hashing.count_of a }

abbrev pub finished : Result ℕ FinishRefusal → Counted
finished a = record { number = finish_number a; calls = finish_count a }

abbrev pub sealed : Result ℕ SealRefusal → Counted
sealed a = record { number = seal_number a; calls = seal_count a }

abbrev pub opened : Result ℕ OpenRefusal → Counted
opened a = record { number = open_number a; calls = open_count a }

abbrev pub written : Result Written FrameRefusal → Framed
written a = record { number = writing.write_number a; length = writing.length_of a; calls = writing.count_of a }

abbrev pub converted : Result ℕ ConvertFault → Measured
converted a = record { number = converting.convert_number a; length = converting.length_in a }

abbrev pub bundled : Result ℕ BundleRefusal → Measured
bundled a = record { number = write_number a; length = write_length a }

abbrev pub judged : Result ℕ BundleFault → Measured
judged a = record { number = judging.read_number a; length = judging.length_of a }

abbrev pub part_out : inner.Part → Part
part_out p = record { first = p.first; length = p.length }
