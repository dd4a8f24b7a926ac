-- What one step of a walker comes to for C: the reading, and the place where it ends. Assumes nothing.
use Rattle.std.specs.Prelude.{ℕ, List}
use Rattle.frame_spec.specs.Told.{Told}
use Rattle.read_call.specs.Answers.{read_answer}
use Rattle.read_call.specs.declared.Asked.{Asked}
use Rattle.lubdhvani.specs.Readings.{reading_out}
use Rattle.lubdhvani.specs.declared.walk.Step.{Step}

abbrev pub step_out : Told → Asked → List ℕ → ℕ → List ℕ → Step
step_out t a s from o = record { reading = reading_out (read_answer t a s from o); at = (read_answer t a s from o).closing }
