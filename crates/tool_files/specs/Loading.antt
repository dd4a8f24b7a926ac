-- What one read says, what becomes of a load after it, and what of a load stands in a buffer; and what is known of the buffers that the
-- system wrote to. Assumes nothing: these are definitions.
use Rattle.std.specs.Prelude.{◌≡◌, Bool, cond, List, ℕ, ◌+◌, ◌≤◌, eqb, leb, ℤ, pos, negsuc, length, drop, Ok, Err, Result}
use Rattle.tool_files.specs.declared.Heard.{Heard}
use Rattle.tool_files.specs.declared.Heard.TheVariants as heard
use Rattle.tool_files.specs.declared.LoadFault.{LoadFault}
use Rattle.tool_files.specs.declared.LoadFault.TheVariants.{Long, Failed}
use Rattle.tool_files.specs.declared.Step.{Step}
use Rattle.tool_files.specs.declared.Step.TheVariants.{On, Ended}

-- an answer is a count, 0 at the end, or an error, which may be that the read was interrupted
unfoldable pub heard_of : ℤ → Bool → Heard
heard_of (pos n) interrupted = cond (eqb n 0) heard.End (heard.Some n)
heard_of (negsuc n) interrupted = cond interrupted heard.Again heard.Failed

-- what becomes of a load that has `done` bytes, in a buffer with room for `room`
unfoldable pub stepped : ℕ → ℕ → Heard → Step
stepped done room (heard.Some n) = cond (leb (done + n) room) (On (done + n)) (Ended (Err Long))
stepped done room heard.Again = On done
stepped done room heard.End = Ended (Ok done)
stepped done room heard.Failed = Ended (Err Failed)

-- a load as it stands in a buffer with room for `room`: a count beyond it is no load
unfoldable pub held_in : Result ℕ LoadFault → ℕ → Result ℕ LoadFault
held_in (Ok n) room = cond (leb n room) (Ok n) (Err Failed)
held_in (Err fault) room = Err fault

-- no more bytes were heard than the buffer of a read has
abbrev pub HeardIn : Heard → ℕ → Type 0
HeardIn (heard.Some n) room = n ≤ room
HeardIn heard.Again room = Unit {0}
HeardIn heard.End room = Unit {0}
HeardIn heard.Failed room = Unit {0}

-- a count given is within the buffer, and behind it the buffer, which held o and holds o', is as it was
abbrev pub LoadedIn : Result ℕ LoadFault → List ℕ → List ℕ → Type 0
LoadedIn (Ok n) o o' = (n ≤ length o') × (drop n o' ≡ drop n o)
LoadedIn (Err f) o o' = Unit {0}
