-- What growing comes to: the state after the blocks that the unfinished bytes and those fed fill, and the block with what is left; and what a step of it
-- is told of a block begun. Assumes nothing: these are definitions.
use Rattle.std.specs.Prelude.{◌≡◌, false, cond, List, ◌++◌, ℕ, ◌+◌, ◌%◌, ◌<◌, take}
use Rattle.gage_sponge.specs.Padding.{LARGEST-RATE}
use Rattle.digest_spec.specs.Instances.{unknown, rate_of}
use Rattle.digest_sponge.specs.Parts.{taken_in, within}
use Rattle.running_spec.specs.Running.{left_of}
use Rattle.running_grow.specs.declared.Grown.{Grown}

-- how many bytes a block begun by a known instance holds, and how many it lacks
pub record Growing (i held missing : ℕ) : Type 0 where
  pub known : unknown i ≡ false
  pub whole : held + missing ≡ rate_of i
  pub lacks : 0 < missing

-- x is the unfinished bytes and those fed
abbrev pub grown_with : ℕ → List ℕ → List ℕ → Grown
grown_with i s x = record { state = taken_in i s x; block = within LARGEST-RATE (left_of i x) }

-- of a message of which t bytes were fed before b; an unknown instance leaves both
unfoldable pub grown_by : ℕ → List ℕ → List ℕ → ℕ → List ℕ → Grown
grown_by i s block t b = cond (unknown i) (record { state = s; block = block }) (grown_with i s (take (t % rate_of i) block ++ b))
