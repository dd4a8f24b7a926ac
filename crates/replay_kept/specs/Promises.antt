-- What `request`, `replay` and `stood` promise of one call, on plain lists (FromContracts.antt beside this has that it is their contracts). Assumes nothing:
-- these are definitions.
use Rattle.std.specs.Prelude.{◌≡◌, List, ℕ}
use Rattle.line_layout.specs.declared.Layout.{Layout}
use Rattle.frame_spec.specs.Told.{told}
use Rattle.replay_spec.specs.declared.Replayed.{Replayed}
use Rattle.replay_spec.specs.declared.Stood.{Stood}
use Rattle.replay_spec.specs.Answers.{replay_answer, replay_out, stood_answer, stood_out}
use Rattle.replay_request.specs.declared.Reached.{Reached}
use Rattle.replay_request.specs.Requests.{reached_of, requested}

-- a request of the stream s from a place, under this key and font, these editions and this layout, may answer r
abbrev pub Requests : List ℕ → List ℕ → ℕ → Layout → List ℕ → ℕ → Reached → Type 0
Requests key font ed lay s from r = r ≡ reached_of (requested (told key font lay) ed s from)

-- a replay of a trace under this key and font, these editions and this layout, with the buffer o before it, may answer r and leave o' in it
abbrev pub Replays : List ℕ → List ℕ → ℕ → Layout → List ℕ → List ℕ → Replayed → List ℕ → Type 0
Replays key font ed lay trace o r o' =
    (r ≡ replay_answer (told key font lay) ed trace o) × (o' ≡ replay_out (told key font lay) ed trace o)

-- what stood at event n of a trace: the call may answer q and leave o'
abbrev pub Shows : List ℕ → List ℕ → ℕ → Layout → List ℕ → ℕ → List ℕ → Stood → List ℕ → Type 0
Shows key font ed lay trace n o q o' =
    (q ≡ stood_answer (told key font lay) ed trace n o) × (o' ≡ stood_out (told key font lay) ed trace n o)
