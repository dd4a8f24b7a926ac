-- What `lubdhvani_replay` and `lubdhvani_stood` promise of one call, on plain lists (FromContracts.antt beside this has that it is their contracts). Assumes
-- nothing: these are definitions.
use Rattle.std.specs.Prelude.{◌≡◌, List, ℕ}
use Rattle.line_layout.specs.Layouts.{layout_of}
use Rattle.frame_spec.specs.Told.{told}
use Rattle.replay_spec.specs.Answers.{replay_answer, replay_out, stood_answer, stood_out}
use Rattle.lubdhvani.specs.Replaying.{replayed_out, stood_as}
use Rattle.lubdhvani.specs.declared.replay.Replayed.{Replayed}
use Rattle.lubdhvani.specs.declared.replay.Stood.{Stood}

-- a replay of a trace under this key and font, these editions and this layout's number, with the buffer o before it, may answer r and leave o' in it
abbrev pub Replays : List ℕ → List ℕ → ℕ → ℕ → List ℕ → List ℕ → Replayed → List ℕ → Type 0
Replays key font ed lay trace o r o' =
    (r ≡ replayed_out (replay_answer (told key font (layout_of lay)) ed trace o)) × (o' ≡ replay_out (told key font (layout_of lay)) ed trace o)

-- what stood at event n of a trace: the call may answer q and leave o'
abbrev pub Shows : List ℕ → List ℕ → ℕ → ℕ → List ℕ → ℕ → List ℕ → Stood → List ℕ → Type 0
Shows key font ed lay trace n o q o' =
    (q ≡ stood_as (stood_answer (told key font (layout_of lay)) ed trace n o)) × (o' ≡ stood_out (told key font (layout_of lay)) ed trace n o)
