-- What `accept` and `nonce_of` promise of one call, on plain lists (FromContracts.antt beside this has that it is their contracts), and what is asked of the
-- stretches that a whole run of `read` sees. Assumes nothing: these are definitions.
use Rattle.std.specs.Prelude.{◌≡◌, cond, List, [], ◌∷◌, map, ℕ, ◌≤◌, length}
use Rattle.line_layout.specs.declared.Layout.{Layout}
use Rattle.read_stretch.specs.Stretches.{span, bytes_at}
use Rattle.frame_spec.specs.Told.{told}
use Rattle.read_nonce.specs.declared.Nonce.{Nonce}
use Rattle.read_nonce.specs.Nonces.{nonce_answer, nonce_of}
use Rattle.demand_reading.specs.Promises.{Seen}
use Rattle.accept_spec.specs.declared.Accepted.{Accepted}
use Rattle.accept_spec.specs.Nonces.{AllDiffer}
use Rattle.accept_spec.specs.Accepting.{most_stretches, accept_answer}

-- an accept call with this key and font, these editions and this layout may answer r for the stream s
abbrev pub Accepts : List ℕ → List ℕ → ℕ → Layout → List ℕ → Accepted → Type 0
Accepts key font ed lay s r = r ≡ accept_answer (told key font lay) ed s

-- a nonce call may answer n for the bytes b
abbrev pub Tells : List ℕ → Nonce → Type 0
Tells b n = n ≡ nonce_answer b

-- what a run sees without the end
abbrev pub stretches_seen : List Seen → List Seen
stretches_seen [] = []
stretches_seen (v ∷ l) = cond v.ended [] (v ∷ stretches_seen l)

-- the nonce that the call tells of a stretch that is seen: of the bytes between its places
abbrev pub nonce_seen : List ℕ → Seen → List ℕ
nonce_seen s v = nonce_of (bytes_at s (span v.first v.closing))

-- each reads as a line
abbrev pub LinesSeen : List Seen → Type 0
LinesSeen [] = Unit {0}
LinesSeen (v ∷ l) = (v.number ≡ 0) × LinesSeen l

-- at most 512, each reads as a line, and no two have one nonce
pub record Good (s : List ℕ) (seen : List Seen) : Type 0 where
  pub few : length seen ≤ most_stretches
  pub lines : LinesSeen seen
  pub differ : AllDiffer (map (nonce_seen s) seen)
