-- The writer accepts a line that was found: a reader gives none that a writer could not have sealed. Assumes nothing.
use Rattle.std.specs.Prelude.{◌≡◌, true, List, ℕ}
use Rattle.base_lists.specs.Below.{Below}
use Rattle.frame_body.specs.Fields.{Own}
use Rattle.frame_spec.specs.Told.{Told}
use Rattle.frame_write.specs.Answers.{sizes_right}
use Rattle.frame_write.specs.Outcomes.{Accepts, right-sealable, length-right}
use Rattle.read_spec.specs.Sizes.{Sizes}
use Rattle.read_spec.specs.Judged.{line}
use Rattle.read_spec.specs.Judging.{judge}
use Rattle.demand_reading.proofs.Written.{given_made}

pub found-accepts : (t : Told) → Sizes t → (ed : ℕ) (s : List ℕ) → Below 256 s → (own : Own) → sizes_right t own ≡ true
    → (k : Own) (L : List ℕ) (n : ℕ) → judge t ed s ≡ line k L n → Accepts t own L
found-accepts t z ed s bytes own r k L n e =
    let w = (given_made t z ed s bytes k L n e).accepts in
    record { sealable = right-sealable t own L r (length-right w.sealable); ruled = w.ruled }
