-- `request-as-read` of the call itself (order W11), from the promises of `request` and `read` alone: a request call answers what read calls from its place come
-- to, until the first line or the end. Assumes nothing.
use Rattle.std.specs.Prelude.{◌≡◌, List, ℕ, ◌≤◌, length}
use Rattle.std.proofs.Common.{ap, ◌∙◌, le-ltb}
use Rattle.base_lists.specs.Below.{Below}
use Rattle.frame_spec.specs.Told.{told}
use Rattle.read_spec.specs.Sizes.{Sizes}
use Rattle.read_spec.specs.Ceiling.{all_work}
use Rattle.read_call.specs.declared.Asked.{Asked}
use Rattle.read_call.specs.Answers.{longest_stream}
use Rattle.demand_reading.specs.Promises.{Seen, Run}
use Rattle.demand_reading.proofs.GivenWritten.{told-sized}
use Rattle.replay_spec.specs.Press.{Met}
use Rattle.replay_request.specs.declared.Reached.{Reached}
use Rattle.replay_request.specs.Requests.{reached_of, requested}
use Rattle.replay_reading.specs.Requests.{Until}
use Rattle.replay_reading.proofs.Requests.{request-as-read}
use Rattle.replay_kept.specs.Promises.{Requests}

pub call-as-read : (key font : List ℕ) (asked : Asked) (z : Sizes (told key font asked.layout)) → all_work ≤ asked.allowed
    → (s : List ℕ) → length s ≤ longest_stream → Below 256 s → (at : ℕ) → at ≤ length s
    → (r : Reached) → Requests key font asked.editions asked.layout s at r
    → {seen : List Seen} {m : Met} → Run key font asked s 0 at seen → Until at seen m → r ≡ reached_of m
unfolding requested
call-as-read key font asked z enough s h bytes at f r p run until =
    let t = told key font asked.layout in
    p
    ∙ rw (told-sized t z.key-is z.font-is, le-ltb longest_stream (length s) h)
    (ap reached_of (request-as-read key font asked z enough s h bytes at f run until))
