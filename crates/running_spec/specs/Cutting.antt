-- Order W4's demands over the promises of start, feed and finish alone: any cutting of a message gives document 01's digest and its count, two
-- feeds leave what one leaves, and a record holds no more of the message than its unfinished block. Assumes nothing.
use Rattle.std.specs.Prelude.{◌≡◌, ℕ, Ok, Result, ⊤}
use mathlib.Core.List.{List, [], ◌∷◌, ◌++◌}
use Rattle.running_spec.specs.Running.{start_answer, start_record, feed_answer, feed_record, finish_answer, finish_out, finish_record}
use Rattle.running_spec.specs.declared.Record.{Record}
use Rattle.running_spec.specs.declared.StartRefusal.{StartRefusal}
use Rattle.running_spec.specs.declared.FeedRefusal.{FeedRefusal}
use Rattle.running_spec.specs.declared.FinishRefusal.{FinishRefusal}

-- what each call promises: of a record r before it, an answer, and a record r' after it (proofs/Single.antt of `running_call` has that these are
-- the contracts)
abbrev pub Starts : Record → ℕ → Result ⊤ StartRefusal → Record → Type 0
Starts r i a r' = (a ≡ start_answer i) × (r' ≡ start_record r i)

abbrev pub Feeds : Record → List ℕ → Result ⊤ FeedRefusal → Record → Type 0
Feeds r b a r' = (a ≡ feed_answer r b) × (r' ≡ feed_record r b)

-- and of a buffer o before it, o' after it
abbrev pub Finishes : Record → List ℕ → Result ℕ FinishRefusal → Record → List ℕ → Type 0
Finishes r o a r' o' = (a ≡ finish_answer r o) × (r' ≡ finish_record r o) × (o' ≡ finish_out r o)

-- feed calls one after the other, with these pieces and these answers
pub data Feeding : Record → List (List ℕ) → List (Result ⊤ FeedRefusal) → Record → Type 0 where
  none : {r : Record} → Feeding r [] [] r
  next : {r r' r'' : Record} {b : List ℕ} {bs : List (List ℕ)} {a : Result ⊤ FeedRefusal} {as' : List (Result ⊤ FeedRefusal)} → Feeds r b a r' → Feeding r' bs as' r''
      → Feeding r (b ∷ bs) (a ∷ as') r''

-- the pieces as one message
abbrev pub joined : List (List ℕ) → List ℕ
joined [] = []
joined (b ∷ bs) = b ++ joined bs

abbrev pub all_done : List (List ℕ) → List (Result ⊤ FeedRefusal)
all_done [] = []
all_done (b ∷ bs) = Ok tt ∷ all_done bs
