-- The running digest (order W4): the record that feeding a message gives, and what start, feed and finish answer and leave, each refusal
-- one line, in order. Assumes nothing: these are definitions.
use Rattle.std.specs.Prelude.{◌≡◌, ℕ, ◌+◌, ◌*◌, ◌/◌, ◌%◌, Bool, true, cond, List, [], ◌++◌, ltb, length, take, drop, replicate, Ok, Err, Result, ⊤}
use Rattle.base_lists.specs.Buffers.{over}
use Rattle.gage_spec.specs.Permutation.{LARGEST}
use Rattle.gage_sponge.specs.Padding.{LARGEST-RATE}
use Rattle.gage_sponge.specs.Absorbing.{Run}
use Rattle.digest_spec.specs.Instances.{DIGEST, unknown, size_of, rate_of, outputs_of}
use Rattle.digest_spec.specs.Hashing.{Squeezed, absorbed}
use Rattle.digest_call.specs.Answers.{LONGEST-MESSAGE}
use Rattle.digest_sponge.specs.Parts.{taken, closed, within}
use Rattle.running_spec.specs.declared.Record.{Record}
use Rattle.running_spec.specs.declared.StartRefusal.{StartRefusal}
use Rattle.running_spec.specs.declared.StartRefusal.TheVariants as started-is
use Rattle.running_spec.specs.declared.FeedRefusal.{FeedRefusal}
use Rattle.running_spec.specs.declared.FeedRefusal.TheVariants as fed-is
use Rattle.running_spec.specs.declared.FinishRefusal.{FinishRefusal}
use Rattle.running_spec.specs.declared.FinishRefusal.TheVariants as finished-is

-- a record written anew from its instance, its total, the state's bytes and the unfinished bytes; all else in it is zero
unfoldable pub written : ℕ → ℕ → List ℕ → List ℕ → Record
written i t s rest =
    record { total = t; instance = i; finished = 0; state = within LARGEST s; block = within LARGEST-RATE rest }

-- what is left of x behind its whole blocks
unfoldable pub left_of : ℕ → List ℕ → List ℕ
left_of i x = drop (length x / rate_of i * rate_of i) x

-- the record that feeding the message m to instance i gives: the sponge's state after the whole blocks, and the unfinished bytes
unfoldable pub running_of : ℕ → List ℕ → Record
running_of i m = written i (length m) (absorbed (size_of i) (rate_of i) m (length m / rate_of i)).state (left_of i m)

-- r is the record that feeding m gives
abbrev pub Running : Record → List ℕ → Type 0
Running r m = r ≡ running_of r.instance m

-- what any record is taken for. The sponge so far: its state, and a call of the permutation for each whole block
unfoldable pub so_far : Record → Run
so_far r = record { state = take (size_of r.instance) r.state; calls = r.total / rate_of r.instance }

-- the unfinished bytes
unfoldable pub unfinished : Record → List ℕ
unfinished r = take (r.total % rate_of r.instance) r.block

-- finished is 0 before a finish; every other number is finished
abbrev pub is_finished : Record → Bool
is_finished r = ltb 0 r.finished

-- no known instance, or a count that no feeding gives
unfoldable pub unfeedable : Record → Bool
unfeedable r = cond (unknown r.instance) true (ltb LONGEST-MESSAGE r.total)

-- start: on any record. Done, it is the record that feeding nothing gives
unfoldable pub start_answer : ℕ → Result ⊤ StartRefusal
start_answer i =
    cond (unknown i) (Err started-is.Unknown)
    (Ok tt)

unfoldable pub start_record : Record → ℕ → Record
start_record r i = cond (unknown i) r (running_of i [])

-- feed: 14, 1, 3
unfoldable pub feed_answer : Record → List ℕ → Result ⊤ FeedRefusal
feed_answer r b =
    cond (is_finished r) (Err fed-is.AfterFinish)
    (cond (unfeedable r) (Err fed-is.Unknown)
    (cond (ltb LONGEST-MESSAGE (r.total + length b)) (Err fed-is.TooLong)
    (Ok tt)))

-- x is the unfinished bytes and those fed: each full block of it is taken in, and what is left is unfinished
unfoldable pub taken_up : Record → List ℕ → List ℕ
taken_up r x = (taken (rate_of r.instance) x (so_far r) (length x / rate_of r.instance)).state

unfoldable pub grown : Record → ℕ → List ℕ → Record
grown r t x = written r.instance t (taken_up r x) (left_of r.instance x)

-- done: the new record; refused: the record as it was
abbrev pub on_feed : Result ⊤ FeedRefusal → Record → Record → Record
on_feed (Ok tt) new r = new
on_feed (Err fed-is.AfterFinish) new r = r
on_feed (Err fed-is.Unknown) new r = r
on_feed (Err fed-is.TooLong) new r = r

unfoldable pub feed_record : Record → List ℕ → Record
feed_record r b = on_feed (feed_answer r b) (grown r (r.total + length b) (unfinished r ++ b)) r

-- finish: the unfinished bytes are the last block, and the digest is given out
unfoldable pub concluded : Record → Squeezed
concluded r = closed (rate_of r.instance) (outputs_of r.instance) (unfinished r) (so_far r)

-- 14, 1, 4
unfoldable pub finish_answer : Record → List ℕ → Result ℕ FinishRefusal
finish_answer r o =
    cond (is_finished r) (Err finished-is.AfterFinish)
    (cond (unfeedable r) (Err finished-is.Unknown)
    (cond (ltb (length o) DIGEST) (Err finished-is.NoRoom)
    (Ok (concluded r).run.calls)))

-- done: the new value; refused: what was there
abbrev pub on_finish : {A : Type 0} → Result ℕ FinishRefusal → A → A → A
on_finish (Ok n) new x = new
on_finish (Err f) new x = x

unfoldable pub finish_out : Record → List ℕ → List ℕ
finish_out r o = on_finish (finish_answer r o) (over (concluded r).hash o) o

-- a finished record keeps its instance and its total; state and block are zero
unfoldable pub ended : Record → Record
ended r = record {
  total = r.total;
  instance = r.instance;
  finished = 1;
  state = replicate LARGEST 0;
  block = replicate LARGEST-RATE 0;
}

unfoldable pub finish_record : Record → List ℕ → Record
finish_record r o = on_finish (finish_answer r o) (ended r) r

-- the order's numbers, and the count that finish reports
abbrev pub start_number : Result ⊤ StartRefusal → ℕ
start_number (Ok tt) = 0
start_number (Err started-is.Unknown) = 1

abbrev pub feed_number : Result ⊤ FeedRefusal → ℕ
feed_number (Ok tt) = 0
feed_number (Err fed-is.AfterFinish) = 14
feed_number (Err fed-is.Unknown) = 1
feed_number (Err fed-is.TooLong) = 3

abbrev pub finish_number : Result ℕ FinishRefusal → ℕ
finish_number (Ok n) = 0
finish_number (Err finished-is.AfterFinish) = 14
finish_number (Err finished-is.Unknown) = 1
finish_number (Err finished-is.NoRoom) = 4

abbrev pub finish_count : Result ℕ FinishRefusal → ℕ
finish_count (Ok n) = n
finish_count (Err f) = 0
