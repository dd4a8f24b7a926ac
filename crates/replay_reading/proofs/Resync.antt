-- `replay-resync` (order W11, demand 3, first half), from the promise of `read` alone: take two traces whose streams, as received before a request that gives
-- nothing, are equal from some mark on, however the bytes before it differ and however they were cut into events; the lines given end with the same lines,
-- those that calls from that mark on see. Assumes nothing.
use Rattle.std.specs.Prelude.{◌≡◌, refl, true, cond, List, [], ◌∷◌, ◌++◌, map, ℕ, ◌≤◌, eqb, drop}
use Rattle.std.proofs.Common.{sym, ap, ◌∙◌}
use Rattle.base_lists.specs.Below.{Below}
use Rattle.frame_spec.specs.Told.{told}
use Rattle.read_spec.specs.Sizes.{Sizes}
use Rattle.read_spec.specs.Ceiling.{all_work}
use Rattle.read_readings.specs.Resync.{Mark}
use Rattle.read_call.specs.declared.Asked.{Asked}
use Rattle.demand_reading.specs.Promises.{Seen}
use Rattle.demand_reading.specs.Reaching.{Reaches}
use Rattle.demand_reading.specs.FromStart.{counted_from}
use Rattle.demand_reading.proofs.FromStart.{resync-from-start}
use Rattle.demand_reading.specs.Whole.{WholeRun}
use Rattle.replay_spec.specs.declared.Kind.TheVariants as kinds
use Rattle.replay_spec.specs.declared.Event.{Event}
use Rattle.replay_spec.specs.Events.{events}
use Rattle.replay_spec.specs.Press.{nothing, start, is_done, run}
use Rattle.replay_reading.specs.Order.{gave}
use Rattle.replay_reading.specs.Streams.{stream-few}
use Rattle.replay_reading.proofs.Given.{lines_seen, J, drained}
use Rattle.replay_reading.proofs.Written.{lines-seen-append}

-- places don't matter to lines
lines-counted : (i : ℕ) (l : List Seen) → lines_seen (map (counted_from i) l) ≡ lines_seen l
lines-counted i [] = refl
lines-counted i (v ∷ l) =
    ap (λ (x : List (List ℕ)). cond v.ended x (cond (eqb v.number 0) (v.line ∷ x) x)) (lines-counted i l)

module _ (key font : List ℕ) (asked : Asked) (z : Sizes (told key font asked.layout)) (enough : all_work ≤ asked.allowed) where
  -- a request of a trace, with no fault before it, that gives nothing
  pub record Emptied : Type 0 where
    pub trace : List ℕ
    pub bytes : Below 256 trace
    pub before : List Event
    pub event : Event
    pub after : List Event
    pub parts : events trace ≡ before ++ (event ∷ after)
    pub request-is : event.kind ≡ kinds.Asked
    pub sound : is_done (run (J key font asked z enough) trace start before).answer ≡ true
    pub gives_nothing : (run (J key font asked z enough) trace start (before ++ (event ∷ []))).given ≡ nothing

  -- the stream received before it, and the lines given before it
  abbrev pub received : Emptied → List ℕ
  received x = (run (J key font asked z enough) x.trace start x.before).stream

  abbrev pub lines_given : Emptied → List (List ℕ)
  lines_given x = gave (J key font asked z enough) x.trace start x.before

  -- lines given up to place i, and those of calls from there on
  pub record Parted (x : Emptied) (i : ℕ) (seen : List Seen) (behind : List (List ℕ)) : Type 0 where
    pub reaches : Reaches key font asked (received x) i seen
    pub lines : lines_given x ≡ lines_seen reaches.before ++ lines_seen reaches.after
    pub behind-it : lines_seen reaches.after ≡ behind

  parted : (x : Emptied) (i : ℕ) (w : WholeRun key font asked (received x)) (u : Reaches key font asked (received x) i w.seen)
      → (behind : List (List ℕ)) → lines_seen u.after ≡ behind → Parted x i w.seen behind
  parted x i w u behind e = record {
    reaches = u;
    lines = drained key font asked z enough x.trace x.bytes x.before x.after x.event x.parts x.request-is x.sound x.gives_nothing w
        ∙ ap lines_seen u.parts ∙ lines-seen-append u.before u.after;
    behind-it = e;
  }

  pub replay-resync : (x y : Emptied) (i j : ℕ) → Mark (received x) i → Mark (received y) j → drop i (received x) ≡ drop j (received y)
      → (w : WholeRun key font asked (received x)) (v : WholeRun key font asked (received y))
      → (behind : List (List ℕ)) × Parted x i w.seen behind × Parted y j v.seen behind
  replay-resync x y i j m n e w v =
      let (p, q, same) = resync-from-start key font asked (received x) (received y) i j z (stream-few (J key font asked z enough) x.trace x.before)
      (stream-few (J key font asked z enough) y.trace y.before) m n e w.run w.ended v.run v.ended in
      let alike : lines_seen p.after ≡ lines_seen q.after =
      sym (lines-counted i p.after) ∙ ap lines_seen same ∙ lines-counted j q.after in
      (lines_seen q.after, parted x i w p (lines_seen q.after) alike, parted y j v q (lines_seen q.after) refl)
