use Rattle.ingage_call.proofs.Passing.{passing-none, passing-more, passing-all, length-passing, Lent, lent}
use Rattle.ingage_call.proofs.Pads.{end-between, cut_short, most-blocks}
use Rattle.ingage_spec.specs.Pieces.{piece-starts}
use native.Mathlib.Nat.{le_trans, le-add_right}
use mir.Syntax.{w64}
use mir.Val.{Fits}
use mir.Facts.{Fits-le}
use Prim.Native.Nat.{◌+◌, ◌-◌, ◌*◌, ◌≤◌}
use lib.ListN.{length, take, drop}
use native.Mathlib.Omega.{arith}
use Rattle.ingage_call.proofs.texts.Cipher.pass.Goals as goal
use Rattle.ingage_call.proofs.texts.Cipher.pass.Goals.{After-end_of-end, After-given-to, In-loop-i, Start}

-- one more than the text's length is a number of the machine
fits : (c : Start) → Fits w64 (length c.args.text.now + 1)
fits c = omega arith

-- where the piece starts and ends
starts : (c : In-loop-i) → c.loop-i.i * c.args.self.z.rate ≤ length
    c.args.text.now
starts c = piece-starts c.args.self.z.rate c.args.text.now c.loop-i.i
    c.loop-i-test.true

ends : (c : After-end_of-end)
    → (c.loop-i.i * c.args.self.z.rate ≤ c.end_of-end.result)
    × (c.end_of-end.result ≤ length c.args.text.now)
    × (c.end_of-end.result - c.loop-i.i * c.args.self.z.rate ≤
    c.args.self.z.rate)
ends c = end-between c.args.self.z.rate (c.loop-i.i *
    c.args.self.z.rate) (length c.args.text.now) c.end_of-end.result
    (piece-starts c.args.self.z.rate c.args.text.now c.loop-i.i c.loop-i-test.true) c.end_of-end.ensures

-- the piece is no longer than a block
short-part : (c : After-end_of-end) → length (take (c.end_of-end.result - c.loop-i.i * c.args.self.z.rate) (drop (c.loop-i.i * c.args.self.z.rate) c.args.text.now))
    ≤ c.args.self.z.rate
short-part c =
    le_trans (cut_short (c.end_of-end.result - c.loop-i.i * c.args.self.z.rate) (drop (c.loop-i.i * c.args.self.z.rate) c.args.text.now)) (ends c).2

-- the part of the buffer that the piece is given
part : (c : After-given-to) → Lent c.args.way c.given-from.result c.given-to.result
    (take (c.end_of-end.result - c.loop-i.i * c.args.self.z.rate) (drop (c.loop-i.i * c.args.self.z.rate) c.args.text.now)) c.loop-i.out
part c =
    let at = c.loop-i.i * c.args.self.z.rate in
    let n = length c.args.text.now in
    let end = end-between c.args.self.z.rate at n c.end_of-end.result (piece-starts c.args.self.z.rate c.args.text.now c.loop-i.i c.loop-i-test.true) c.end_of-end.ensures in
    let kept = length-passing c.args.self.z c.args.self.fits c.args.text.now c.args.s c.args.out.now c.args.way c.requires c.loop-i.invariant in
    lent c.args.way at c.end_of-end.result c.given-from.result c.given-to.result c.args.text.now c.loop-i.out end.0 end.1 (rw kept c.requires)
    c.given-from.ensures c.given-to.ensures

pub nonzero_div-count : goal.nonzero_div-count
nonzero_div-count c = c.args.self.fits.moves

pub overflow_add-count : goal.overflow_add-count
overflow_add-count c = Fits-le (most-blocks c.args.self.z.rate (length c.args.text.now)) (fits (goal.at.overflow_add-count c).Start)

pub loop-i-init : goal.loop-i-init
loop-i-init c = passing-none c.args.way c.args.self.z c.args.text.now c.args.s
    c.args.out.now

pub overflow_mul-at : goal.overflow_mul-at
overflow_mul-at c = Fits-le (le_trans (starts (goal.at.overflow_mul-at c).In-loop-i) (le-add_right (length c.args.text.now) 1))
    (fits (goal.at.overflow_mul-at c).Start)

pub end_of-end-requires : goal.end_of-end-requires
end_of-end-requires c = starts (goal.at.end_of-end-requires c).In-loop-i

pub slice_bounds-pass_piece-count : goal.slice_bounds-pass_piece-count
slice_bounds-pass_piece-count c = (ends (goal.at.slice_bounds-pass_piece-count c).After-end_of-end).0

pub slice_bounds-pass_piece-start : goal.slice_bounds-pass_piece-start
slice_bounds-pass_piece-start c = (ends (goal.at.slice_bounds-pass_piece-start c).After-end_of-end).0

pub slice_bounds-pass_piece-end : goal.slice_bounds-pass_piece-end
slice_bounds-pass_piece-end c = (ends (goal.at.slice_bounds-pass_piece-end c).After-end_of-end).1

pub slice_bounds-pass_piece-count-in-loop-i : goal.slice_bounds-pass_piece-count-in-loop-i
slice_bounds-pass_piece-count-in-loop-i c = (part (goal.at.slice_bounds-pass_piece-count-in-loop-i c).After-given-to).starts

pub slice_bounds-pass_piece-start-in-loop-i : goal.slice_bounds-pass_piece-start-in-loop-i
slice_bounds-pass_piece-start-in-loop-i c = (part (goal.at.slice_bounds-pass_piece-start-in-loop-i c).After-given-to).starts

pub slice_bounds-pass_piece-end-in-loop-i : goal.slice_bounds-pass_piece-end-in-loop-i
slice_bounds-pass_piece-end-in-loop-i c = (part (goal.at.slice_bounds-pass_piece-end-in-loop-i c).After-given-to).ends

pub pass_piece-next-requires : goal.pass_piece-next-requires
pass_piece-next-requires c = (
  short-part (goal.at.pass_piece-next-requires c).After-end_of-end,
  (part (goal.at.pass_piece-next-requires c).After-given-to).fills,
)

pub loop-i-preserved : goal.loop-i-preserved
loop-i-preserved c = passing-more c.args.self.z
    c.args.self.fits
    c.args.text.now
    c.args.s
    c.args.out.now
    c.args.way
    c.end_of-end.result c.given-from.result
    c.given-to.result _ c.pass_piece-next.result
    c.loop-i.invariant
    c.loop-i-test.true
    c.end_of-end.ensures c.given-from.ensures
    c.given-to.ensures c.pass_piece-next.ensures.state c.pass_piece-next.ensures.text

pub returns : goal.returns
returns c = let w = passing-all c.loop-i-test.false c.loop-i.invariant in record { state = w.state; text = w.text }
