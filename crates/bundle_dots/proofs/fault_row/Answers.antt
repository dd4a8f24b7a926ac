use mathlib.Core.Path.{◌≡◌, sym, ◌∙◌}
use Prim.Native.Nat.{ℕ, ◌+◌, ◌-◌}
use native.Mathlib.Omega.{arith}
use lib.ListN.{length, get_or}
use Rattle.bundle_dots.proofs.Walking.{fault-same, fault-long, fault-short, fault-differs, fault-on}
use Rattle.bundle_dots.proofs.Places.{next-near}
use Rattle.bundle_dots.proofs.fault_row.Goals as goal
use Rattle.bundle_dots.proofs.fault_row.Goals.{then-i-text-via-then-i-text, then-i-text-via-else-i-text+then-text-i}

pub loop-i-preserved : goal.loop-i-preserved
loop-i-preserved c =
    let l = c.loop-i in
    let d = c.args.drawing.now in
    let f : ℕ → ℕ = λ k. get_or d k 0 in
    let less : length d - l.i - 1 ≡ length d - (l.i + 1) = omega arith in
    let near = next-near l.row (get_or d l.i 0) in (
      rw c.next_row-row.ensures (omega (arith, near, l.invariant.0)),
      rw (c.next_row-row.ensures, ← less)
          ((rw c.if-text-i.false at (sym (fault-on f c.args.text.now (length d - l.i) l.i l.row (omega arith) (omega arith) c.if-text-i.false)))
          ∙ l.invariant.1),
    )

pub returns-then-i-text : goal.returns-then-i-text
returns-then-i-text c =
    let l = c.loop-i in
    let d = c.args.drawing.now in
    let f : ℕ → ℕ = λ k. get_or d k 0 in
    elim c.then-i-text.branch [
      | then-i-text-via-then-i-text w ↦
          sym (fault-short f c.args.text.now (length d - l.i) l.i l.row (omega arith) (omega arith)) ∙ l.invariant.1
      | then-i-text-via-else-i-text+then-text-i w ↦
          sym (fault-differs f c.args.text.now (length d - l.i) l.i l.row (omega arith) (omega arith) w.if-text-i.true) ∙ l.invariant.1
    ]

pub returns-then-drawing-text : goal.returns-then-drawing-text
returns-then-drawing-text c =
    let l = c.loop-i in
    let d = c.args.drawing.now in
    let f : ℕ → ℕ = λ k. get_or d k 0 in
    sym (fault-long f c.args.text.now (length d - l.i) l.i l.row (omega arith) (omega arith)) ∙ l.invariant.1

pub returns-else-drawing-text : goal.returns-else-drawing-text
returns-else-drawing-text c =
    let l = c.loop-i in
    let d = c.args.drawing.now in
    let f : ℕ → ℕ = λ k. get_or d k 0 in
    sym (fault-same f c.args.text.now (length d - l.i) l.i l.row (omega arith) (omega arith)) ∙ l.invariant.1
