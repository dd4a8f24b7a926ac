-- `xor_last` meets its promise: the store of the last byte, with v XORed in, where there is one. Assumes nothing.
use Rattle.gage_spec.specs.Permutation.{LARGEST}
use Rattle.ingage_steps.specs.Arrays.{last_of}
use Rattle.ingage_steps.proofs.Writing.{last_out}
use mathlib.Core.Path.{◌≡◌, sym}
use lib.ListN.{length}
use borrow.Author.Rules.{rules}
use borrow.Author.Tests.{lt-ltb, le-ltb}
use native.Mathlib.Omega.{arith}
use Rattle.ingage_steps.proofs.xor_last.Goals as goal

pub returns-then-n-lt1 : goal.returns-then-n-lt1
unfolding last_of
returns-then-n-lt1 c = rw (lt-ltb _ _ c.if-n-lt1.true)

pub returns-then-n-gt-LARGEST : goal.returns-then-n-gt-LARGEST
returns-then-n-gt-LARGEST c =
    let l : length c.args.s ≡ LARGEST = search rules in
    sym (last_out c.args.v c.args.n c.args.s (omega arith))

pub returns : goal.returns
unfolding last_of
returns c = rw (le-ltb _ _ c.if-n-lt1.false)
