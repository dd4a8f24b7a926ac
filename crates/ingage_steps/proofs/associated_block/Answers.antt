-- `associated_block` meets its promise: the piece is padded, and the store sets the last one's last bit. Assumes nothing.
use Rattle.ingage_spec.specs.Cipher.{LAST-BLOCK}
use Rattle.gage_sponge.specs.Padding.{last_block}
use Rattle.gage_sponge.proofs.Blocks.{length-last-block}
use Rattle.ingage_steps.specs.Arrays.{last_of, marked_of}
use Rattle.ingage_steps.proofs.Writing.{last_out}
use mathlib.Core.Path.{sym, ◌∙◌}
use borrow.Author.Tests.{lt-ltb, le-ltb}
use native.Mathlib.Omega.{arith}
use Rattle.ingage_steps.proofs.associated_block.Goals as goal

pub returns-then-p-rate : goal.returns-then-p-rate
unfolding marked_of
returns-then-p-rate c = rw (le-ltb _ _ c.if-p-rate.true) c.last_block-b.ensures

pub returns-then-rate-gt-LARGEST_RATE : goal.returns-then-rate-gt-LARGEST_RATE
unfolding marked_of
returns-then-rate-gt-LARGEST_RATE c =
    rw (lt-ltb _ _ c.if-p-rate.false)
    (c.last_block-b.ensures ∙ sym (last_out LAST-BLOCK c.args.rate (last_block c.args.p.now) (omega (arith, length-last-block c.args.p.now))))

pub returns : goal.returns
unfolding marked_of last_of
returns c = rw (
  lt-ltb _ _ c.if-p-rate.false,
  le-ltb c.args.rate 1 (omega arith),
  c.last_block-b.ensures,
)
