use mathlib.Core.Path.{◌≡◌}
use native.Mathlib.Omega.{arith}
use Rattle.base_lists.specs.Upto.{Upto}
use Rattle.bundle_draw.specs.Making.{name_byte}
use Rattle.bundle_draw.specs.Listed.{upto-listed}
use Rattle.bundle_draw.proofs.name_of.Goals as goal

pub returns : goal.returns
returns c =
    let l = c.loop-i in
    let all : l.i ≡ c.args.n = omega arith in
    let u : Upto (name_byte c.args.text.now) l.name c.args.n = rw all at l.invariant.1 in
    upto-listed (name_byte c.args.text.now) l.name c.args.n u.at (omega (arith, l.invariant.0, c.requires))
