use Rattle.gage_weave.specs.One.{told-one}
use borrow.Author.Rules.{rules}
use Rattle.gage_weave.proofs.tell.Goals as goal

-- src/lib.rt:279:9
pub returns-then-out-eq1 : goal.returns-then-out-eq1
returns-then-out-eq1 c =
    let start = c in
    told-one start.args.t start.args.out.now _ (search rules) c.first_byte.ensures
