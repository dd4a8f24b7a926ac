use Rattle.std.proofs.Common.{sym, ◌∙◌}
use Rattle.std.proofs.lemmas.List.{length_push}
use Rattle.std.proofs.lemmas.Slice.Zip.{zip_turn}
use Rattle.base_lists.specs.Sameness.{compared-none, compared-more, compared-less}
use Rattle.base_lists.proofs.same_bytes.Goals as goal

pub loop-x-init : goal.loop-x-init
loop-x-init c = compared-none c.requires

pub loop-x-preserved-then-x-y : goal.loop-x-preserved-then-x-y
loop-x-preserved-then-x-y c =
    let t = zip_turn c.args.a.now c.args.b.now _ _ _ c.next.new.self _ (cc) (cc) c.loop-x.yielded_by _ c.in-Some.is c.next.ensures.steps in
    rw length_push (compared-less c.loop-x.invariant t.0 (λ e. c.if-x-y.true (t.2 0 ∙ e ∙ sym (t.3 0))))

pub loop-x-preserved : goal.loop-x-preserved
loop-x-preserved c =
    let t = zip_turn c.args.a.now c.args.b.now _ _ _ c.next.new.self _ (cc) (cc) c.loop-x.yielded_by _ c.in-Some.is c.next.ensures.steps in
    rw length_push (compared-more c.loop-x.invariant t.0 (sym (t.2 0) ∙ c.if-x-y.false ∙ t.3 0))
