use Rattle.std.proofs.Common.{◌≡◌, [], ◌∷◌, refl, sym, ap, ◌∙◌, ◌++◌, append_assoc, List, ℕ}
use Rattle.std.proofs.lemmas.List.{append-nil, nil_from_length}
use Rattle.base_digits.specs.Joined.{grown, joined}
use Rattle.gage_weave.proofs.word_of.Goals as goal

pub loop-b-init : goal.loop-b-init
loop-b-init c =
    let all : c.into_iter-b-iterator.result.iter.rest.now ≡ c.args.block.now = cc in
    ([], sym (append-nil c.into_iter-b-iterator.result.iter.rest.now ∙ all), refl)

pub loop-b-preserved : goal.loop-b-preserved
loop-b-preserved c =
    let done = c.loop-b.invariant.0 in
    let rest = c.next.new.self.iter.rest.now in
    let b = c.in-Some.b.now in
    let one : c.loop-b.b-iterator.iter.rest.now ≡ rest ++ b ∷ [] = c.in-Some.ensures.steps in
    let all : c.args.block.now ≡ rest ++ (b ∷ done) = c.loop-b.invariant.1 ∙ ap (λ (l : List ℕ). l ++ done) one ∙ append_assoc rest (b ∷ []) done in
    (b ∷ done, all, c.grown-w.ensures ∙ ap (λ (w : ℕ). grown w b) c.loop-b.invariant.2)

pub returns : goal.returns
returns c =
    let none : c.loop-b.b-iterator.iter.rest.now ≡ [] = nil_from_length _ c.in-None.ensures.steps.0 in
    let all : c.args.block.now ≡ c.loop-b.invariant.0 = rw none at c.loop-b.invariant.1 in
    c.loop-b.invariant.2 ∙ ap joined (sym all)
