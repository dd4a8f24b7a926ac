-- The rule of a line with a layout named: its answers in their order, and that naming a layout only narrows. Assumes nothing.
use Rattle.std.specs.Prelude.{◌≡◌, refl, Bool, true, false, List, ℕ, Ok, Err, Result, ⊤}
use Rattle.std.proofs.Common.{sym, ◌∙◌, arith}
use Rattle.line_spec.specs.Lines.{line_rule}
use Rattle.line_spec.specs.declared.TradeFault.{TradeFault}
use Rattle.line_spec.specs.declared.TradeFault.TheVariants as line-is
use Rattle.line_layout.specs.declared.Layout.{Layout}
use Rattle.line_layout.specs.declared.Layout.TheVariants.{Neither}
use Rattle.line_layout.specs.declared.LineFault.TheVariants as judged-is
use Rattle.line_layout.specs.Layouts.{has_layout, layout_rule}

module _ (l : Layout) (s : List ℕ) where
  pub rule-unlisted : line_rule s ≡ Err line-is.Unlisted → layout_rule l s ≡ Err judged-is.Unlisted
  unfolding layout_rule
  rule-unlisted h = rw h

  pub rule-trade : line_rule s ≡ Err line-is.Trade → layout_rule l s ≡ Err judged-is.Trade
  unfolding layout_rule
  rule-trade h = rw h

  pub rule-layout : line_rule s ≡ Ok tt → has_layout l s ≡ false → layout_rule l s ≡ Err judged-is.Layout
  unfolding layout_rule
  rule-layout h n = rw (h, n)

  pub rule-accepted : line_rule s ≡ Ok tt → has_layout l s ≡ true → layout_rule l s ≡ Ok tt
  unfolding layout_rule
  rule-accepted h y = rw (h, y)

-- with neither named the rule of a line alone decides
pub neither-accepted : (s : List ℕ) → line_rule s ≡ Ok tt → layout_rule Neither s ≡ Ok tt
neither-accepted s h = rule-accepted Neither s h refl

-- a layout narrows: what a line is found to be is what it is with neither named, or that was accepted and is 17 now
pub data Narrowed (l : Layout) (s : List ℕ) : Type 0 where
  as-without : layout_rule l s ≡ layout_rule Neither s → Narrowed l s
  not-laid : layout_rule Neither s ≡ Ok tt → layout_rule l s ≡ Err judged-is.Layout → Narrowed l s

pub rule-narrows : (l : Layout) (s : List ℕ) → Narrowed l s
rule-narrows l s = go (line_rule s) refl (has_layout l s) refl
  where
    go : (j : Result ⊤ TradeFault) → line_rule s ≡ j → (b : Bool) → has_layout l s ≡ b → Narrowed l s
    go (Err line-is.Unlisted) p b q = as-without (rule-unlisted l s p ∙ sym (rule-unlisted Neither s p))
    go (Err line-is.Trade) p b q = as-without (rule-trade l s p ∙ sym (rule-trade Neither s p))
    go (Ok tt) p true q = as-without (rule-accepted l s p q ∙ sym (neither-accepted s p))
    go (Ok tt) p false q = not-laid (neither-accepted s p) (rule-layout l s p q)

-- a line is accepted exactly if the rule of a line accepts it and it has the layout
pub accepted-both : (l : Layout) (s : List ℕ) → layout_rule l s ≡ Ok tt → (line_rule s ≡ Ok tt) × (has_layout l s ≡ true)
accepted-both l s e = go (line_rule s) refl (has_layout l s) refl
  where
    go : (j : Result ⊤ TradeFault) → line_rule s ≡ j → (b : Bool) → has_layout l s ≡ b → (line_rule s ≡ Ok tt) × (has_layout l s ≡ true)
    go (Err line-is.Unlisted) p b q = absurd (let z : ◌≡◌ {A = ℕ} 0 1 = cc (sym e ∙ rule-unlisted l s p) in omega arith)
    go (Err line-is.Trade) p b q = absurd (let z : ◌≡◌ {A = ℕ} 0 1 = cc (sym e ∙ rule-trade l s p) in omega arith)
    go (Ok tt) p true q = (p, q)
    go (Ok tt) p false q = absurd (let z : ◌≡◌ {A = ℕ} 0 1 = cc (sym e ∙ rule-layout l s p q) in omega arith)
