-- The layouts of a line (order W7), over the account's digit count: transit, nine digits, transit, d digits, on-us, and nothing else. Layout A
-- is d = 10, B is d = 12. `layout_rule` is the rule of a line with the layout named. Assumes nothing: these are definitions.
use Rattle.std.specs.Prelude.{Bool, true, false, cond, List, ℕ, ◌+◌, eqb, length, get_or, take, drop, Ok, Err, Result, ⊤}
use Rattle.line_spec.specs.Lines.{nine, on_us, is_transit, all_digits, line_rule}
use Rattle.line_spec.specs.declared.TradeFault.{TradeFault}
use Rattle.line_spec.specs.declared.TradeFault.TheVariants as line-is
use Rattle.line_layout.specs.declared.Layout.{Layout}
use Rattle.line_layout.specs.declared.Layout.TheVariants.{Neither, A, B, Unknown}
use Rattle.line_layout.specs.declared.LineFault.{LineFault}
use Rattle.line_layout.specs.declared.LineFault.TheVariants as judged-is

-- the account digits of layout A, and of B
abbrev pub digits_a : ℕ
digits_a = 10

abbrev pub digits_b : ℕ
digits_b = 12

-- n bytes from place i on
abbrev pub part : ℕ → ℕ → List ℕ → List ℕ
part i n s = take n (drop i s)

-- a line of d account digits: 12 + d bytes, transit, nine digits, transit, d digits, on-us
unfoldable pub is_laid : ℕ → List ℕ → Bool
is_laid d s =
    cond (eqb (length s) (12 + d))
    (cond (is_transit (get_or s 0 0))
    (cond (all_digits (part 1 nine s))
    (cond (is_transit (get_or s 10 0))
    (cond (all_digits (part 11 d s))
    (eqb (get_or s (11 + d) 0) on_us) false) false) false) false) false

-- whether a line has the layout; with neither named every line has, and one that is unknown none has
abbrev pub has_layout : Layout → List ℕ → Bool
has_layout Neither s = true
has_layout A s = is_laid digits_a s
has_layout B s = is_laid digits_b s
has_layout Unknown s = false

-- what a line is found to be: 9 and 13 by the rule of a line, then 17
abbrev pub by_layout : Result ⊤ TradeFault → Bool → Result ⊤ LineFault
by_layout (Err line-is.Unlisted) b = Err judged-is.Unlisted
by_layout (Err line-is.Trade) b = Err judged-is.Trade
by_layout (Ok tt) b = cond b (Ok tt) (Err judged-is.Layout)

unfoldable pub layout_rule : Layout → List ℕ → Result ⊤ LineFault
layout_rule l s = by_layout (line_rule s) (has_layout l s)

-- the number of each answer (document 01, 'Numbers returned'; orders W2 and W7)
abbrev pub line_number : Result ⊤ LineFault → ℕ
line_number (Ok tt) = 0
line_number (Err judged-is.Unlisted) = 9
line_number (Err judged-is.Trade) = 13
line_number (Err judged-is.Layout) = 17

-- the layout that a number names: 0 neither, 1 A, 2 B, and every other one that no line has
unfoldable pub layout_of : ℕ → Layout
layout_of n = cond (eqb n 0) Neither (cond (eqb n 1) A (cond (eqb n 2) B Unknown))
