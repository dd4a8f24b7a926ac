-- What bars a body from being opened, in document 01's order with orders W5's and W6's: 7 for its edition, 8, 15; and what it is found to be then.
-- Assumes nothing.
use Rattle.std.specs.Prelude.{◌≡◌, refl, not, cond, List, ℕ, ◌+◌, ltb, Some, None, Option}
use Rattle.base_lists.specs.Buffers.{same}
use Rattle.frame_body.specs.declared.Edition.{Edition}
use Rattle.frame_spec.specs.Lengths.{beside_line}
use Rattle.read_spec.specs.Editions.{allows}
use Rattle.read_spec.specs.Judged.{Judged, shape, font, work, number_in}
use Rattle.read_bar.specs.declared.Bar.{Bar}
use Rattle.read_bar.specs.declared.Bar.TheVariants as bar-is

unfoldable pub bar_in : ℕ → ℕ → Edition → ℕ → List ℕ → List ℕ → Option Bar
bar_in editions allowed e n digest told =
    cond (not (allows editions e)) (Some bar-is.Edition)
    (cond (not (same digest told)) (Some bar-is.Font)
    (cond (ltb allowed (n + beside_line e)) (Some bar-is.Work) None))

-- what a body is found to be: j where nothing bars it
abbrev pub barred : Option Bar → Judged → Judged
barred (Some bar-is.Edition) j = shape
barred (Some bar-is.Font) j = font
barred (Some bar-is.Work) j = work
barred None j = j

-- the number of each answer (document 01, 'Numbers returned'; order W5)
abbrev pub bar_number : Option Bar → ℕ
bar_number (Some bar-is.Edition) = 7
bar_number (Some bar-is.Font) = 8
bar_number (Some bar-is.Work) = 15
bar_number None = 0

-- what is barred has the bar's number, whatever it would be found to be
pub barred-number : (b : Option Bar) (j : Judged) → (bar_number b ≡ 0 → ⊥) → number_in (barred b j) ≡ bar_number b
barred-number (Some bar-is.Edition) j n = refl
barred-number (Some bar-is.Font) j n = refl
barred-number (Some bar-is.Work) j n = refl
barred-number None j n = absurd (n refl)
