-- What opening a sealed line finds, and what the line buffer then holds (document 01, 'Numbers returned'; orders W2 and W7): 2 where a size is none
-- that a frame's has, then 5, 9, 13, 17, else the line. Assumes nothing: these are definitions.
use Rattle.std.specs.Prelude.{cond, List, [], ℕ, ltb, length, take, replicate, Ok, Err, Result, ⊤}
use Rattle.base_lists.specs.Buffers.{copied}
use Rattle.line_spec.specs.Lines.{longest}
use Rattle.line_layout.specs.declared.Layout as layouts
use Rattle.line_layout.specs.declared.LineFault.{LineFault}
use Rattle.line_layout.specs.declared.LineFault.TheVariants.{Unlisted, Trade, Layout}
use Rattle.line_layout.specs.Layouts.{layout_rule}
use Rattle.ingage_spec.specs.Instances.{named, FIRST}
use Rattle.ingage_answers.specs.declared.OpenRefusal.{OpenRefusal}
use Rattle.ingage_answers.specs.declared.OpenRefusal.TheVariants as opened
use Rattle.ingage_answers.specs.Answers.{OpenCall, open_named}
use Rattle.read_open.specs.declared.OpenFault.{OpenFault}
use Rattle.read_open.specs.declared.OpenFault.TheVariants as found

-- a line that the rule or its layout refuses, with the count: 9, 13, 17
abbrev pub counted : LineFault → ℕ → OpenFault
counted Unlisted n = found.Unlisted n
counted Trade n = found.Trade n
counted Layout n = found.Layout n

-- by the rule of a line and its layout
abbrev pub by_rule : Result ⊤ LineFault → ℕ → Result ℕ OpenFault
by_rule (Err fault) n = Err (counted fault n)
by_rule (Ok tt) n = Ok n

-- by what `open` answers, of the bytes that it left
abbrev pub found_by : layouts.Layout → Result ℕ OpenRefusal → List ℕ → Result ℕ OpenFault
found_by l (Ok n) s = by_rule (layout_rule l s) n
found_by l (Err opened.Instance) s = Err found.Sizes
found_by l (Err opened.Sizes) s = Err found.Sizes
found_by l (Err opened.TooLong) s = Err found.Sizes
found_by l (Err opened.NoRoom) s = Err found.Sizes
found_by l (Err (opened.Seal n)) s = Err (found.Seal n)

-- a line that is given goes over the buffer's start; nothing else is written
abbrev pub line_by : Result ℕ OpenFault → List ℕ → List ℕ → List ℕ
line_by (Err fault) s o = o
line_by (Ok n) s o = copied s o

pub record LineCall : Type 0 where
  pub answer : Result ℕ OpenFault
  pub line : List ℕ

abbrev pub line_call : Result ℕ OpenFault → List ℕ → List ℕ → LineCall
line_call f s o = record { answer = f; line = line_by f s o }

-- the text found, as long as the ciphertext
abbrev pub text_in : OpenCall → List ℕ → List ℕ
text_in w C = take (length C) w.out

-- what `open` answers and leaves, judged
abbrev pub line_from : layouts.Layout → List ℕ → List ℕ → OpenCall → LineCall
line_from l C o w = line_call (found_by l w.answer (text_in w C)) (text_in w C) o

-- opened into a buffer beside that of the line
unfoldable pub open_beside : layouts.Layout → List ℕ → List ℕ → List ℕ → List ℕ → List ℕ → List ℕ → List ℕ → LineCall
open_beside l key nonce A C T text o = line_from l C o (open_named (named FIRST) key nonce A C T text)

-- which is as long as the longest line
unfoldable pub open_line : layouts.Layout → List ℕ → List ℕ → List ℕ → List ℕ → List ℕ → List ℕ → LineCall
open_line l key nonce A C T o =
    cond (ltb longest (length C)) (line_call (Err found.Sizes) [] o)
    (cond (ltb (length o) (length C)) (line_call (Err found.Sizes) [] o)
    (open_beside l key nonce A C T (replicate longest 0) o))

-- the number of each answer
abbrev pub found_number : Result ℕ OpenFault → ℕ
found_number (Err found.Sizes) = 2
found_number (Err (found.Seal n)) = 5
found_number (Err (found.Unlisted n)) = 9
found_number (Err (found.Trade n)) = 13
found_number (Err (found.Layout n)) = 17
found_number (Ok n) = 0
