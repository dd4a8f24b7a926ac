-- A well-stuffed stretch holds no mark, so what is stuffed holds none. Assumes nothing.
use Rattle.std.specs.Prelude.{List, ℕ}
use Rattle.std.proofs.Common.{arith}
use Rattle.base_lists.specs.Free.{Free}
use Rattle.frame_stuff_spec.specs.Stuffing.{mark, stuffed, WellStuffed, none, plain, a-mark, an-escape}
use Rattle.frame_stuff_spec.proofs.GoodStuffing.{stuff-well}

pub well-free : {s : List ℕ} → WellStuffed s → Free mark s
well-free none = tt
well-free (plain n e w) = (n, well-free w)
well-free (a-mark w) = (λ p. omega (arith, p), (λ p. omega (arith, p), well-free w))
well-free (an-escape w) = (λ p. omega (arith, p), (λ p. omega (arith, p), well-free w))

pub stuffed-free : (b : List ℕ) → Free mark (stuffed b)
stuffed-free b = well-free (stuff-well b)
