-- One law for each return of `judge_asked`: what its tests found gives the answer that the promise names. Assumes nothing.
use Rattle.std.specs.Prelude.{Some, None}
use mathlib.Core.Path.{◌≡◌}
use mathlib.Core.Bool.{true, false}
use mathlib.Core.List.{List}
use Prim.Native.Nat.{ℕ, ◌+◌, ◌≤◌, ◌<◌}
use borrow.Author.Tests.{lt-ltb, le-ltb}
use Rattle.base_lists.specs.Buffers.{same}
use Rattle.frame_body.specs.declared.Edition.{Edition}
use Rattle.frame_spec.specs.Lengths.{beside_line}
use Rattle.read_spec.specs.Editions.{allows}
use Rattle.read_bar.specs.declared.Bar.TheVariants as bar-is
use Rattle.read_bar.specs.Asked.{bar_in}

module _ (editions calls : ℕ) (e : Edition) (n : ℕ) (digest font : List ℕ) where
  pub other-edition : allows editions e ≡ false → Some bar-is.Edition ≡ bar_in editions calls e n digest font
  unfolding bar_in
  other-edition h = rw h

  module _ (h : allows editions e ≡ true) where
    pub other-font : same digest font ≡ false → Some bar-is.Font ≡ bar_in editions calls e n digest font
    unfolding bar_in
    other-font d = rw (h, d)

    module _ (d : same digest font ≡ true) where
      pub too_much : calls < n + beside_line e → Some bar-is.Work ≡ bar_in editions calls e n digest font
      unfolding bar_in
      too_much l = rw (h, d, lt-ltb calls (n + beside_line e) l)

      pub enough : n + beside_line e ≤ calls → None ≡ bar_in editions calls e n digest font
      unfolding bar_in
      enough l = rw (h, d, le-ltb calls (n + beside_line e) l)
