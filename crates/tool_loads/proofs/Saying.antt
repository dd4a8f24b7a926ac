-- Each return of `said` gives what the definition says; a text by value. Assumes nothing.
use Rattle.std.specs.Prelude.{Ok, Err, Result}
use mathlib.Core.Path.{◌≡◌, sym, ap, ◌∙◌}
use mathlib.Core.Bool.{Bool, true, false}
use mathlib.Core.List.{List, []}
use Prim.Native.Nat.{ℕ, ◌≤◌, ◌<◌}
use native.Mathlib.Omega.{arith}
use lib.ListN.{length, replicate, length-replicate}
use borrow.Author.Tests.{lt-ltb, le-ltb}
use Rattle.base_lists.specs.Buffers.{copied}
use Rattle.base_lists.specs.Over.{copied_all}
use Rattle.read_call.specs.Answers.{longest_stream}
use Rattle.tool_files.specs.declared.LoadFault.{LoadFault}
use Rattle.tool_key_font.specs.Told.{is_key}
use Rattle.tool_loads.specs.Said.{no_key, no_font, too_long, font_loaded, stream_said, said_for, longest_text, text_of}
use Rattle.tool_loads.specs.declared.Text.{Text}

pub text-is : (w : List ℕ) → length w ≤ longest_text → (b : List ℕ) → b ≡ copied w (replicate longest_text 0)
    → ◌≡◌ {A = Text} (record { length = length w; bytes = b }) (text_of w)
unfolding text_of
text-is w h b e =
    ap text_with (e ∙ copied_all w (replicate longest_text 0) (omega (arith, h, length-replicate {A = ℕ} longest_text 0)))
  where
    text_with : List ℕ → Text
    text_with x = record { length = length w; bytes = x }

module _ (key font stream : Result ℕ LoadFault) where
  pub no_key_lem : {a : Bool} → a ≡ is_key key → a ≡ false → {r : Text} → r ≡ text_of no_key → r ≡ text_of (said_for key font stream)
  unfolding said_for
  no_key_lem p q e = rw (sym p ∙ q) e

  module _ {a : Bool} (p : a ≡ is_key key) (q : a ≡ true) where
    pub no-font : {b : Bool} → b ≡ font_loaded font → b ≡ false → {r : Text} → r ≡ text_of no_font → r ≡ text_of (said_for key font stream)
    unfolding said_for
    no-font s u e = rw (sym p ∙ q, sym s ∙ u) e

    module _ {b : Bool} (s : b ≡ font_loaded font) (u : b ≡ true) where
      pub over-long : {n : ℕ} → stream ≡ Ok n → longest_stream < n → {r : Text} → r ≡ text_of too_long → r ≡ text_of (said_for key font stream)
      unfolding said_for
      over-long {n} v h e = rw (sym p ∙ q, sym s ∙ u, v, lt-ltb longest_stream n h) e

      pub all_there : {n : ℕ} → stream ≡ Ok n → n ≤ longest_stream → {r : Text} → r ≡ text_of [] → r ≡ text_of (said_for key font stream)
      unfolding said_for
      all_there {n} v h e = rw (sym p ∙ q, sym s ∙ u, v, le-ltb longest_stream n h) e

      pub not-loaded : {f : LoadFault} → stream ≡ Err f → {r : Text} → r ≡ text_of (stream_said (Err f)) → r ≡ text_of (said_for key font stream)
      unfolding said_for
      not-loaded v e = rw (sym p ∙ q, sym s ∙ u, v) e
