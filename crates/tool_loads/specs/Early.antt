-- Nothing of the stream is asked where key or font are not right: what is said of them before the stream is read, with a stream of no bytes, is what is said
-- whatever the stream's load comes to. Assumes nothing.
use Rattle.std.specs.Prelude.{◌≡◌, refl, Bool, true, false, not, cond, [], Ok, Result, ℕ}
use Rattle.tool_files.specs.declared.LoadFault.{LoadFault}
use Rattle.tool_key_font.specs.Told.{is_key}
use Rattle.tool_loads.specs.Said.{no_key, no_font, font_loaded, stream_said, said_for}

pub said-early : (key font stream : Result ℕ LoadFault) → (said_for key font (Ok 0) ≡ [] → ⊥) → said_for key font stream ≡ said_for key font (Ok 0)
unfolding said_for
said-early key font stream = go (is_key key) (font_loaded font)
  where
    go : (a b : Bool) → (cond (not a) no_key (cond (not b) no_font []) ≡ [] → ⊥)
        → cond (not a) no_key (cond (not b) no_font (stream_said stream)) ≡ cond (not a) no_key (cond (not b) no_font [])
    go false b n = refl
    go true false n = refl
    go true true n = absurd (n refl)
