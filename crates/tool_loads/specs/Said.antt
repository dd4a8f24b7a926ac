-- What is said in place of a listing (document 01, 'The listing program'): a key file missing or not of 16 bytes gives only `no key`; a missing or over-long
-- font `no font`; a longer stream `too long`; checked in that order. A stream that can't be read is `no stream`. Assumes nothing: these are definitions.
use Rattle.std.specs.Prelude.{Bool, false, not, cond, List, [], ◌∷◌, ℕ, leb, ltb, length, replicate, Ok, Err, Result}
use Rattle.base_lists.specs.Buffers.{over}
use Rattle.digest_call.specs.Answers.{LONGEST-MESSAGE}
use Rattle.read_call.specs.Answers.{longest_stream}
use Rattle.tool_files.specs.declared.LoadFault.{LoadFault}
use Rattle.tool_files.specs.declared.LoadFault.TheVariants.{Long, Failed}
use Rattle.tool_key_font.specs.Told.{is_key}
use Rattle.tool_loads.specs.declared.Text.{Text}

-- `no key`, `no font`, `too long`, `no stream`, each with its newline
abbrev pub no_key : List ℕ
no_key = 0x6E ∷ 0x6F ∷ 0x20 ∷ 0x6B ∷ 0x65 ∷ 0x79 ∷ 0x0A ∷ []

abbrev pub no_font : List ℕ
no_font = 0x6E ∷ 0x6F ∷ 0x20 ∷ 0x66 ∷ 0x6F ∷ 0x6E ∷ 0x74 ∷ 0x0A ∷ []

abbrev pub too_long : List ℕ
too_long = 0x74 ∷ 0x6F ∷ 0x6F ∷ 0x20 ∷ 0x6C ∷ 0x6F ∷ 0x6E ∷ 0x67 ∷ 0x0A ∷ []

abbrev pub no_stream : List ℕ
no_stream = 0x6E ∷ 0x6F ∷ 0x20 ∷ 0x73 ∷ 0x74 ∷ 0x72 ∷ 0x65 ∷ 0x61 ∷ 0x6D ∷ 0x0A ∷ []

-- loaded whole, and no longer than a font may be
abbrev pub font_loaded : Result ℕ LoadFault → Bool
font_loaded (Ok n) = leb n LONGEST-MESSAGE
font_loaded (Err f) = false

-- by the stream alone
abbrev pub stream_said : Result ℕ LoadFault → List ℕ
stream_said (Ok n) = cond (ltb longest_stream n) too_long []
stream_said (Err Long) = too_long
stream_said (Err Failed) = no_stream

unfoldable pub said_for : Result ℕ LoadFault → Result ℕ LoadFault → Result ℕ LoadFault → List ℕ
said_for key font stream =
    cond (not (is_key key)) no_key
    (cond (not (font_loaded font)) no_font
    (stream_said stream))

-- the longest of them
abbrev pub longest_text : ℕ
longest_text = 10

-- a text by value: zeros behind it
unfoldable pub text_of : List ℕ → Text
text_of w = record { length = length w; bytes = over w (replicate longest_text 0) }
