-- What is a key, and what the digest of a font is, by what was loaded. Assumes nothing: these are definitions.
use Rattle.std.specs.Prelude.{Bool, true, false, List, ℕ, eqb, length, take, Ok, Err, Result}
use Rattle.tool_files.specs.Loading.{held_in}
use Rattle.tool_files.specs.declared.LoadFault.{LoadFault}
use Rattle.frame_spec.specs.Told.{key_length}
use Rattle.digest_call.specs.Answers.{digest_answer, digest_out}
use Rattle.digest_call.specs.declared.DigestRefusal.{DigestRefusal}

-- the hash instance for fonts
abbrev pub FONT-INSTANCE : ℕ
FONT-INSTANCE = 1

-- loaded whole, with exactly as many bytes as a key has
abbrev pub is_key : Result ℕ LoadFault → Bool
is_key (Ok n) = eqb n key_length
is_key (Err fault) = false

abbrev pub is_done : Result ℕ DigestRefusal → Bool
is_done (Ok n) = true
is_done (Err refusal) = false

-- of a load that stands in the buffer b: whether the bytes loaded have a digest, and the buffer that held o with it
abbrev pub has_digest : Result ℕ LoadFault → List ℕ → List ℕ → Bool
has_digest (Ok n) b o = is_done (digest_answer FONT-INSTANCE (take n b) o)
has_digest (Err fault) b o = false

abbrev pub digest_over : Result ℕ LoadFault → List ℕ → List ℕ → List ℕ
digest_over (Ok n) b o = digest_out FONT-INSTANCE (take n b) o
digest_over (Err fault) b o = o

-- of any load: a count beyond the buffer is no font
abbrev pub is_font : Result ℕ LoadFault → List ℕ → List ℕ → Bool
is_font l b o = has_digest (held_in l (length b)) b o

abbrev pub font_out : Result ℕ LoadFault → List ℕ → List ℕ → List ℕ
font_out l b o = digest_over (held_in l (length b)) b o
