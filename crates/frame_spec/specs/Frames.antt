-- A frame (document 01, 'A frame and a stream', and order W6): the line is sealed at the first instance with field 02 whole, and in edition
-- two field 05 whole behind it, as associated data; the body is made of what is the frame's own, font digest, ciphertext and seal, and stands
-- stuffed between two marks. Assumes nothing: these are definitions.
use Rattle.std.specs.Prelude.{List, [], ◌∷◌, ◌++◌, ℕ}
use Rattle.ingage_spec.specs.Instances.{first}
use Rattle.ingage_spec.specs.Cipher.{Work, encrypted}
use Rattle.frame_body.specs.Fields.{Own, body, associated}
use Rattle.frame_stuff_spec.specs.Stuffing.{mark, stuffed}
use Rattle.frame_spec.specs.Told.{Told}

-- the line sealed: its ciphertext, the seal, and the calls of the permutation
unfoldable pub sealed_line : Told → Own → List ℕ → Work
sealed_line t own line = encrypted first t.key own.nonce (associated own.edition t.font own.job) line

unfoldable pub sealed_body : Told → Own → List ℕ → List ℕ
sealed_body t own line = body own t.font (sealed_line t own line).text (sealed_line t own line).seal

-- a body between two marks
unfoldable pub framed : List ℕ → List ℕ
framed b = mark ∷ stuffed b ++ (mark ∷ [])

unfoldable pub frame_of : Told → Own → List ℕ → List ℕ
frame_of t own line = framed (sealed_body t own line)
