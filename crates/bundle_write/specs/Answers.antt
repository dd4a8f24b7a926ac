-- What the bundle's calls answer and leave in lent memory, in the order of the refusals (order W1; the sizes of document 01 first), and the
-- parts of a bundle. Assumes nothing: these are definitions.
use Rattle.std.specs.Prelude.{cond, List, ℕ, ltb, length, take, drop, Ok, Err, Result, ⊤}
use Rattle.base_lists.specs.Buffers.{over}
use Rattle.digest_spec.specs.Instances.{DIGEST}
use Rattle.digest_spec.specs.Hashing.{digest_of}
use Rattle.digest_call.specs.Answers.{LONGEST-MESSAGE}
use Rattle.bundle_spec.specs.Bundles.{glyph_rows, characters, glyph_count, bundle_of, fitting, alike}
use Rattle.bundle_spec.specs.Lengths.{longest_bundle}
use Rattle.bundle_spec.specs.Places.{name_at, glyph_at, index_of}
use Rattle.bundle_read.specs.declared.BundleFault.{BundleFault}
use Rattle.bundle_read.specs.declared.BundleFault.TheVariants as bundle-is
use Rattle.bundle_read.specs.Answers.{read_answer}
use Rattle.bundle_write.specs.declared.BundleRefusal.{BundleRefusal}
use Rattle.bundle_write.specs.declared.BundleRefusal.TheVariants as written_is
use Rattle.bundle_write.specs.declared.FontRefusal.{FontRefusal}
use Rattle.bundle_write.specs.declared.FontRefusal.TheVariants as digested-is
use Rattle.bundle_write.specs.declared.Part.{Part}

-- the writer's refusal of bytes that are no bundle, and the digest's
abbrev pub refusal_for : BundleFault → BundleRefusal
refusal_for bundle-is.Shape = written_is.Shape
refusal_for bundle-is.Alike = written_is.Alike

abbrev pub font_refusal_for : BundleFault → FontRefusal
font_refusal_for bundle-is.Shape = digested-is.Shape
font_refusal_for bundle-is.Alike = digested-is.Alike

-- the writer's answer for a name, rows and a buffer o: shape (11), glyphs that are alike (12), room (4)
unfoldable pub write_answer : List ℕ → List ℕ → List ℕ → Result ℕ BundleRefusal
write_answer name rows o =
    cond (fitting name rows)
    (cond (alike rows) (Err written_is.Alike)
    (cond (ltb (length o) longest_bundle) (Err written_is.NoRoom)
    (Ok (length (bundle_of name rows))))) (Err written_is.Shape)

-- done: w over the buffer's first bytes; refused: the buffer as it was
abbrev pub on_written : Result ℕ BundleRefusal → List ℕ → List ℕ → List ℕ
on_written (Ok n) w o = over w o
on_written (Err f) w o = o

unfoldable pub write_out : List ℕ → List ℕ → List ℕ → List ℕ
write_out name rows o = on_written (write_answer name rows o) (bundle_of name rows) o

-- the font digest of a bundle is of the first instance, over the whole bundle
abbrev pub font_instance : ℕ
font_instance = 1

unfoldable pub bundle_digest : List ℕ → List ℕ
bundle_digest b = digest_of font_instance b

-- an answer for a bundle; for other bytes why they are none
abbrev pub if_bundle : Result ℕ BundleFault → Result ⊤ FontRefusal → Result ⊤ FontRefusal
if_bundle (Ok n) d = d
if_bundle (Err f) d = Err (font_refusal_for f)

-- the digest's answer for bytes b and a buffer o: too long (3), shape (11), glyphs that are alike (12), room (4)
unfoldable pub digest_answer : List ℕ → List ℕ → Result ⊤ FontRefusal
digest_answer b o =
    cond (ltb LONGEST-MESSAGE (length b)) (Err digested-is.TooLong)
    (if_bundle (read_answer b)
    (cond (ltb (length o) DIGEST) (Err digested-is.NoRoom)
    (Ok tt)))

abbrev pub on_digested : Result ⊤ FontRefusal → List ℕ → List ℕ → List ℕ
on_digested (Ok tt) w o = over w o
on_digested (Err f) w o = o

unfoldable pub digest_out : List ℕ → List ℕ → List ℕ
digest_out b o = on_digested (digest_answer b o) (bundle_digest b) o

-- a part of some bytes, and the empty part at their end
abbrev pub part : ℕ → ℕ → Part
part first length = record { first = first; length = length }

abbrev pub no_part : List ℕ → Part
no_part b = part (length b) 0

-- the name of a bundle; of bytes that are none, the empty part at the end
abbrev pub name_by : Result ℕ BundleFault → List ℕ → Part
name_by (Ok n) b = part name_at n
name_by (Err f) b = no_part b

unfoldable pub name_part : List ℕ → Part
name_part b = name_by (read_answer b) b

-- the rows of glyph i, behind a name of n bytes; where there is no such glyph, the empty part at the end
abbrev pub glyph_part : ℕ → ℕ → List ℕ → Part
glyph_part n i b = cond (ltb i glyph_count) (part (glyph_at n i) glyph_rows) (no_part b)

-- the rows of the character c; of bytes that are no bundle, and of another character, the empty part at the end
abbrev pub rows_by : Result ℕ BundleFault → ℕ → List ℕ → Part
rows_by (Ok n) i b = glyph_part n i b
rows_by (Err f) i b = no_part b

unfoldable pub rows_part : List ℕ → ℕ → Part
rows_part b c = rows_by (read_answer b) (index_of c characters) b

-- the bytes of a part
abbrev pub part_of : List ℕ → Part → List ℕ
part_of b p = take p.length (drop p.first b)

unfoldable pub name_in : List ℕ → List ℕ
name_in b = part_of b (name_part b)

unfoldable pub rows_in : List ℕ → ℕ → List ℕ
rows_in b c = part_of b (rows_part b c)

-- the number of each answer (document 01, order W1), and the length of the bundle
abbrev pub write_number : Result ℕ BundleRefusal → ℕ
write_number (Ok n) = 0
write_number (Err written_is.Shape) = 11
write_number (Err written_is.Alike) = 12
write_number (Err written_is.NoRoom) = 4

abbrev pub write_length : Result ℕ BundleRefusal → ℕ
write_length (Ok n) = n
write_length (Err f) = 0

abbrev pub digest_number : Result ⊤ FontRefusal → ℕ
digest_number (Ok tt) = 0
digest_number (Err digested-is.TooLong) = 3
digest_number (Err digested-is.Shape) = 11
digest_number (Err digested-is.Alike) = 12
digest_number (Err digested-is.NoRoom) = 4
