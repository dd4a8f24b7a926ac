-- What `read` answers, in the order of the refusals (order W1), and what its parts tell. Assumes nothing: these are definitions.
use Rattle.std.specs.Prelude.{Bool, true, false, cond, List, ℕ, length, Ok, Err, Result}
use Rattle.base_fields.specs.Fields.{Front, value, no_field}
use Rattle.bundle_spec.specs.Bundles.{alike, Rows, rows, no_rows, Parts, parts, no-parts, parts_of}
use Rattle.bundle_read.specs.declared.BundleFault.{BundleFault}
use Rattle.bundle_read.specs.declared.BundleFault.TheVariants.{Shape, Alike}

-- bytes that stand as a bundle with a name of n bytes, and whether glyphs are alike: the shape first (11), over all of the bytes, then that (12)
abbrev pub told : Bool → Bool → ℕ → Result ℕ BundleFault
told stand alike n =
    cond stand
    (cond alike (Err Alike)
    (Ok n)) (Err Shape)

-- what the parts of some bytes come to
abbrev pub judged : Parts → Result ℕ BundleFault
judged (parts name r) = told true (alike r) (length name)
judged no-parts = Err Shape

unfoldable pub read_answer : List ℕ → Result ℕ BundleFault
read_answer b = judged (parts_of b)

-- the number of each answer (order W1), and the length of the name
abbrev pub read_number : Result ℕ BundleFault → ℕ
read_number (Ok n) = 0
read_number (Err Shape) = 11
read_number (Err Alike) = 12

abbrev pub length_of : Result ℕ BundleFault → ℕ
length_of (Ok n) = n
length_of (Err f) = 0

-- what a field that is looked for tells: how long its value is, 0 for no field; whether it is there
abbrev pub length_found : Front → ℕ
length_found (value v s) = length v
length_found no_field = 0

abbrev pub is_field : Front → Bool
is_field (value v s) = true
is_field no_field = false

-- whether glyphs are there
abbrev pub is_rows : Rows → Bool
is_rows (rows r) = true
is_rows no_rows = false
