-- On every refusal the output stays as it was, and no length is answered. Assumes nothing.
use Rattle.std.specs.Prelude.{◌≡◌, refl, List, ℕ, Ok, Err, Result}
use Rattle.desk_spec.specs.declared.DeskRefusal.{DeskRefusal}
use Rattle.desk_spec.specs.declared.DeskRefusal.TheVariants.{Sizes, TooLong, NoTable, Count, Past, NoLine, NewTooLong, NoRoom}
use Rattle.desk_spec.specs.Desk.{out_of, desk_number, length_of}

pub refusal-keeps : (r : Result ℕ DeskRefusal) (w o : List ℕ) → (desk_number r ≡ 0 → ⊥) → (out_of r w o ≡ o) × (length_of r ≡ 0)
refusal-keeps (Ok n) w o h = absurd (h refl)
refusal-keeps (Err Sizes) w o h = (refl, refl)
refusal-keeps (Err TooLong) w o h = (refl, refl)
refusal-keeps (Err NoTable) w o h = (refl, refl)
refusal-keeps (Err Count) w o h = (refl, refl)
refusal-keeps (Err (Past k)) w o h = (refl, refl)
refusal-keeps (Err (NoLine k)) w o h = (refl, refl)
refusal-keeps (Err NewTooLong) w o h = (refl, refl)
refusal-keeps (Err NoRoom) w o h = (refl, refl)
