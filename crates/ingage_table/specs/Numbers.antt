-- Document 01's number of what a number names in the table: 1 where it names no instance, as `seal` and `open` then answer. Assumes nothing: these are
-- definitions, and one law.
use Rattle.std.specs.Prelude.{◌≡◌, refl, Bool, true, false, cond, ℕ, Some, None, Option}
use Rattle.ingage_spec.specs.declared.Instance.{Instance}
use Rattle.ingage_spec.specs.Instances.{unknown, instance_of, named}

abbrev pub named_number : Option Instance → ℕ
named_number None = 1
named_number (Some z) = 0

-- 1 for every number but those of the table's rows
pub named-number : (i : ℕ) → named_number (named i) ≡ cond (unknown i) 1 0
unfolding named
named-number i = go (unknown i)
  where
    go : (b : Bool) → named_number (cond b None (Some (instance_of i))) ≡ cond b 1 0
    go true = refl
    go false = refl
