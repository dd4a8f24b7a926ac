-- What stands in a buffer has no more bytes than the buffer, of a load and of a read. Assumes nothing.
use Rattle.std.specs.Prelude.{◌≡◌, refl, Bool, true, false, cond, ℕ, ◌≤◌, T, leb, Ok, Err, Result}
use Rattle.std.proofs.Common.{sym, ap, subst, arith, leb-true}
use Rattle.tool_files.specs.Loading.{held_in, HeardIn}
use Rattle.tool_files.specs.declared.Heard.{Heard}
use Rattle.tool_files.specs.declared.Heard.TheVariants.{Some}
use Rattle.tool_files.specs.declared.LoadFault.{LoadFault}
use Rattle.tool_files.specs.declared.LoadFault.TheVariants.{Failed}

is_bytes : Result ℕ LoadFault → Bool
is_bytes (Ok n) = true
is_bytes (Err f) = false

bytes_of : Result ℕ LoadFault → ℕ
bytes_of (Ok n) = n
bytes_of (Err f) = 0

pub held-within : (l : Result ℕ LoadFault) (room n : ℕ) → held_in l room ≡ Ok n → n ≤ room
unfolding held_in is_bytes bytes_of
held-within (Ok k) room n e = go (leb k room) refl e
  where
    go : (t : Bool) → leb k room ≡ t → cond t (Ok k) (Err Failed) ≡ Ok n → n ≤ room
    go true p q = omega (arith, leb-true k room p, ap bytes_of q)
    go false p q = absurd (subst T (sym (ap is_bytes q)) tt)
held-within (Err f) room n e = absurd (subst T (sym (ap is_bytes e)) tt)

-- bytes that were heard are within the buffer of the read
pub heard-within : (h : Heard) (n room : ℕ) → h ≡ Some n → HeardIn h room → n ≤ room
heard-within h n room e w = subst (λ (x : Heard). HeardIn x room) e w
