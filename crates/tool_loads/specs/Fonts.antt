-- Where the font is none of what is said, it has its digest, and nowhere else: `digest_font` over the buffer of the longest font, with room for a digest,
-- finds a font exactly where `said` does. Assumes nothing.
use Rattle.std.specs.Prelude.{◌≡◌, refl, Bool, true, false, cond, List, ℕ, ◌≤◌, leb, length, take, Ok, Err, Result}
use Rattle.std.proofs.Common.{ap, arith, length-take, leb-true}
use Rattle.digest_spec.specs.Instances.{DIGEST, unknown}
use Rattle.digest_call.specs.Answers.{LONGEST-MESSAGE}
use Rattle.digest_call.specs.Order.{digest-done}
use Rattle.tool_files.specs.Loading.{held_in}
use Rattle.tool_files.specs.declared.LoadFault.{LoadFault}
use Rattle.tool_files.specs.declared.LoadFault.TheVariants.{Failed}
use Rattle.tool_key_font.specs.Told.{FONT-INSTANCE, is_done, has_digest, is_font}
use Rattle.tool_loads.specs.Said.{font_loaded}

-- fonts are digested with an instance that there is
known : unknown FONT-INSTANCE ≡ false
unfolding unknown
known = refl

pub font-digested : (l : Result ℕ LoadFault) (b o : List ℕ) → length b ≡ LONGEST-MESSAGE → DIGEST ≤ length o → is_font l b o ≡ font_loaded l
unfolding held_in
font-digested (Ok n) b o e h = rw e (by (leb n LONGEST-MESSAGE) refl)
  where
    by : (t : Bool) → leb n LONGEST-MESSAGE ≡ t → has_digest (cond t (Ok n) (Err Failed)) b o ≡ t
    by true p = ap is_done (digest-done FONT-INSTANCE (take n b) o known (omega (arith, leb-true n LONGEST-MESSAGE p, length-take n b)) h).0
    by false p = refl
font-digested (Err f) b o e h = refl
