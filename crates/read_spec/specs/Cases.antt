-- What a stretch can be found to be, case by case in document 01's order, in the words of good stuffing, fields, edition, font and seal.
-- Assumes nothing.
use Rattle.std.specs.Prelude.{◌≡◌, refl, Bool, not, cond, ◌⊎◌, ℕ, ◌≤◌, ◌<◌, length, Ok, Err}
use Rattle.std.proofs.Common.{sym, ap, ◌∙◌, inl, inr, arith}
use Rattle.std.proofs.Math.Path.{subst}
use Rattle.std.proofs.Math.Bool.{true, false}
use mathlib.Core.List.{List}
use Rattle.std.proofs.Math.Decide.{dec_le}
use Rattle.base_lists.specs.Buffers.{same}
use Rattle.base_lists.specs.Sameness.{same_refl, same-eq}
use Rattle.frame_stuff_spec.specs.Stuffing.{longest_stretch, unstuffed, WellStuffed}
use Rattle.frame_stuff_spec.proofs.GoodStuffing.{well-or-not}
use Rattle.frame_stuff_spec.proofs.Outcomes.{length-too-long, length-bad, length-good}
use Rattle.line_layout.specs.declared.LineFault.{LineFault}
use Rattle.line_layout.specs.declared.LineFault.TheVariants.{Unlisted, Trade, Layout}
use Rattle.line_layout.specs.Layouts.{layout_rule}
use Rattle.ingage_spec.specs.Instances.{first}
use Rattle.ingage_spec.specs.Cipher.{Work, decrypted}
use Rattle.frame_body.specs.Fields.{Own, Fields, fields, no_body, fields_of, associated}
use Rattle.frame_spec.specs.Told.{Told}
use Rattle.read_spec.specs.Editions.{among}
use Rattle.read_spec.specs.Judged.{Judged, shape, stuffing, font, seal, unlisted, trade, layout, line}
use Rattle.read_spec.specs.Judging.{by_rule, judge_sealed, judge_fields, judge}

-- a stretch that is judged by its fields
pub record Stuffed (s : List ℕ) : Type 0 where
  pub short : length s ≤ longest_stretch
  pub well : WellStuffed s

-- what opening the fields' values works out
abbrev pub opening : Told → Own → List ℕ → List ℕ → Work
opening t own digest cipher = decrypted first t.key own.nonce (associated own.edition digest own.job) cipher

-- the fields of its body, of an edition that is allowed
abbrev pub Holds : ℕ → List ℕ → Own → List ℕ → List ℕ → List ℕ → Type 0
Holds ed s own digest cipher T = Stuffed s × (among ed (fields_of (unstuffed s)) ≡ fields own digest cipher T)

-- one line for each of document 01's cases
pub data Case (t : Told) (ed : ℕ) (s : List ℕ) : Judged → Type 0 where
  too_long : longest_stretch < length s → Case t ed s shape
  bad-stuffing : length s ≤ longest_stretch → (WellStuffed s → ⊥) → Case t ed s stuffing
  no_fields : Stuffed s → among ed (fields_of (unstuffed s)) ≡ no_body → Case t ed s shape
  other-font : (own : Own) (digest cipher T : List ℕ) → Holds ed s own digest cipher T → (digest ≡ t.font → ⊥) → Case t ed s font
  other-seal : (own : Own) (cipher T : List ℕ) → Holds ed s own t.font cipher T → ((opening t own t.font cipher).seal ≡ T → ⊥)
      → Case t ed s (seal (opening t own t.font cipher).calls)
  not_listed : (own : Own) (cipher : List ℕ) → Holds ed s own t.font cipher (opening t own t.font cipher).seal
      → layout_rule t.layout (opening t own t.font cipher).text ≡ Err Unlisted → Case t ed s (unlisted (opening t own t.font cipher).calls)
  not-trade : (own : Own) (cipher : List ℕ) → Holds ed s own t.font cipher (opening t own t.font cipher).seal
      → layout_rule t.layout (opening t own t.font cipher).text ≡ Err Trade → Case t ed s (trade (opening t own t.font cipher).calls)
  not-laid : (own : Own) (cipher : List ℕ) → Holds ed s own t.font cipher (opening t own t.font cipher).seal
      → layout_rule t.layout (opening t own t.font cipher).text ≡ Err Layout → Case t ed s (layout (opening t own t.font cipher).calls)
  given : (own : Own) (cipher : List ℕ) → Holds ed s own t.font cipher (opening t own t.font cipher).seal
      → layout_rule t.layout (opening t own t.font cipher).text ≡ Ok tt
      → Case t ed s (line own (opening t own t.font cipher).text (opening t own t.font cipher).calls)
