-- What a stretch can be found to be, case by case in document 01's order, in the words of good stuffing, fields, edition, font and seal.
-- Assumes nothing.
use Rattle.std.specs.Prelude.{◌≡◌, refl, Bool, not, cond, ◌⊎◌, ℕ, ◌≤◌, ◌<◌, length, Ok, Err, Result, ⊤}
use Rattle.std.proofs.Common.{sym, ap, ◌∙◌, inl, inr, arith}
use Rattle.std.proofs.Math.Path.{subst}
use Rattle.std.proofs.Math.Bool.{true, false}
use mathlib.Core.List.{List}
use Rattle.std.proofs.Math.Decide.{dec_le}
use Rattle.base_lists.specs.Buffers.{same}
use Rattle.base_lists.specs.Sameness.{same_refl, same-eq}
use Rattle.frame_stuff_spec.specs.Stuffing.{longest_stretch, unstuffed, WellStuffed}
use Rattle.frame_stuff_spec.proofs.GoodStuffing.{well-or-not}
use Rattle.frame_stuff_spec.proofs.Outcomes.{length-too-long, length-bad, length-good}
use Rattle.line_layout.specs.declared.LineFault.{LineFault}
use Rattle.line_layout.specs.declared.LineFault.TheVariants.{Unlisted, Trade, Layout}
use Rattle.line_layout.specs.Layouts.{layout_rule}
use Rattle.ingage_spec.specs.Instances.{first}
use Rattle.ingage_spec.specs.Cipher.{Work, decrypted}
use Rattle.frame_body.specs.Fields.{Own, Fields, fields, no_body, fields_of, associated}
use Rattle.frame_spec.specs.Told.{Told}
use Rattle.read_spec.specs.Editions.{among}
use Rattle.read_spec.specs.Judged.{Judged, shape, stuffing, font, seal, unlisted, trade, layout, line}
use Rattle.read_spec.specs.Judging.{by_rule, judge_sealed, judge_fields, judge}
use Rattle.read_spec.specs.Cases.{Stuffed, opening, Holds, Case, too_long, bad-stuffing, no_fields, other-font, other-seal, not_listed, not-trade, not-laid, given}

same_differs : (a b : List ℕ) → same a b ≡ false → a ≡ b → ⊥
same_differs a b e q =
    let r : same a b ≡ true = ap (λ (x : List ℕ). same x b) q ∙ same_refl b in
    let z : ◌≡◌ {A = ℕ} 0 1 = cc (r, e) in
    omega arith

module _ (t : Told) (ed : ℕ) (s : List ℕ) where
  pub judge-too-long : longest_stretch < length s → judge t ed s ≡ shape
  unfolding judge
  judge-too-long h = rw (length-too-long s h)

  pub judge-bad : length s ≤ longest_stretch → (WellStuffed s → ⊥) → judge t ed s ≡ stuffing
  unfolding judge
  judge-bad h n = rw (length-bad s h n)

  -- good stuffing: its fields decide
  pub judge-fields : Stuffed s → judge t ed s ≡ judge_fields t (among ed (fields_of (unstuffed s)))
  unfolding judge
  judge-fields g = rw (length-good s g.short g.well)

  pub judge-holds : {own : Own} {digest cipher T : List ℕ} → Holds ed s own digest cipher T
      → judge t ed s ≡ judge_fields t (fields own digest cipher T)
  judge-holds h = judge-fields h.0 ∙ ap (judge_fields t) h.1

pub judge-line : (t : Told) (ed : ℕ) (s : List ℕ) (own : Own) (cipher : List ℕ) → Holds ed s own t.font cipher (opening t own t.font cipher).seal
    → layout_rule t.layout (opening t own t.font cipher).text ≡ Ok tt
    → judge t ed s ≡ line own (opening t own t.font cipher).text (opening t own t.font cipher).calls
unfolding judge_sealed
judge-line t ed s own cipher h a =
    judge-holds t ed s h ∙ rw (same_refl t.font, same_refl (opening t own t.font cipher).seal, a)

module _ (t : Told) (ed : ℕ) (s : List ℕ) where
  line-case : (own : Own) (cipher : List ℕ) → Holds ed s own t.font cipher (opening t own t.font cipher).seal
      → (r : Result ⊤ LineFault) → layout_rule t.layout (opening t own t.font cipher).text ≡ r
      → Case t ed s (by_rule r own (opening t own t.font cipher))
  line-case own cipher h (Ok tt) e = given own cipher h e
  line-case own cipher h (Err Unlisted) e = not_listed own cipher h e
  line-case own cipher h (Err Trade) e = not-trade own cipher h e
  line-case own cipher h (Err Layout) e = not-laid own cipher h e

  seal-case : (own : Own) (cipher T : List ℕ) → Holds ed s own t.font cipher T
      → (b : Bool) → same (opening t own t.font cipher).seal T ≡ b
      → Case t ed s (cond (not b) (seal (opening t own t.font cipher).calls)
      (by_rule (layout_rule t.layout (opening t own t.font cipher).text) own (opening t own t.font cipher)))
  seal-case own cipher T h true e =
      let w = opening t own t.font cipher in
      line-case own cipher (h.0, h.1 ∙ ap (fields own t.font cipher) (sym (same-eq w.seal T e))) (layout_rule t.layout w.text) refl
  seal-case own cipher T h false e = other-seal own cipher T h (same_differs (opening t own t.font cipher).seal T e)

  font-case : (own : Own) (digest cipher T : List ℕ) → Holds ed s own digest cipher T → (b : Bool) → same digest t.font ≡ b
      → Case t ed s (cond (not b) font (judge_sealed t.layout own t.key (associated own.edition digest own.job) cipher T))
  unfolding judge_sealed
  font-case own digest cipher T h true e =
      subst (λ (d : List ℕ). Holds ed s own d cipher T → Case t ed s (judge_sealed t.layout own t.key (associated own.edition d own.job) cipher T))
      (sym (same-eq digest t.font e))
      (λ g. seal-case own cipher T g (same (opening t own t.font cipher).seal T) refl) h
  font-case own digest cipher T h false e = other-font own digest cipher T h (same_differs digest t.font e)

  fields-case : Stuffed s → (f : Fields) → among ed (fields_of (unstuffed s)) ≡ f → Case t ed s (judge_fields t f)
  fields-case g no_body e = no_fields g e
  fields-case g (fields own digest cipher T) e = font-case own digest cipher T (g, e) (same digest t.font) refl

  pub judge-case : Case t ed s (judge t ed s)
  judge-case = by_length (dec_le (length s) longest_stretch)
    where
      by-stuffing : length s ≤ longest_stretch → WellStuffed s ⊎ (WellStuffed s → ⊥) → Case t ed s (judge t ed s)
      by-stuffing h (inl w) =
          let g : Stuffed s = record { short = h; well = w } in
          rw (judge-fields t ed s g) (fields-case g (among ed (fields_of (unstuffed s))) refl)
      by-stuffing h (inr n) = rw (judge-bad t ed s h n) (bad-stuffing h n)

      by_length : Dec (length s ≤ longest_stretch) → Case t ed s (judge t ed s)
      by_length (yes h) = by-stuffing h (well-or-not s)
      by_length (no h) = rw (judge-too-long t ed s (omega (arith, h))) (too_long (omega (arith, h)))
