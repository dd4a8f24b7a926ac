-- What `open_line` finds of sealed fields is what judging them says: the sizes are right, so it opens them, and the line found is as long as the
-- ciphertext. Assumes nothing.
use Rattle.std.specs.Prelude.{Ok, Err, Result, ⊤}
use mathlib.Core.Path.{◌≡◌, refl, sym, ap, ◌∙◌}
use mathlib.Core.Bool.{Bool, true, false, not, cond}
use mathlib.Core.List.{List}
use Prim.Native.Nat.{ℕ, ◌≤◌}
use native.Mathlib.Omega.{arith}
use lib.ListN.{length, drop, replicate}
use lib.Seq.{take_at, take_all}
use borrow.Author.Tests.{le-ltb}
use Rattle.base_lists.specs.Buffers.{over, cleared, same}
use Rattle.line_spec.specs.Lines.{longest}
use Rattle.line_layout.specs.declared.LineFault.{LineFault}
use Rattle.line_layout.specs.declared.LineFault.TheVariants.{Unlisted, Trade}
use Rattle.line_layout.specs.declared.LineFault.TheVariants as found-to-be
use Rattle.line_layout.specs.declared.Layout.{Layout}
use Rattle.line_layout.specs.Layouts.{layout_rule}
use Rattle.ingage_answers.specs.declared.OpenRefusal.TheVariants as opened
use Rattle.ingage_spec.specs.Instances.{named, FIRST, first, first_fits}
use Rattle.ingage_spec.specs.Cipher.{Work, decrypted}
use Rattle.ingage_spec.proofs.Results.{length-decrypted}
use Rattle.ingage_answers.specs.Answers.{OpenCall, open_named}
use Rattle.ingage_answers.specs.Naming.{open-first}
use Rattle.ingage_answers.specs.Exactly.{Within, opened-within}
use Rattle.frame_body.specs.Fields.{Own}
use Rattle.read_open.specs.Opened.{by_rule, found_by, LineCall, line_call, line_from, text_in, open_beside, open_line}
use Rattle.read_spec.specs.Judged.{Label, label_of, Judged, seal, unlisted, trade, layout, line}
use Rattle.read_spec.specs.Judging as judging
use Rattle.read_spec.specs.Judging.{judge_sealed}
use Rattle.read_call.specs.Answers.{verdict_on, verdict_of, line_over}
use Rattle.read_call.proofs.Shown.{Shows}

module _ (f : Layout) (own : Own) (key A C T o : List ℕ) (w : Within first key own.nonce A C T (replicate longest 0)) (h : longest ≤ length o) where
  -- what a caller is told of the frame
  abbrev k : Label
  k = label_of own

  abbrev work : Work
  work = decrypted first key own.nonce A C

  abbrev found : LineCall
  found = open_line f key own.nonce A C T o

  -- by whether the seal is the one worked out
  abbrev either : Bool → OpenCall
  either t =
      cond (not t) (record { answer = Err (opened.Seal work.calls); out = cleared (length C) (replicate longest 0) })
      (record { answer = Ok work.calls; out = over work.text (replicate longest 0) })

  is : open_named (named FIRST) key own.nonce A C T (replicate longest 0) ≡ either (same work.seal T)
  is = open-first key own.nonce A C T (replicate longest 0) ∙ opened-within first key own.nonce A C T (replicate longest 0) w

  opens : (t : Bool) → same work.seal T ≡ t → found ≡ line_from f C o (either t)
  unfolding open_line open_beside
  opens t p =
      rw (le-ltb longest (length C) w.room, le-ltb (length o) (length C) (omega (arith, w.room, h)))
      (ap (line_from f C o) is ∙ ap (λ (b : Bool). line_from f C o (either b)) p)

  long : length work.text ≡ length C
  long = length-decrypted first first_fits key own.nonce A w.key-size w.nonce-size C

  text-is : text_in (either true) C ≡ work.text
  text-is = take_at work.text (drop (length work.text) (replicate longest 0)) (length C) long

  shows : (x : LineCall) → found ≡ x → (j : Judged) → judge_sealed f own key A C T ≡ j → Shows j o (verdict_on k (length C) x.answer) x.line
      → Shows (judge_sealed f own key A C T) o (verdict_on k (length C) found.answer) found.line
  shows x e j q m = (
    ap (λ (y : LineCall). verdict_on k (length C) y.answer) e ∙ m.0 ∙ ap verdict_of (sym q),
    ap (λ (y : LineCall). y.line) e ∙ m.1 ∙ ap (λ (i : Judged). line_over i o) (sym q),
  )

  other-seal : same work.seal T ≡ false → judge_sealed f own key A C T ≡ seal work.calls
  unfolding judge_sealed
  other-seal p = rw p

  module _ (p : same work.seal T ≡ true) (r : Result ⊤ LineFault) (e : layout_rule f work.text ≡ r) where
    by-rule : judge_sealed f own key A C T ≡ judging.by_rule r own work
    unfolding judge_sealed
    by-rule = rw (p, e)

    opens-rule : found ≡ line_call (by_rule r work.calls) work.text o
    opens-rule =
        opens true p
        ∙ ap (λ (s : List ℕ). line_call (found_by f (Ok work.calls) s) s o) text-is
        ∙ ap (λ (i : Result ⊤ LineFault). line_call (by_rule i work.calls) work.text o) e

  pub found-judged : Shows (judge_sealed f own key A C T) o (verdict_on k (length C) found.answer) found.line
  found-judged = by-seal (same work.seal T) refl
    where
      by-line : same work.seal T ≡ true → (r : Result ⊤ LineFault) → layout_rule f work.text ≡ r
          → Shows (judge_sealed f own key A C T) o (verdict_on k (length C) found.answer) found.line
      by-line p (Err Unlisted) e = shows _ (opens-rule p (Err Unlisted) e) (unlisted work.calls) (by-rule p (Err Unlisted) e) (refl, refl)
      by-line p (Err Trade) e = shows _ (opens-rule p (Err Trade) e) (trade work.calls) (by-rule p (Err Trade) e) (refl, refl)
      by-line p (Err found-to-be.Layout) e = shows _ (opens-rule p (Err found-to-be.Layout) e) (layout work.calls) (by-rule p (Err found-to-be.Layout) e) (refl, refl)
      by-line p (Ok tt) e =
          shows _ (opens-rule p (Ok tt) e) (line own work.text work.calls) (by-rule p (Ok tt) e) (
            ap (λ (n : ℕ). verdict_on k n (Ok work.calls)) (sym long),
            ap (λ (s : List ℕ). over s o) (take_all (length o) work.text (omega (arith, long, w.room, h))),
          )

      by-seal : (t : Bool) → same work.seal T ≡ t
          → Shows (judge_sealed f own key A C T) o (verdict_on k (length C) found.answer) found.line
      by-seal true p = by-line p (layout_rule f work.text) refl
      by-seal false p = shows _ (opens false p) (seal work.calls) (other-seal p) (refl, refl)
