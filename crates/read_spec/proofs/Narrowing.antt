-- A layout narrows (order W7): a stretch is found to be what it is with none named, or that was a line and is 17 now, with the same count; within
-- every ceiling on the work. Assumes nothing.
use Rattle.std.specs.Prelude.{Bool, true, false, not, cond, List, ℕ, ltb, Ok, Err, Result}
use Rattle.base_lists.specs.Buffers.{same}
use Rattle.frame_stuff_spec.specs.declared.UnstuffFault.{UnstuffFault}
use Rattle.frame_stuff_spec.specs.declared.UnstuffFault.TheVariants as unstuffed-is
use Rattle.frame_stuff_spec.specs.Stuffing.{unstuffed}
use Rattle.frame_stuff_spec.specs.Answers.{length_answer}
use Rattle.line_layout.specs.declared.Layout as layouts
use Rattle.line_layout.specs.declared.Layout.TheVariants.{Neither}
use Rattle.line_layout.specs.Layouts.{layout_rule}
use Rattle.line_layout.specs.Rule as ruled
use Rattle.ingage_spec.specs.Instances.{first}
use Rattle.ingage_spec.specs.Cipher.{Work, decrypted, accepted}
use Rattle.frame_body.specs.Fields.{Own, Fields, fields, no_body, fields_of, associated}
use Rattle.frame_spec.specs.Told.{Told}
use Rattle.frame_spec.specs.AnyLayout.{under}
use Rattle.read_spec.specs.Editions.{among}
use Rattle.read_spec.specs.Judged.{Judged, work, seal, font, layout, line}
use Rattle.read_spec.specs.Judging.{by_rule, judge_sealed, judge_fields, by_stuffing, judge}
use Rattle.read_spec.specs.Ceiling.{within}
use Rattle.read_spec.specs.Narrowing.{Narrower, alike, narrowed}

module _ (l : layouts.Layout) (own : Own) (w : Work) where
  rule-narrows : Narrower (by_rule (layout_rule l w.text) own w) (by_rule (layout_rule Neither w.text) own w)
  rule-narrows = go (ruled.rule-narrows l w.text)
    where
      go : ruled.Narrowed l w.text → Narrower (by_rule (layout_rule l w.text) own w) (by_rule (layout_rule Neither w.text) own w)
      go (ruled.as-without e) = rw e (alike (by_rule (layout_rule Neither w.text) own w))
      go (ruled.not-laid e f) = rw (e, f) (narrowed own w.text w.calls)

  seal-narrows : (b : Bool) → Narrower (cond b (seal w.calls) (by_rule (layout_rule l w.text) own w))
      (cond b (seal w.calls) (by_rule (layout_rule Neither w.text) own w))
  seal-narrows true = alike (seal w.calls)
  seal-narrows false = rule-narrows

module _ (t : Told) where
  pub fields-narrows : (f : Fields) → Narrower (judge_fields t f) (judge_fields (under Neither t) f)
  unfolding judge_sealed
  fields-narrows no_body = alike (judge_fields t no_body)
  fields-narrows (fields own digest cipher T) = by-font (not (same digest t.font))
    where
      w : Work
      w = decrypted first t.key own.nonce (associated own.edition digest own.job) cipher

      sealed : layouts.Layout → Judged
      sealed l = cond (not (accepted w.seal T)) (seal w.calls) (by_rule (layout_rule l w.text) own w)

      by-font : (b : Bool) → Narrower (cond b font (sealed t.layout)) (cond b font (sealed Neither))
      by-font true = alike font
      by-font false = seal-narrows t.layout own w (not (accepted w.seal T))

  pub judge-narrows : (ed : ℕ) (s : List ℕ) → Narrower (judge t ed s) (judge (under Neither t) ed s)
  unfolding judge
  judge-narrows ed s = by-stuffing (length_answer s)
    where
      found : Told → Judged
      found u = judge_fields u (among ed (fields_of (unstuffed s)))

      by-stuffing : (u : Result ℕ UnstuffFault) → Narrower (by_stuffing u (found t)) (by_stuffing u (found (under Neither t)))
      by-stuffing (Err unstuffed-is.TooLong) = alike (by_stuffing (Err unstuffed-is.TooLong) (found t))
      by-stuffing (Err unstuffed-is.NoRoom) = alike (by_stuffing (Err unstuffed-is.NoRoom) (found t))
      by-stuffing (Err unstuffed-is.Bad) = alike (by_stuffing (Err unstuffed-is.Bad) (found t))
      by-stuffing (Ok n) = fields-narrows (among ed (fields_of (unstuffed s)))

-- a ceiling lets both through, or neither
pub within-narrows : (a : ℕ) (j k : Judged) → Narrower j k → Narrower (within a j) (within a k)
unfolding within
within-narrows a _ _ (alike j) = alike (cond (ltb a _) work j)
within-narrows a _ _ (narrowed own l n) = go (ltb a n)
  where
    go : (b : Bool) → Narrower (cond b work (layout n)) (cond b work (line own l n))
    go true = alike work
    go false = narrowed own l n
