use mathlib.Core.Path.{refl}
use native.Mathlib.Omega.{arith}
use lib.ListN.{replicate}
use Rattle.bundle_spec.specs.Lengths.{longest_bundle}
use Rattle.bundle_write.proofs.Making.{begun, one_more, keeps, whole}
use Rattle.bundle_write.proofs.made.Goals as goal

pub loop-i-init : goal.loop-i-init
loop-i-init c =
    let s = c in
    let put = c.put_field-at in
    let l = begun (replicate longest_bundle 0) s.args.name.now s.args.rows.now refl s.requires.0 s.requires.1 _ _ put.ensures.value put.ensures.out_after in
    (keeps (replicate longest_bundle 0) s.args.name.now s.args.rows.now refl s.requires.0 s.requires.1 l, l)

pub loop-i-preserved : goal.loop-i-preserved
loop-i-preserved c =
    let s = c in
    let put = c.put_field-at-in-loop-i in
    let v = c.glyph_value in
    let at = c.loop-i in
    let l = one_more (replicate longest_bundle 0) s.args.name.now s.args.rows.now refl s.requires.0 s.requires.1 _ _ v.result _ _ at.i
    (omega arith) at.invariant.1 v.ensures put.ensures.value put.ensures.out_after in
    (keeps (replicate longest_bundle 0) s.args.name.now s.args.rows.now refl s.requires.0 s.requires.1 l, l)

pub returns : goal.returns
returns c =
    let s = c in
    whole (replicate longest_bundle 0) s.args.name.now s.args.rows.now refl s.requires.0 s.requires.1 _ _ _ (omega arith) c.loop-i.invariant.1
