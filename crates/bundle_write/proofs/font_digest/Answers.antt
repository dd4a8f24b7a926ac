-- `font_digest` meets its promise: with room, the digest of the font's instance over the bundle. Assumes nothing.
use mathlib.Core.Path.{refl, ◌∙◌}
use native.Mathlib.Omega.{arith}
use lib.ListN.{length}
use borrow.Author.Tests.{le-ltb}
use Rattle.digest_spec.specs.Instances.{DIGEST, unknown}
use Rattle.digest_call.specs.Order.{digest-done}
use Rattle.bundle_write.specs.Answers.{font_instance, bundle_digest}
use Rattle.bundle_write.proofs.font_digest.Goals as goal

pub returns-clause-out_after : goal.returns-clause-out_after
unfolding bundle_digest unknown
returns-clause-out_after c =
    rw (le-ltb (length c.args.out.now) DIGEST (omega arith))
    (c.digest.ensures.1 ∙ (digest-done font_instance c.args.bundle.now c.args.out.now refl c.requires (omega arith)).1)
