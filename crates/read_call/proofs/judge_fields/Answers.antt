-- `judge_fields` meets its promise: what `judge_body` tells fixes where each value stands. Assumes nothing.
use mathlib.Core.Path.{sym, ◌∙◌}
use native.Mathlib.Omega.{arith}
use Rattle.base_lists.specs.Below.{below_all}
use Rattle.frame_body.specs.Fields.{fields_of}
use Rattle.frame_spec.specs.Told.{told}
use Rattle.read_spec.specs.Editions.{among}
use Rattle.read_spec.specs.Judged.{shape}
use Rattle.read_spec.specs.Judging.{judge_fields}
use Rattle.read_spec.specs.Ceiling as ceiling
use Rattle.read_call.proofs.Parts.{parts, no_fields}
use Rattle.read_call.proofs.Shown.{shown}
use Rattle.read_call.proofs.judge_fields.Goals as goal

pub returns-in-None : goal.returns-in-None
returns-in-None c =
    let met = shown (ceiling.within c.args.asked.allowed (judge_fields (told c.args.key.now c.args.font.now c.args.asked.layout)
    (among c.args.asked.editions (fields_of c.args.body.now)))) c.args.line.now shape
    (no_fields (told c.args.key.now c.args.font.now c.args.asked.layout) c.args.asked.editions c.args.asked.allowed c.args.body.now
    (sym c.judge_body.ensures ∙ c.in-None.is)) _ c.refused.ensures in
    record { value = met.0; line_after = met.1 }

pub judge_edition-requires : goal.judge_edition-requires
judge_edition-requires c =
    let b = c.args.body.now in record {
      parts = parts b (below_all 256 b (λ k h. omega (arith, c.type_inv.body k))) _ _
          (sym c.judge_body.ensures ∙ c.in-Some.is);
      sizes = c.requires.sizes;
      longest_in_bounds = c.requires.longest_in_bounds;
    }
