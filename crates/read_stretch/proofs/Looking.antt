-- What `span_after`, `next_span` and `next_stretch` are proved from: what stands at a place decides where to look on, and the places found lie within the
-- stream. Assumes nothing.
use Rattle.read_stretch.specs.Steps.{after-end, after-mark, after-close, after_on, next-end, next-mark, next-on}
use Rattle.read_stretch.proofs.Places.{next-within}

pub ruleset steps = (after-end, after-mark, after-close, after_on, next-end, next-mark, next-on)

pub ruleset within = (next-within)
