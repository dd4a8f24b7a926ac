-- `seal_of` meets its promise: the seal's place lies within the first bytes, which count. Assumes nothing.
use Rattle.ingage_call.proofs.Calls.{seal-place}
use native.Mathlib.Omega.{arith}
use Rattle.ingage_call.proofs.texts.Cipher.seal_of.Goals as goal

pub overflow_add-to : goal.overflow_add-to
overflow_add-to c = let e = c.args.self.fits.ends in let h = c.args.self.fits.held in omega arith

pub slice_bounds-result-count : goal.slice_bounds-result-count
slice_bounds-result-count c = let e = c.args.self.fits.ends in let h = c.args.self.fits.held in omega arith

pub slice_bounds-result-start : goal.slice_bounds-result-start
slice_bounds-result-start c = let e = c.args.self.fits.ends in let h = c.args.self.fits.held in omega arith

pub slice_bounds-result-end : goal.slice_bounds-result-end
slice_bounds-result-end c = let e = c.args.self.fits.ends in let h = c.args.self.fits.held in omega arith

pub returns : goal.returns
returns c = seal-place c.args.self.z c.args.s.now c.args.self.fits c.requires
