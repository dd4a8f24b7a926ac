-- `frames-accepted` (order W12), from the promises alone: every stream within the size limit made of at most 512 frames of our writers, of either edition
-- where it is allowed, none too, under the key, font and layout asked for and with nonces that differ, gets yes. Assumes nothing.
use Rattle.std.specs.Prelude.{◌≡◌, ℕ, ◌+◌, ◌≤◌}
use Rattle.std.proofs.Math.Path.{refl, ap₂}
use Rattle.std.proofs.Common.{sym, ap, subst, ◌∙◌, arith}
use mathlib.Core.List.{List, [], ◌∷◌}
use Rattle.std.proofs.Math.ListN.{length}
use Rattle.line_layout.specs.declared.Layout.{Layout}
use Rattle.read_stretch.specs.Stretches.{bytes_at}
use Rattle.frame_spec.specs.Told.{Told, told}
use Rattle.read_spec.specs.Sizes.{Sizes}
use Rattle.read_spec.specs.Judging.{judge}
use Rattle.read_readings.specs.Readings.{Reading}
use Rattle.read_call.specs.Answers.{longest_stream}
use Rattle.read_nonce.specs.declared.Nonce.{Nonce}
use Rattle.read_nonce.specs.Nonces.{nonce_of}
use Rattle.read_nonce.specs.Lines.{line-nonce}
use Rattle.demand_joined.specs.Frames.{Frame, count_of}
use Rattle.demand_joined.proofs.Lines.{frames_of, lines_read, line_read, frames-readings}
use Rattle.accept_spec.specs.declared.Accepted.{Accepted}
use Rattle.accept_spec.specs.Nonces.{AllDiffer}
use Rattle.accept_spec.specs.Accepting.{most_stretches, yes, read_all}
use Rattle.accept_spec.specs.Exactly.{Lines, nonces_of}
use Rattle.accept_spec.specs.Readings.{JudgedAt, readings-judged}
use Rattle.accept_spec.proofs.Cases.{good-accepted}
use Rattle.accept_runs.specs.Promises.{Accepts}

module _ {t : Told} {ed : ℕ} where
  -- the nonces of frames, in their order
  abbrev pub frame_nonces : List (Frame t ed) → List (List ℕ)
  frame_nonces [] = []
  frame_nonces (f ∷ fs) = f.own.nonce ∷ frame_nonces fs

  all_lines : (fs : List (Frame t ed)) (at : ℕ) → Lines (lines_read at fs)
  all_lines [] at = tt
  all_lines (f ∷ fs) at = (refl, all_lines fs (at + length f.bytes))

  as_many : (fs : List (Frame t ed)) (at : ℕ) → length (lines_read at fs) ≡ length fs
  as_many [] at = refl
  as_many (f ∷ fs) at = omega (arith, as_many fs (at + length f.bytes))

  nonces-are : (s : List ℕ) (fs : List (Frame t ed)) (at : ℕ) → JudgedAt (judge t ed) s (lines_read at fs) → nonces_of s (lines_read at fs) ≡ frame_nonces fs
  unfolding nonce_of
  nonces-are s [] at j = refl
  nonces-are s (f ∷ fs) at j =
      ap₂ ◌∷◌ (ap (λ (n : Nonce). n.bytes) (line-nonce t ed (bytes_at s (line_read at f).place) f.own f.line (count_of f) (sym j.0)))
      (nonces-are s fs (at + length f.bytes) j.1)

pub frames-accepted : (key font : List ℕ) (ed : ℕ) (lay : Layout) → Sizes (told key font lay) → (fs : List (Frame (told key font lay) ed))
    → length (frames_of fs) ≤ longest_stream → length fs ≤ most_stretches → AllDiffer (frame_nonces fs)
    → (r : Accepted) → Accepts key font ed lay (frames_of fs) r → r ≡ yes (frames_of fs)
frames-accepted key font ed lay z fs h few d r p =
    let t = told key font lay in
    let s = frames_of fs in
    let is : read_all t ed s ≡ lines_read 0 fs = frames-readings fs in
    let j : JudgedAt (judge t ed) s (lines_read 0 fs) = subst (JudgedAt (judge t ed) s) is (readings-judged (judge t ed) s 0) in
    p ∙ good-accepted t ed s z h (omega (arith, few, as_many fs 0, ap length is)) (subst Lines (sym is) (all_lines fs 0))
    (subst (λ (l : List Reading). AllDiffer (nonces_of s l)) (sym is) (subst AllDiffer (sym (nonces-are s fs 0 j)) d))
