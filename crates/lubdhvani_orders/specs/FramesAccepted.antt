-- `c-frames-accepted` (order W12 over the exported calls): every stream within the size limit made of at most 512 frames, none too, each left by a C write call
-- that answered 0, of either edition where it is allowed, under the key, font and layout asked for and with nonces that differ, gets 0. Assumes nothing.
use Rattle.std.specs.Prelude.{◌≡◌, true, ℕ, ◌≤◌, length}
use Rattle.std.proofs.Math.Path.{refl, ap}
use Rattle.std.proofs.Common.{sym, subst, ◌∙◌, arith}
use mathlib.Core.List.{List, [], ◌∷◌, ◌++◌, map}
use Rattle.std.proofs.Math.ListN.{take}
use Rattle.std.proofs.lemmas.List.{length-map}
use Rattle.line_layout.specs.Layouts.{layout_of}
use Rattle.frame_body.specs.Fields.{Own}
use Rattle.frame_spec.specs.Told.{told}
use Rattle.read_spec.specs.Sizes.{Sizes}
use Rattle.read_spec.specs.Editions.{allows}
use Rattle.read_call.specs.Answers.{longest_stream}
use Rattle.demand_joined.specs.Makes.{Makes, done-makes}
use Rattle.demand_joined.specs.Frames as inner
use Rattle.demand_joined.proofs.Lines.{frames_of}
use Rattle.accept_spec.specs.Nonces.{AllDiffer}
use Rattle.accept_spec.specs.Accepting.{most_stretches, accept_answer}
use Rattle.accept_runs.specs.FramesAccepted.{frame_nonces, frames-accepted}
use Rattle.frame_write.specs.Answers.{frame_made}
use Rattle.lubdhvani.specs.Accepting.{accepted_out}
use Rattle.lubdhvani.specs.declared.accept.Accepted.{Accepted}
use Rattle.lubdhvani.specs.declared.frame.Framed.{Framed}
use Rattle.lubdhvani_demands.specs.Promises.{Writes}
use Rattle.lubdhvani_demands.specs.Written.{c-written}
use Rattle.lubdhvani_orders.specs.Promises.{Accepts}
use Rattle.lubdhvani_orders.specs.YesExactly.{yes}

-- what a write call that answers 0 leaves is a frame that the write call below makes
pub c-makes : (key : List ℕ) (own : Own) (font : List ℕ) (lay : ℕ) (L f : List ℕ) (w : Framed) (f' : List ℕ) → Writes key own font lay L f w f'
    → w.number ≡ 0
    → Makes (told key font (layout_of lay)) own L (take w.length f')
c-makes key own font lay L f w f' p e =
    done-makes (told key font (layout_of lay)) own L f (frame_made w.length w.calls) f' w.length w.calls
    (sym (c-written key own font lay L f w f' p e), p.1) refl

-- a frame that a write call left, of an edition that is allowed
pub record Frame (key font : List ℕ) (lay editions : ℕ) : Type 0 where
  pub own : Own
  pub line : List ℕ
  pub before : List ℕ
  pub answer : Framed
  pub after : List ℕ
  pub written : Writes key own font lay line before answer after
  pub done : answer.number ≡ 0
  pub allowed : allows editions own.edition ≡ true

module _ {key font : List ℕ} {lay editions : ℕ} where
  -- the stream that frames are joined to
  abbrev pub stream_of : List (Frame key font lay editions) → List ℕ
  stream_of [] = []
  stream_of (f ∷ fs) = take f.answer.length f.after ++ stream_of fs

  -- their nonces, in their order
  abbrev pub nonces_of : List (Frame key font lay editions) → List (List ℕ)
  nonces_of [] = []
  nonces_of (f ∷ fs) = f.own.nonce ∷ nonces_of fs

  as-made : Frame key font lay editions → inner.Frame (told key font (layout_of lay)) editions
  as-made f = record {
    own = f.own;
    line = f.line;
    bytes = take f.answer.length f.after;
    makes = c-makes key f.own font lay f.line f.before f.answer f.after f.written f.done;
    allowed = f.allowed;
  }

  stream-made : (fs : List (Frame key font lay editions)) → frames_of (map as-made fs) ≡ stream_of fs
  unfolding as-made
  stream-made [] = refl
  stream-made (f ∷ fs) = ap (λ (l : List ℕ). take f.answer.length f.after ++ l) (stream-made fs)

  nonces-made : (fs : List (Frame key font lay editions)) → frame_nonces (map as-made fs) ≡ nonces_of fs
  unfolding as-made
  nonces-made [] = refl
  nonces-made (f ∷ fs) = ap (λ (l : List (List ℕ)). f.own.nonce ∷ l) (nonces-made fs)

pub c-frames-accepted : (key font : List ℕ) (editions lay : ℕ) → Sizes (told key font (layout_of lay)) → (fs : List (Frame key font lay editions))
    → length (stream_of fs) ≤ longest_stream → length fs ≤ most_stretches → AllDiffer (nonces_of fs)
    → (r : Accepted) → Accepts key font editions lay (stream_of fs) r → r ≡ yes (stream_of fs)
c-frames-accepted key font editions lay z fs h few d r p =
    let t = told key font (layout_of lay) in
    let e : frames_of (map as-made fs) ≡ stream_of fs = stream-made fs in
    let a = accept_answer t editions (frames_of (map as-made fs)) in
    let is = frames-accepted key font editions (layout_of lay) z (map as-made fs) (omega (arith, h, ap length e)) (omega (arith, few, length-map fs as-made))
    (subst AllDiffer (sym (nonces-made fs)) d) a refl in
    p ∙ ap (λ (s : List ℕ). accepted_out (accept_answer t editions s)) (sym e) ∙ ap accepted_out is ∙ ap yes e
