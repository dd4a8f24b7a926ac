-- `c-nonce-of-line` (over the exported calls): where `lubdhvani_read` gives a line, `lubdhvani_nonce` finds a nonce in the bytes between its places, and it is
-- the nonce of every frame that a C write call left, answering 0, with those bytes between its marks, whatever it was written under; and a write call makes
-- such a frame. That the stream is bytes is a premise; what the call is passed meets it by its type (`c-read-bytes`). Assumes nothing.
use Rattle.std.specs.Prelude.{◌≡◌, List, ℕ, take}
use Rattle.std.proofs.Common.{ap, subst, ◌∙◌}
use Rattle.base_lists.specs.Below.{Below}
use Rattle.line_layout.specs.Layouts.{layout_of}
use Rattle.frame_body.specs.Fields.{Own}
use Rattle.frame_spec.specs.Told.{told}
use Rattle.read_stretch.specs.Stretches.{span, bytes_at}
use Rattle.read_spec.specs.Judged.{label}
use Rattle.read_nonce.specs.declared.Nonce.{Nonce}
use Rattle.demand_reading.specs.Written.{marked}
use Rattle.demand_reading.specs.GivenWritten.{Made}
use Rattle.demand_reading.proofs.GivenWritten.{written-made}
use Rattle.demand_joined.specs.Makes.{Makes, accepted-makes}
use Rattle.accept_runs.specs.NonceOfLine.{frame-nonce}
use Rattle.lubdhvani.specs.Readings.{LINE}
use Rattle.lubdhvani.specs.declared.frame.Framed.{Framed}
use Rattle.lubdhvani.specs.declared.read.Asked.{Asked}
use Rattle.lubdhvani.specs.declared.read.Reading.{Reading}
use Rattle.lubdhvani_demands.specs.Promises.{Writes, Reads}
use Rattle.lubdhvani_demands.proofs.Reading.{c-given-is-written}
use Rattle.lubdhvani_orders.specs.Promises.{Tells}
use Rattle.lubdhvani_orders.specs.FramesAccepted.{c-makes}

-- a nonce is found, that of every frame with these bytes between its marks
pub record NonceOf (b : List ℕ) (n : Nonce) : Type 0 where
  pub found : n.found ≡ 1
  pub every-frame : (key : List ℕ) (own : Own) (font : List ℕ) (lay : ℕ) (L f : List ℕ) (w : Framed) (f' : List ℕ) → Writes key own font lay L f w f'
      → w.number ≡ 0 → take w.length f' ≡ marked b → n.bytes ≡ own.nonce

pub c-nonce-of-line : (key font : List ℕ) (asked : Asked) (s : List ℕ) → Below 256 s → (from : ℕ) (l : List ℕ) (r : Reading) (l' : List ℕ)
    → Reads key font asked s from l r l' → r.outcome ≡ LINE
    → (x : Nonce) → Tells (bytes_at s (span r.first r.closing)) x
    → NonceOf (bytes_at s (span r.first r.closing)) x
    × Made key font (layout_of asked.layout) asked.editions (label r.edition r.job) (take r.length l') r.calls
    (bytes_at s (span r.first r.closing))
c-nonce-of-line key font asked s bytes from l r l' p e x y =
    let lay = layout_of asked.layout in
    let t = told key font lay in
    let L = take r.length l' in
    let b = bytes_at s (span r.first r.closing) in
    let made = c-given-is-written key font asked s bytes from l r l' p e in
    let w = (written-made key font lay asked.editions (label r.edition r.job) L r.calls b made).0 in
    let its = frame-nonce t made.own L b (subst (Makes t made.own L) w.makes (accepted-makes t made.own L w.accepts)) in (
      record {
        found = ap (λ (z : Nonce). z.found) (y ∙ its);
        every-frame = λ key own font lay L f w f' q done is.
            let m = subst (Makes (told key font (layout_of lay)) own L) is (c-makes key own font lay L f w f' q done) in
            ap (λ (z : Nonce). z.bytes) (y ∙ frame-nonce (told key font (layout_of lay)) own L b m);
      },
      made,
    )
