-- `nonce-of-line`, from the promises alone: where `read` gives a line, the nonce call finds a nonce in the bytes between its places, and it is the nonce of
-- every frame that has those bytes between its marks, whatever it was written under; and there is such a frame. Assumes nothing.
use Rattle.std.specs.Prelude.{◌≡◌, List, ℕ, ◌+◌, length, take}
use Rattle.std.proofs.Common.{sym, ap, ◌∙◌}
use Rattle.base_lists.specs.Below.{Below}
use Rattle.frame_stuff_spec.specs.Stuffing.{stuffed}
use Rattle.read_stretch.specs.Stretches.{span, bytes_at}
use Rattle.frame_body.specs.Fields.{Own}
use Rattle.frame_spec.specs.Told.{Told, told}
use Rattle.frame_spec.specs.Frames.{sealed_body, frame_of}
use Rattle.frame_spec.specs.Lengths.{beside_line}
use Rattle.frame_write.specs.Outcomes.{Accepts}
use Rattle.read_spec.specs.Editions.{both, allows-only}
use Rattle.read_spec.specs.Judged.{Label}
use Rattle.read_call.specs.declared.Asked.{Asked}
use Rattle.read_call.specs.declared.Reading.{Reading}
use Rattle.read_nonce.specs.declared.Nonce.{Nonce}
use Rattle.read_nonce.specs.Nonces.{nonce_answer}
use Rattle.read_nonce.specs.Lines.{line-nonce}
use Rattle.demand_reading.specs.Promises.{Reads}
use Rattle.demand_reading.specs.Written.{marked}
use Rattle.demand_reading.proofs.Written.{between, written-given}
use Rattle.demand_reading.specs.GivenWritten.{gives, Made}
use Rattle.demand_reading.proofs.GivenWritten.{given-is-written, written-made}
use Rattle.demand_joined.specs.Makes.{Makes, makes-accepts, makes-frame}
use Rattle.accept_runs.specs.Promises.{Tells}

-- the nonce of what stands between a frame's marks is the frame's
framed-nonce : (t : Told) (own : Own) (L b : List ℕ) → Accepts t own L → frame_of t own L ≡ marked b → nonce_answer b ≡ record { found = 1; bytes = own.nonce }
framed-nonce t own L b a e =
    ap nonce_answer (sym (between t b own L e))
    ∙ line-nonce t both (stuffed (sealed_body t own L)) own L (length L + beside_line own.edition)
    (written-given t both own L a (allows-only own.edition).1)

-- so of every frame that a write call made it is the nonce that the call was told
pub frame-nonce : (t : Told) (own : Own) (L b : List ℕ) → Makes t own L (marked b) → nonce_answer b ≡ record { found = 1; bytes = own.nonce }
frame-nonce t own L b m = framed-nonce t own L b (makes-accepts m) (sym (makes-frame m))

pub record NonceOf (b : List ℕ) (n : Nonce) : Type 0 where
  pub found : n.found ≡ 1
  pub every-frame : (t : Told) (own : Own) (L : List ℕ) → Makes t own L (marked b) → n.bytes ≡ own.nonce

module _ (key font : List ℕ) (asked : Asked) (s : List ℕ) (bytes : Below 256 s) (from : ℕ) (l : List ℕ) (r : Reading) (l' : List ℕ)
    (c : Reads key font asked s from l r l') where
  pub nonce-of-line : (p q : ℕ) (b : Label) (n k : ℕ) → r ≡ gives p q b n k → (x : Nonce) → Tells (bytes_at s (span p q)) x
      → NonceOf (bytes_at s (span p q)) x × Made key font asked.layout asked.editions b (take n l') k (bytes_at s (span p q))
  nonce-of-line p q b n k e x y =
      let made = given-is-written key font asked s bytes from l r l' c p q b n k e in
      let o = bytes_at s (span p q) in
      let w = (written-made key font asked.layout asked.editions b (take n l') k o made).0 in
      let its = framed-nonce (told key font asked.layout) made.own (take n l') o w.accepts w.makes in (
        record {
          found = ap (λ (z : Nonce). z.found) (y ∙ its);
          every-frame = λ t own L m. ap (λ (z : Nonce). z.bytes) (y ∙ frame-nonce t own L o m);
        },
        made,
      )
