-- Order W6 over the exported calls: a frame converted and converted back under the nonce and job that it was first made with is the first frame, byte for byte.
-- The second call is handed what stands between the marks that the first left in its buffer. That the stretch is bytes is a premise; what the calls are
-- passed meets it by its type (Bytes.antt). Assumes nothing.
use Rattle.std.specs.Prelude.{◌≡◌, refl, List, ℕ, ◌≤◌, length, take, Ok}
use Rattle.std.proofs.Common.{sym, ap, ◌∙◌}
use Rattle.base_lists.specs.Below.{Below}
use Rattle.base_lists.specs.Buffers.{over}
use Rattle.line_layout.specs.Layouts.{layout_of}
use Rattle.frame_body.specs.Fields.{Own}
use Rattle.frame_spec.specs.Told.{told}
use Rattle.frame_spec.specs.Lengths.{frame_room}
use Rattle.read_spec.specs.Sizes.{Sizes}
use Rattle.convert_spec.specs.Answers.{convert_call}
use Rattle.demand_reading.specs.Written.{marked}
use Rattle.demand_reading.proofs.GivenWritten.{wrote}
use Rattle.frame_spec.specs.OneToOne.{between}
use Rattle.convert_call.specs.Back.{convert-back}
use Rattle.frame_write.specs.Answers.{frame_made}
use Rattle.lubdhvani.specs.Answers.{converted}
use Rattle.lubdhvani.specs.declared.frame.Framed.{Framed}
use Rattle.lubdhvani.specs.declared.answers.Measured.{Measured}
use Rattle.lubdhvani_demands.specs.Promises.{Writes, Converts}
use Rattle.lubdhvani_demands.specs.Written.{c-written, c-converted}

-- done, with a length
abbrev done : ℕ → Measured
done n = record { number = 0; length = n }

-- a write call made the first frame, a mark, the stretch s and a mark; a call of the converter with s was done; and one with what then stands between the
-- marks of its buffer, with the first's own nonce and job and room for its frame: it is done, and leaves the first frame
pub c-convert-back : (key font : List ℕ) (lay : ℕ) → (s : List ℕ) → Below 256 s
    → (first : Own) (M f₀ : List ℕ) (w₀ : Framed) (f₀' : List ℕ) → Writes key first font lay M f₀ w₀ f₀' → w₀.number ≡ 0 → take w₀.length f₀' ≡ marked s
    → (own : Own) (f : List ℕ) (w : Measured) (f' : List ℕ) → Converts key own font lay s f w f' → w.number ≡ 0
    → (g : List ℕ) (w₂ : Measured) (g' : List ℕ) → frame_room first.edition ≤ length g → Converts key first font lay (between (take w.length f')) g w₂ g'
    → (w₂ ≡ done w₀.length) × (g' ≡ over (marked s) g)
c-convert-back key font lay s bytes first M f₀ w₀ f₀' p₀ e₀ is own f w f' p e g w₂ g' room p₂ =
    let t = told key font (layout_of lay) in
    let made = wrote key first font (layout_of lay) M f₀ (frame_made w₀.length w₀.calls) f₀'
    (sym (c-written key first font lay M f₀ w₀ f₀' p₀ e₀), p₀.1) w₀.length w₀.calls refl in
    let y = made.accepts.sealable in
    let z = convert-back t (record { key-is = y.key-is; font-is = y.font-is }) own s bytes f (Ok w.length) f'
    (sym (c-converted key own font lay s f w f' p e), p.1) w.length refl first M made.accepts (sym made.frame ∙ is)
    g (convert_call t first (between (take w.length f')) g).answer g' room (refl, p₂.1) in
    let long : length (marked s) ≡ w₀.length = ap length (sym is ∙ made.frame) ∙ sym made.long in
    (p₂.0 ∙ ap converted z.0 ∙ ap done long, z.1)
