-- What a call comes to under the layout that was made of a number is what it comes to under the layout that the number names. Assumes nothing.
use Rattle.std.specs.Prelude.{◌≡◌, List, ℕ, Result}
use Rattle.std.proofs.Common.{ap, ◌∙◌}
use Rattle.line_layout.specs.declared.Layout.{Layout}
use Rattle.frame_body.specs.Fields.{Own}
use Rattle.frame_spec.specs.Told.{told}
use Rattle.frame_write.specs.declared.Written.{Written}
use Rattle.frame_write.specs.declared.FrameRefusal.{FrameRefusal}
use Rattle.frame_write.specs.Answers.{write_call}
use Rattle.convert_spec.specs.declared.ConvertFault.{ConvertFault}
use Rattle.convert_spec.specs.Answers.{convert_call}
use Rattle.read_call.specs.declared.Asked.{Asked}
use Rattle.read_call.specs.declared.Reading.{Reading}
use Rattle.read_call.specs.Answers.{read_answer, read_out}

module _ (key font : List ℕ) {l m : Layout} (e : l ≡ m) where
  pub written-named : (own : Own) (L f : List ℕ) {w : Result Written FrameRefusal} {o : List ℕ}
      → (w ≡ (write_call (told key font l) own L f).answer) × (o ≡ (write_call (told key font l) own L f).frame)
      → (w ≡ (write_call (told key font m) own L f).answer) × (o ≡ (write_call (told key font m) own L f).frame)
  written-named own L f p =
      (p.0 ∙ ap (λ (n : Layout). (write_call (told key font n) own L f).answer) e, p.1 ∙ ap (λ (n : Layout). (write_call (told key font n) own L f).frame) e)

  pub converted-named : (own : Own) (s f : List ℕ) {w : Result ℕ ConvertFault} {o : List ℕ}
      → (w ≡ (convert_call (told key font l) own s f).answer) × (o ≡ (convert_call (told key font l) own s f).frame)
      → (w ≡ (convert_call (told key font m) own s f).answer) × (o ≡ (convert_call (told key font m) own s f).frame)
  converted-named own s f p =
      (p.0 ∙ ap (λ (n : Layout). (convert_call (told key font n) own s f).answer) e, p.1 ∙ ap (λ (n : Layout). (convert_call (told key font n) own s f).frame) e)

-- and what a reader comes to, told anew what was asked
module _ (key font : List ℕ) {q p : Asked} (e : q ≡ p) where
  pub read_told : (s : List ℕ) (from : ℕ) (o : List ℕ) {r : Reading} {w : List ℕ}
      → (r ≡ read_answer (told key font q.layout) q s from o) × (w ≡ read_out (told key font q.layout) q s from o)
      → (r ≡ read_answer (told key font p.layout) p s from o) × (w ≡ read_out (told key font p.layout) p s from o)
  read_told s from o h = (
    h.0 ∙ ap (λ (a : Asked). read_answer (told key font a.layout) a s from o) e,
    h.1 ∙ ap
        (λ (a : Asked). read_out (told key font a.layout) a s from o) e,
  )
