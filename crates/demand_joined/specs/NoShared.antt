-- Order W13, first half, from the writers' promise alone: no two orders share a frame. Two write calls under one key that leave equal frames had
-- the same edition, nonce, job, font digest and line; their layouts may differ. So calls of `write` and `write_two` never leave equal frames.
-- Nothing need be bytes. Assumes nothing.
use Rattle.std.specs.Prelude.{◌≡◌, List, [], ℕ}
use Rattle.std.proofs.Common.{sym, ap, ap₂, ◌∙◌, arith}
use Rattle.ingage_spec.specs.Instances.{first, first_fits}
use Rattle.ingage_spec.specs.Cipher.{Work, decrypted}
use Rattle.ingage_spec.proofs.RoundTrip.{open-seal}
use Rattle.frame_body.specs.declared.Edition.TheVariants.{One, Two}
use Rattle.frame_body.specs.Fields.{Own, own_of, fields, associated}
use Rattle.line_layout.specs.declared.Layout.{Layout}
use Rattle.frame_spec.specs.Told.{Told, told}
use Rattle.frame_spec.specs.Frames.{sealed_line}
use Rattle.frame_spec.specs.Lengths.{Sealable}
use Rattle.frame_spec.specs.OneToOne.{frame-fields}
use Rattle.demand_joined.specs.Makes.{Makes, makes-accepts, makes-frame}

-- what two orders had in common: everything but the layout
pub record SameOrder (own own' : Own) (font font' line line' : List ℕ) : Type 0 where
  pub same-edition : own.edition ≡ own'.edition
  pub same-nonce : own.nonce ≡ own'.nonce
  pub same-job : own.job ≡ own'.job
  pub same-font : font ≡ font'
  pub same_line : line ≡ line'

-- the line that a ciphertext opens to
unfoldable line_in : List ℕ → Own → List ℕ → List ℕ → List ℕ
line_in key own font cipher = (decrypted first key own.nonce (associated own.edition font own.job) cipher).text

line-in : (t : Told) (own : Own) (line : List ℕ) → Sealable t own line → line_in t.key own t.font (sealed_line t own line).text ≡ line
unfolding line_in sealed_line
line-in t own line z =
    ap (λ (w : Work). w.text)
    (open-seal first first_fits t.key own.nonce (associated own.edition t.font own.job) z.key-is z.nonce-is line)

pub no-shared-frame : {key : List ℕ} {own own' : Own} {font font' : List ℕ} {lay lay' : Layout} {line line' frame : List ℕ}
    → Makes (told key font lay) own line frame → Makes (told key font' lay') own' line' frame → SameOrder own own' font font' line line'
no-shared-frame {key} {own} {own'} {font} {font'} {lay} {lay'} {line} {line'} m m' =
    let t = told key font lay in
    let t' = told key font' lay' in
    let z = (makes-accepts m).sealable in
    let z' = (makes-accepts m').sealable in
    let C = (sealed_line t own line).text in
    let C' = (sealed_line t' own' line').text in
    let e : fields own font C (sealed_line t own line).seal ≡ fields own' font' C' (sealed_line t' own' line').seal =
    frame-fields z z' (sym (makes-frame m) ∙ makes-frame m') in
    let o : own ≡ own' = cc e in
    let d : font ≡ font' = cc e in
    let c : C ≡ C' = cc e in
    record {
      same-edition = ap (λ (x : Own). x.edition) o;
      same-nonce = ap (λ (x : Own). x.nonce) o;
      same-job = ap (λ (x : Own). x.job) o;
      same-font = d;
      same_line =
          sym (line-in t own line z)
          ∙ ap (λ (x : Own). line_in key x font C) o ∙ ap₂ (line_in key own') d c
          ∙ line-in t' own' line' z';
    }

-- a frame of edition one is none of edition two
pub no-shared-edition : {key : List ℕ} {nonce nonce' job : List ℕ} {font font' : List ℕ} {lay lay' : Layout} {line line' frame : List ℕ}
    → Makes (told key font lay) (own_of One nonce []) line frame → Makes (told key font' lay') (own_of Two nonce' job) line' frame → ⊥
no-shared-edition m m' = let z : ◌≡◌ {A = ℕ} 0 1 = cc (no-shared-frame m m').same-edition in omega arith
