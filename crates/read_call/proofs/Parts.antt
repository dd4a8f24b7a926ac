-- The parts of a body that `judge_body` takes are its fields' values, and what the body is found to be by them. Assumes nothing.
use Rattle.std.specs.Prelude.{Some, None, Result, Option}
use mathlib.Core.Path.{◌≡◌, refl, sym, ap, ap₂, subst, ◌∙◌}
use mathlib.Core.Bool.{Bool, true, false, not, cond}
use mathlib.Core.List.{List, [], ◌∷◌}
use Prim.Native.Nat.{ℕ, ◌+◌, ◌-◌, ◌≤◌, ◌<◌}
use native.Mathlib.Omega.{arith}
use lib.Dec.{ltb}
use lib.ListN.{length, drop, length-drop, replicate}
use borrow.Author.Tests.{ltb-true, ltb-false}
use lib.Seq.{length-take-le}
use Rattle.base_lists.specs.Below.{Below}
use Rattle.base_lists.specs.Buffers.{same}
use Rattle.line_spec.specs.Lines.{longest}
use Rattle.ingage_spec.specs.Instances.{first}
use Rattle.ingage_spec.proofs.Results.{open-calls-first}
use Rattle.ingage_answers.specs.Exactly.{Within}
use Rattle.line_layout.specs.declared.Layout.{Layout}
use Rattle.frame_body.specs.declared.Edition.{Edition}
use Rattle.frame_body.specs.declared.Edition.TheVariants.{One, Two}
use Rattle.frame_body.specs.Fields.{seal_length, Own, own_of, Fields, fields, no_body, fields_of, body, associated}
use Rattle.frame_body.specs.Answers.{edition_number, judged}
use Rattle.frame_body.specs.Job.{job_number}
use Rattle.frame_body.specs.Lengths.{Sized, job_field_length, associated_length}
use Rattle.frame_body.proofs.Lengths.{job-field-most, length-body, length-associated}
use Rattle.frame_body.specs.Places.{associated_at, cipher_at, seal_at}
use Rattle.frame_body.proofs.Places.{nonce-at, associated-at, digest-at, job-at, cipher-at, seal-at}
use Rattle.frame_body.proofs.OneToOne.{body-fields}
use Rattle.frame_spec.specs.Told.{Told, key_length}
use Rattle.frame_spec.specs.Lengths.{beside_line}
use Rattle.read_spec.specs.Editions.{allows, among, among-allowed}
use Rattle.read_spec.specs.Judged.{Label, label, label_of, shape, font, work, calls_in}
use Rattle.read_spec.specs.Judging.{judge_fields}
use Rattle.read_spec.specs.Ceiling as ceiling
use Rattle.read_spec.proofs.Allowance.{no-ceiling, enough-allowed, not-enough, sealed-work}
use Rattle.read_bar.specs.declared.Bar.{Bar}
use Rattle.read_bar.specs.declared.Bar.TheVariants as bar-is
use Rattle.read_bar.specs.Asked.{bar_in, barred}
use Rattle.read_open.specs.declared.OpenFault.{OpenFault}
use Rattle.read_open.specs.Opened.{open_line}
use Rattle.read_call.specs.declared.Answer.{Answer}
use Rattle.read_call.specs.declared.Verdict.{Verdict}
use Rattle.read_call.specs.Answers.{plain, barred_answer, verdict_on}
use Rattle.read_call.proofs.Opening.{found-judged}
use Rattle.read_call.proofs.Shown.{Shows, shown}
use Rattle.read_call.specs.Parts.{nonce_in, digest_in, associated_in, cipher_in, seal_from, seal_in, job_in, own_in, Parts, open_parts, judge_parts}

-- a job in edition one is empty
no-job : (job : List ℕ) → length job ≡ 0 → [] ≡ job
no-job [] h = refl
no-job (x ∷ job) h = absurd (omega arith)

job_is : (e : Edition) (b nonce job digest cipher seal : List ℕ) → b ≡ body (own_of e nonce job) digest cipher seal
    → Sized (own_of e nonce job) digest cipher seal → job_in e b ≡ job
job_is One b nonce job digest cipher seal i z = no-job job z.job_is
job_is Two b nonce job digest cipher seal i z = ap (job_in Two) i ∙ job-at nonce job digest cipher seal z

placed : (b : List ℕ) (own : Own) (digest cipher seal : List ℕ) → b ≡ body own digest cipher seal → Sized own digest cipher seal
    → fields_of b ≡ fields own digest cipher seal → Parts b own.edition (length cipher)
placed b own digest cipher seal i z f =
    let e = own.edition in
    let more = job_field_length e in
    let n-is : nonce_in b ≡ own.nonce = ap nonce_in i ∙ nonce-at own digest cipher seal z in
    let d-is : digest_in b ≡ digest = ap digest_in i ∙ digest-at own digest cipher seal z in
    let j-is : job_in e b ≡ own.job = job_is e b own.nonce own.job digest cipher seal i z in
    let al : associated_at + associated_length One + more - associated_at ≡ associated_length e = omega arith in
    let a-is : associated_in more b ≡ associated e digest own.job = rw (al, i) (associated-at own digest cipher seal z) in
    let cl : cipher_at One + more + length cipher - (cipher_at One + more) ≡ length cipher = omega arith in
    let c-is : cipher_in more (length cipher) b ≡ cipher = rw (cl, i) (cipher-at own digest cipher seal z) in
    let sl : seal_from more (length cipher) + seal_length - seal_from more (length cipher) ≡ seal_length = omega arith in
    let sa : seal_from more (length cipher) ≡ seal_at e (length cipher) = omega arith in
    let s-is : seal_in more (length cipher) b ≡ seal = rw (sl, sa, i) (seal-at own digest cipher seal z) in
    record {
      sized = rw (n-is, j-is, d-is, c-is, s-is) z;
      fields-are = rw (n-is, j-is, d-is, c-is, s-is) f;
      associated-is = rw (a-is, d-is, j-is) refl;
      length-is = ap length i ∙ length-body z;
    }

-- what `judge_body` tells
told-fields : (b : List ℕ) → Below 256 b → (f : Fields) → fields_of b ≡ f → (e : Edition) (n : ℕ) → judged f ≡ Some (e, n) → Parts b e n
told-fields b h no_body i e n q = absurd (let z : ◌≡◌ {A = ℕ} 0 1 = cc q in omega arith)
told-fields b h (fields own digest cipher seal) i e n q =
    let pair : ◌≡◌ {A = Edition × ℕ} (own.edition, length cipher) (e, n) = cc q in
    let k : length cipher ≡ n = ap (λ (x : Edition × ℕ). x.1) pair in
    let m : own.edition ≡ e = ap (λ (x : Edition × ℕ). x.0) pair in
    let is = body-fields b h i in
    subst (λ (x : Edition). Parts b x n) m (subst (Parts b own.edition) k (placed b own digest cipher seal is.0 is.1 i))

pub parts : (b : List ℕ) → Below 256 b → (e : Edition) (n : ℕ) → judged (fields_of b) ≡ Some (e, n) → Parts b e n
parts b h e n q = told-fields b h (fields_of b) refl e n q

told-shape : (f : Fields) → judged f ≡ None → f ≡ no_body
told-shape no_body q = refl
told-shape (fields own digest cipher seal) q = absurd (let z : ◌≡◌ {A = ℕ} 0 1 = cc q in omega arith)

pub no_fields : (t : Told) (ed a : ℕ) (b : List ℕ) → judged (fields_of b) ≡ None
    → ceiling.within a (judge_fields t (among ed (fields_of b))) ≡ shape
no_fields t ed a b q = no-ceiling a shape (ap (λ (f : Fields). judge_fields t (among ed f)) (told-shape (fields_of b) q)) refl

-- the ciphertext has the length told
cipher-long : (b : List ℕ) (e : Edition) (n : ℕ) → Parts b e n → length (cipher_in (job_field_length e) n b) ≡ n
cipher-long b e n p =
    let at = cipher_at One + job_field_length e in
    length-take-le (at + n - at) (drop at b) (omega (arith, length-drop at b, p.length-is)) ∙ omega arith

module _ (t : Told) (ed a : ℕ) (b : List ℕ) (e : Edition) (n : ℕ) (p : Parts b e n) where
  -- an edition that is not allowed
  not-allowed : allows ed e ≡ false → ceiling.within a (judge_fields t (among ed (fields_of b))) ≡ shape
  not-allowed h = no-ceiling a shape (ap (λ (f : Fields). judge_fields t (among ed f)) p.fields-are ∙ rw h) refl

  module _ (h : allows ed e ≡ true) where
    its-fields : among ed (fields_of b) ≡ fields (own_in e b) (digest_in b) (cipher_in (job_field_length e) n b) (seal_in (job_field_length e) n b)
    its-fields = among-allowed ed (fields_of b) p.fields-are h

    other-font : same (digest_in b) t.font ≡ false → ceiling.within a (judge_fields t (among ed (fields_of b))) ≡ font
    other-font d = no-ceiling a font (ap (judge_fields t) its-fields ∙ rw d) refl

    its-font : same (digest_in b) t.font ≡ true → judge_fields t (among ed (fields_of b)) ≡ judge_parts t.layout e n t.key b
    its-font d = ap (judge_fields t) its-fields ∙ rw (d, p.associated-is)

    -- opening it takes n + 39 calls of the permutation, in edition two n + 46, whatever is found
    its-work : same (digest_in b) t.font ≡ true → calls_in (judge_fields t (among ed (fields_of b))) ≡ n + beside_line e
    its-work d =
        let more = job_field_length e in
        ap calls_in (its-font d)
        ∙ sealed-work t.layout (own_in e b) t.key (associated_in more b) (cipher_in more n b) (seal_in more n b)
        ∙ omega (
          arith,
          open-calls-first t.key (nonce_in b) (associated_in more b) (cipher_in more n b),
          ap length p.associated-is,
          length-associated e (digest_in b) (job_in e b) p.sized.digest-is p.sized.job_is,
          cipher-long b e n p,
        )

    over-work : same (digest_in b) t.font ≡ true → a < n + beside_line e → ceiling.within a (judge_fields t (among ed (fields_of b))) ≡ work
    over-work d l = not-enough a (judge_fields t (among ed (fields_of b))) (omega (arith, its-work d, l))

    in-work : same (digest_in b) t.font ≡ true → n + beside_line e ≤ a
        → ceiling.within a (judge_fields t (among ed (fields_of b))) ≡ judge_parts t.layout e n t.key b
    in-work d l = enough-allowed a (judge_fields t (among ed (fields_of b))) (omega (arith, its-work d, l)) ∙ its-font d

  -- what `judge_asked` answers decides it
  pub by-bar : (r : Option Bar) → r ≡ bar_in ed a e n (digest_in b) t.font
      → ceiling.within a (judge_fields t (among ed (fields_of b))) ≡ barred r (judge_parts t.layout e n t.key b)
  unfolding bar_in
  by-bar r i =
      go (allows ed e) refl (same (digest_in b) t.font) refl (ltb a (n + beside_line e)) refl ∙ ap
      (λ (x : Option Bar). barred x (judge_parts t.layout e n t.key b)) (sym i)
    where
      go : (x : Bool) → allows ed e ≡ x → (y : Bool) → same (digest_in b) t.font ≡ y → (z : Bool) → ltb a (n + beside_line e) ≡ z
          → ceiling.within a (judge_fields t (among ed (fields_of b)))
          ≡ barred (cond (not x) (Some bar-is.Edition) (cond (not y) (Some bar-is.Font) (cond z (Some bar-is.Work) None))) (judge_parts t.layout e n t.key b)
      go false h y d z l = not-allowed h
      go true h false d z l = other-font h d
      go true h true d true l = over-work h d (ltb-true a (n + beside_line e) l)
      go true h true d false l = in-work h d (ltb-false a (n + beside_line e) l)

  -- where it bars, what is answered
  pub barred-shown : (x : Option Bar) → x ≡ bar_in ed a e n (digest_in b) t.font → (bar : Bar) → x ≡ Some bar
      → (answer : Answer) → answer ≡ barred_answer bar → (r : Verdict) → r ≡ plain answer
      → (o : List ℕ) → Shows (ceiling.within a (judge_fields t (among ed (fields_of b)))) o r o
  barred-shown x i bar s answer q r v o =
      by-case bar (by-bar x i ∙ ap (λ (y : Option Bar). barred y (judge_parts t.layout e n t.key b)) s) (v ∙ ap plain q)
    where
      by-case : (bar : Bar) → ceiling.within a (judge_fields t (among ed (fields_of b))) ≡ barred (Some bar) (judge_parts t.layout e n t.key b)
          → r ≡ plain (barred_answer bar) → Shows (ceiling.within a (judge_fields t (among ed (fields_of b)))) o r o
      by-case bar-is.Edition k w = shown _ o shape k r w
      by-case bar-is.Font k w = shown _ o font k r w
      by-case bar-is.Work k w = shown _ o work k r w

module _ (f : Layout) (b key : List ℕ) (e : Edition) (n : ℕ) (p : Parts b e n) where
  abbrev more : ℕ
  more = job_field_length e

  -- the parts as they are cut, with what was measured
  pub as-cut : (m : ℕ) → m ≡ more → (o : List ℕ) → (r : Result ℕ OpenFault) (w : List ℕ)
      → r ≡ (open_line f key (nonce_in b) (associated_in m b) (cipher_in m n b) (seal_in m n b) o).answer
      → w ≡ (open_line f key (nonce_in b) (associated_in m b) (cipher_in m n b) (seal_in m n b) o).line
      → (r ≡ (open_parts f e n key b o).answer) × (w ≡ (open_parts f e n key b o).line)
  as-cut m e o r w x y = (x ∙ rw e, y ∙ rw e)

  -- what `open` asks of them
  within : length key ≡ key_length → Within first key (nonce_in b) (associated_in more b) (cipher_in more n b) (seal_in more n b) (replicate longest 0)
  within z =
      let y = p.sized in
      record {
        key-size = z;
        nonce-size = y.nonce-is;
        seal-size = y.seal-is;
        associated = omega (arith, ap length p.associated-is, length-associated e (digest_in b) (job_in e b) y.digest-is y.job_is, job-field-most e);
        short = omega (arith, y.cipher-to);
        room = omega (arith, y.cipher-to);
      }

  -- what is found of them, with the numbers of edition and job
  pub opened-fields : length key ≡ key_length → (o : List ℕ) → longest ≤ length o → (i j : ℕ) → i ≡ edition_number e → j ≡ job_number (job_in e b)
      → (x : Result ℕ OpenFault) → x ≡ (open_parts f e n key b o).answer → (w : List ℕ) → w ≡ (open_parts f e n key b o).line
      → (r : Verdict) → r ≡ verdict_on (label i j) n x → Shows (judge_parts f e n key b) o r w
  opened-fields z o h i j u v x xe w we r re =
      let m = found-judged f (own_in e b) key (associated_in more b) (cipher_in more n b) (seal_in more n b) o (within z) h in
      let its : label i j ≡ label_of (own_in e b) = ap₂ label u v in (
        re
            ∙ ap (λ (k : Label). verdict_on k n x) its
            ∙ ap (λ (k : ℕ). verdict_on (label_of (own_in e b)) k x) (sym (cipher-long b e n p))
            ∙ ap (verdict_on (label_of (own_in e b)) (length (cipher_in more n b))) xe
            ∙ m.0,
        we ∙ m.1,
      )
