-- Demand 3, second half, over the definitions: a reader's judge gives a line for a stretch's bytes exactly when the writer's frame of that line,
-- of an edition that the reader allows, under that key and font and some nonce and in edition two some job, has those bytes between its marks;
-- and the edition, the nonce and the job that it is found with are the frame's. Assumes nothing.
use Rattle.std.specs.Prelude.{◌≡◌, refl, true, ◌↔◌, ℕ, ◌+◌, ◌≤◌, length, take, drop}
use Rattle.std.proofs.Common.{sym, subst, ◌∙◌, arith}
use Rattle.std.proofs.Math.Path.{ap}
use mathlib.Core.List.{List, [], ◌∷◌, append_cancel_right, tail-eq_of_cons-eq}
use Rattle.base_lists.specs.Below.{Below, below-take, below-drop}
use Rattle.frame_stuff_spec.specs.Stuffing.{mark, stuffed, unstuffed}
use Rattle.frame_stuff_spec.specs.RoundTrip.{unstuff-stuff, stuff-unstuff}
use Rattle.frame_stuff_spec.proofs.GoodStuffing.{stuff-well}
use Rattle.frame_stuff_spec.specs.Bytes.{unstuffed-below}
use Rattle.line_spec.specs.Lines.{longest}
use Rattle.line_layout.specs.Layouts.{layout_rule}
use Rattle.ingage_spec.specs.Instances.{first, first_fits}
use Rattle.ingage_spec.specs.Cipher.{Work}
use Rattle.ingage_spec.proofs.RoundTrip.{open-seal, seal-open}
use Rattle.ingage_spec.proofs.Results.{length-decrypted}
use Rattle.frame_body.specs.declared.Edition.{Edition}
use Rattle.frame_body.specs.declared.Edition.TheVariants.{One, Two}
use Rattle.frame_body.specs.Fields.{nonce_length, job_length, shortest, Own, own_of, fields, fields_of, body, associated}
use Rattle.frame_body.specs.Lengths.{Sized}
use Rattle.frame_body.specs.Places.{nonce_at, job_at}
use Rattle.frame_body.proofs.Places.{nonce-at, job-at}
use Rattle.frame_body.proofs.OneToOne.{fields-body, body-fields}
use Rattle.frame_spec.specs.Told.{Told}
use Rattle.frame_spec.specs.Frames.{sealed_line, sealed_body, framed, frame_of}
use Rattle.frame_spec.specs.Lengths.{beside_line, sealed-sized, stretch-within, write-calls}
use Rattle.frame_write.specs.Outcomes.{Accepts}
use Rattle.read_spec.specs.Sizes.{Sizes}
use Rattle.read_spec.specs.Editions.{allows, among-allowed, among-fields}
use Rattle.read_spec.specs.Judged.{line}
use Rattle.read_spec.specs.Judging.{judge}
use Rattle.read_spec.specs.Cases.{Holds, Case, given, opening}
use Rattle.read_spec.proofs.Cases.{judge-case, judge-line}
use Rattle.demand_reading.specs.Written.{marked, Written}

-- one body, one frame
frame_is : (t : Told) (own : Own) (L : List ℕ) → frame_of t own L ≡ marked (stuffed (sealed_body t own L))
unfolding frame_of framed
frame_is t own L = refl

pub between : (t : Told) (s : List ℕ) (own : Own) (L : List ℕ) → frame_of t own L ≡ marked s → stuffed (sealed_body t own L) ≡ s
between t s own L e =
    append_cancel_right (stuffed (sealed_body t own L)) s (mark ∷ []) (tail-eq_of_cons-eq (sym (frame_is t own L) ∙ e))

module _ (t : Told) (ed : ℕ) (own : Own) (L : List ℕ) (a : Accepts t own L) (y : allows ed own.edition ≡ true) where
  -- what stands between the marks is a stretch that holds the fields
  holds : Holds ed (stuffed (sealed_body t own L)) own t.font (sealed_line t own L).text (sealed_line t own L).seal
  unfolding sealed_body
  holds = (
    record { short = stretch-within a.sealable; well = stuff-well (sealed_body t own L) },
    among-allowed ed (fields_of (unstuffed (stuffed (sealed_body t own L)))) (ap fields_of (unstuff-stuff (sealed_body t own L)) ∙ fields-body
        (sealed-sized a.sealable)) y,
  )

  -- what sealing made, opening finds
  opened : opening t own t.font (sealed_line t own L).text
      ≡ record { text = L; seal = (sealed_line t own L).seal; calls = (sealed_line t own L).calls }
  unfolding sealed_line
  opened =
      open-seal first first_fits t.key own.nonce (associated own.edition t.font own.job) a.sealable.key-is a.sealable.nonce-is L

  pub written-given : judge t ed (stuffed (sealed_body t own L)) ≡ line own L (length L + beside_line own.edition)
  written-given =
      let C = (sealed_line t own L).text in
      judge-line t ed (stuffed (sealed_body t own L)) own C
      (holds.0, holds.1 ∙ ap (λ (w : Work). fields own t.font C w.seal) (sym opened))
      (ap (λ (w : Work). layout_rule t.layout w.text) opened ∙ a.ruled)
      ∙ ap (λ (w : Work). line own w.text w.calls) opened
      ∙ ap (line own L) (write-calls a.sealable)

module _ (t : Told) (z : Sizes t) (ed : ℕ) (s : List ℕ) (bytes : Below 256 s) where
  part-below : (n at : ℕ) (x : List ℕ) → take n (drop at (unstuffed s)) ≡ x → Below 256 x
  part-below n at x e =
      subst (Below 256) e (below-take 256 n (drop at (unstuffed s)) (below-drop 256 at (unstuffed s) (unstuffed-below s bytes)))

  -- the nonce and the job in the body's bytes
  nonce-below : (own : Own) (cipher T : List ℕ) → Sized own t.font cipher T → unstuffed s ≡ body own t.font cipher T → Below 256 own.nonce
  nonce-below own cipher T y e =
      part-below nonce_length nonce_at own.nonce (ap (λ (l : List ℕ). take nonce_length (drop nonce_at l)) e ∙ nonce-at own t.font cipher T y)

  job-below : (e : Edition) (nonce job cipher T : List ℕ) → Sized (own_of e nonce job) t.font cipher T
      → unstuffed s ≡ body (own_of e nonce job) t.font cipher T → Below 256 job
  job-below One nonce [] cipher T y e = tt
  job-below One nonce (x ∷ job) cipher T y e = absurd (omega (arith, y.job_is))
  job-below Two nonce job cipher T y e =
      part-below job_length job_at job (ap (λ (l : List ℕ). take job_length (drop job_at l)) e ∙ job-at nonce job t.font cipher T y)

  -- what opening finds, sealing makes again
  sealed-again : (own : Own) (cipher : List ℕ) → length own.nonce ≡ nonce_length
      → sealed_body t own (opening t own t.font cipher).text ≡ body own t.font cipher (opening t own t.font cipher).seal
  unfolding sealed_body sealed_line
  sealed-again own cipher n =
      ap (λ (w : Work). body own t.font w.text w.seal)
      (seal-open first first_fits t.key own.nonce (associated own.edition t.font own.job) z.key-is n cipher)

  from-case : (own : Own) (L : List ℕ) (n : ℕ) → Case t ed s (line own L n) → Written t ed s own L
  from-case _ L n (given own cipher h a) =
      let T = (opening t own t.font cipher).seal in
      let f = among-fields ed (fields_of (unstuffed s)) h.1 in
      let is = body-fields (unstuffed s) (unstuffed-below s bytes) f.0 in
      let y : Sized own t.font cipher T = is.1 in
      let long = length-decrypted first first_fits t.key own.nonce (associated own.edition t.font own.job) z.key-is y.nonce-is cipher in
      let from : shortest ≤ length cipher = y.cipher-from in
      let to : length cipher ≤ longest = y.cipher-to in
      let found = (opening t own t.font cipher).text in
      record {
        accepts = record {
          sealable = record {
            key-is = z.key-is;
            nonce-is = y.nonce-is;
            job_is = y.job_is;
            font-is = z.font-is;
            line-from = omega arith;
            line-to = omega arith;
          };
          ruled = a;
        };
        allowed = f.1;
        nonce-bytes = nonce-below own cipher T y is.0;
        job-bytes = job-below own.edition own.nonce own.job cipher T y is.0;
        makes = frame_is t own found
            ∙ ap marked (ap stuffed (sealed-again own cipher y.nonce-is ∙ sym is.0) ∙ stuff-unstuff h.0.well);
      }

  pub given_made : (own : Own) (L : List ℕ) (n : ℕ) → judge t ed s ≡ line own L n → Written t ed s own L
  given_made own L n e = from-case own L n (subst (Case t ed s) e (judge-case t ed s))

-- and every such stretch gives that line, with n + 39 calls, in edition two n + 46
pub made-given : (t : Told) (ed : ℕ) (s : List ℕ) (own : Own) (L : List ℕ) → Written t ed s own L
    → judge t ed s ≡ line own L (length L + beside_line own.edition)
made-given t ed s own L w = ap (judge t ed) (sym (between t s own L w.makes)) ∙ written-given t ed own L w.accepts w.allowed

-- exactly: some count with the line, and the frame of that edition, nonce and job
pub given-written : (t : Told) → Sizes t → (ed : ℕ) (s : List ℕ) → Below 256 s → (own : Own) (L : List ℕ)
    → ((n : ℕ) × (judge t ed s ≡ line own L n)) ↔ Written t ed s own L
given-written t z ed s bytes own L = (
  λ (n, e). given_made t z ed s bytes own L n e,
  λ w. (length L + beside_line own.edition, made-given t ed s own L w),
)
