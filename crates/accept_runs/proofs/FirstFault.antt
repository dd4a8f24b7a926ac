-- `first-fault` (order W12), from the promises alone: where the number is none of 0, 2, 3 and 19, every stretch before the one named reads as a line and
-- their nonces differ, and the one named is refused with that number, or, with 22, reads as a line itself and repeats a nonce of theirs. Assumes nothing.
use Rattle.std.specs.Prelude.{◌≡◌, refl, List, [], ◌∷◌, ◌++◌, map, ℕ, ◌≤◌, length}
use Rattle.std.proofs.Common.{sym, ap, subst, ◌∙◌}
use Rattle.base_lists.specs.Below.{Below}
use Rattle.frame_spec.specs.Told.{Told, told}
use Rattle.read_spec.specs.Sizes.{Sizes}
use Rattle.read_spec.specs.Ceiling.{all_work}
use Rattle.read_readings.specs.Readings.{Reading}
use Rattle.read_call.specs.declared.Asked.{Asked}
use Rattle.read_call.specs.Answers.{longest_stream}
use Rattle.demand_reading.specs.Promises.{Seen}
use Rattle.demand_reading.specs.Whole.{WholeRun}
use Rattle.demand_joined.specs.Seeing.{seen_of}
use Rattle.accept_spec.specs.declared.Accepted.{Accepted}
use Rattle.accept_spec.specs.Nonces.{Occurs, AllDiffer}
use Rattle.accept_spec.specs.Accepting.{read_all, accept_answer, accept_number}
use Rattle.accept_spec.specs.Exactly as exactly
use Rattle.accept_spec.specs.Exactly.{Fault, all-good, at-fault}
use Rattle.accept_spec.proofs.Cases.{Case, sizes-wrong, long, many, judged, accept-case}
use Rattle.accept_runs.specs.Promises.{Accepts, stretches_seen, nonce_seen, LinesSeen}
use Rattle.accept_runs.proofs.Runs.{whole-seen, lines-seen, nonces-seen}
use Rattle.accept_runs.specs.FirstFault.{NamesOne, Because, refused, repeats, Named, Faulted}

map-parts : (a b : List Reading) → map seen_of (a ++ b) ≡ map seen_of a ++ map seen_of b
map-parts [] b = refl
map-parts (r ∷ a) b = ap (λ (l : List Seen). seen_of r ∷ l) (map-parts a b)

module _ (s : List ℕ) where
  because-of : (x : List (List ℕ)) (r : Reading) (a : Accepted) → exactly.Cause s x r a
      → (a.first ≡ r.place.first) × (a.closing ≡ r.place.closing) × Because s x (seen_of r) (accept_number a.answer)
  because-of x r _ (exactly.refused n) = (refl, refl, refused n)
  because-of x r _ (exactly.repeated l o) = (refl, refl, repeats l o)

  -- a fault among readings, as a run sees it
  fault-seen : (rs : List Reading) (a : Accepted) → Fault s [] rs a → Named s a (map seen_of rs)
  fault-seen rs a f =
      let (x, y, z) = because-of (exactly.nonces_of s f.before) f.this a f.cause in
      let n : map (nonce_seen s) (map seen_of f.before) ≡ exactly.nonces_of s f.before = nonces-seen s f.before in
      record {
        before = map seen_of f.before;
        this = seen_of f.this;
        behind = map seen_of f.behind;
        parts = ap (map seen_of) f.parts ∙ map-parts f.before (f.this ∷ f.behind);
        first-is = x;
        closing-is = y;
        lines = lines-seen f.before f.lines;
        differ = subst AllDiffer (sym n) f.differ;
        because = subst (λ (l : List (List ℕ)). Because s l (seen_of f.this) (accept_number a.answer)) (sym n) z;
      }

module _ (key font : List ℕ) (asked : Asked) (enough : all_work ≤ asked.allowed) (s : List ℕ) (bytes : Below 256 s) where
  abbrev t : Told
  t = told key font asked.layout

  by-case : (a : Accepted) → Case t asked.editions s a → NamesOne (accept_number a.answer) → Faulted key font asked s a
  by-case _ sizes-wrong n = absurd (n.not-sizes refl)
  by-case _ long n = absurd (n.not-long refl)
  by-case _ many n = absurd (n.not-many refl)
  by-case _ (judged z h few (all-good l d)) n = absurd (n.not_yes refl)
  by-case a (judged z h few (at-fault f)) n = record {
    sizes = z;
    short = h;
    named = λ w. subst (Named s a) (sym (whole-seen key font asked enough s bytes z h w)) (fault-seen s (read_all t asked.editions s) a f);
  }

  pub first-fault : (r : Accepted) → Accepts key font asked.editions asked.layout s r → NamesOne (accept_number r.answer) → Faulted key font asked s r
  first-fault r p n =
      subst (Faulted key font asked s) (sym p)
      (by-case (accept_answer t asked.editions s) (accept-case t asked.editions s) (subst (λ (a : Accepted). NamesOne (accept_number a.answer)) p n))
