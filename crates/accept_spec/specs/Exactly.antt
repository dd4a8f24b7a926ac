-- When a stream gets yes, and what the first stretch at fault is, over the readings of the stream. Assumes nothing.
use Rattle.std.specs.Prelude.{◌≡◌, Bool, true, false, not, cond, ℕ, eqb, Err}
use Rattle.std.proofs.Math.Path.{refl, subst}
use Rattle.std.proofs.Common.{sym, ap, ◌∙◌, arith, eqb-true, eq-eqb}
use mathlib.Core.List.{List, [], ◌∷◌, ◌++◌, map, append_assoc, append-nil}
use Rattle.std.proofs.lemmas.Bool.{eqb-false}
use Rattle.read_spec.specs.Judged.{number_in}
use Rattle.read_readings.specs.Readings.{Reading}
use Rattle.accept_spec.specs.declared.AcceptFault.{AcceptFault}
use Rattle.accept_spec.specs.declared.AcceptFault.TheVariants as answer-is
use Rattle.accept_spec.specs.declared.Accepted.{Accepted}
use Rattle.accept_spec.specs.Nonces.{met, Occurs, AllDiffer, met-occurs, met-differs, differs-met, all-last, all_first, all-behind}
use Rattle.accept_spec.specs.Accepting.{at, nonce_at, yes, accept_from}

-- every stretch reads as a line
abbrev pub Lines : List Reading → Type 0
Lines [] = Unit {0}
Lines (r ∷ rs) = (number_in r.judged ≡ 0) × Lines rs

module _ (s : List ℕ) where
  -- the nonces of readings, in their order
  abbrev pub nonces_of : List Reading → List (List ℕ)
  nonces_of rs = map (nonce_at s) rs

  -- why a stretch is the one at fault, behind lines with these nonces
  pub data Cause (before : List (List ℕ)) (r : Reading) : Accepted → Type 0 where
    refused : (number_in r.judged ≡ 0 → ⊥) → Cause before r (at r.place (Err (answer-is.Refused (number_in r.judged))))
    repeated : number_in r.judged ≡ 0 → Occurs (nonce_at s r) before → Cause before r (at r.place (Err answer-is.Repeated))

  -- the first stretch at fault: all before it read as lines, with nonces that differ
  pub record Fault (seen : List (List ℕ)) (rs : List Reading) (a : Accepted) : Type 0 where
    pub before : List Reading
    pub this : Reading
    pub behind : List Reading
    pub parts : rs ≡ before ++ (this ∷ behind)
    pub lines : Lines before
    pub differ : AllDiffer (seen ++ nonces_of before)
    pub cause : Cause (seen ++ nonces_of before) this a

  -- either all are lines and no two nonces are one, and the answer is yes; or there is a first stretch at fault, and it is the answer
  pub data Outcome (seen : List (List ℕ)) (rs : List Reading) : Accepted → Type 0 where
    all-good : Lines rs → AllDiffer (seen ++ nonces_of rs) → Outcome seen rs (yes s)
    at-fault : {a : Accepted} → Fault seen rs a → Outcome seen rs a

  -- a line before
  module _ (seen : List (List ℕ)) (r : Reading) (rs : List Reading) (l : number_in r.judged ≡ 0) where
    joined : (l : List (List ℕ)) → (seen ++ (nonce_at s r ∷ [])) ++ l ≡ seen ++ (nonce_at s r ∷ l)
    joined l = append_assoc seen (nonce_at s r ∷ []) l

    one_more : {a : Accepted} → Outcome (seen ++ (nonce_at s r ∷ [])) rs a → Outcome seen (r ∷ rs) a
    one_more (all-good k d) = all-good (l, k) (subst AllDiffer (joined (nonces_of rs)) d)
    one_more {a} (at-fault f) = at-fault (record {
      before = r ∷ f.before;
      this = f.this;
      behind = f.behind;
      parts = ap (λ (x : List Reading). r ∷ x) f.parts;
      lines = (l, f.lines);
      differ = subst AllDiffer (joined (nonces_of f.before)) f.differ;
      cause = subst (λ (x : List (List ℕ)). Cause x f.this a) (joined (nonces_of f.before)) f.cause;
    })

  nothing-before : (seen : List (List ℕ)) → AllDiffer seen → AllDiffer (seen ++ [])
  nothing-before seen d = subst AllDiffer (sym (append-nil seen)) d

  pub outcome : (rs : List Reading) (seen : List (List ℕ)) → AllDiffer seen → Outcome seen rs (accept_from s seen rs)
  unfolding accept_from
  outcome [] seen d = all-good tt (nothing-before seen d)
  outcome (r ∷ rs) seen d =
      go (eqb (number_in r.judged) 0) refl (met seen (nonce_at s r)) refl
      (λ q. outcome rs (seen ++ (nonce_at s r ∷ [])) (all-last seen (nonce_at s r) d (met-differs seen (nonce_at s r) q)))
    where
      here : {a : Accepted} → Cause seen r a → Outcome seen (r ∷ rs) a
      here {a} c = at-fault (record {
        before = [];
        this = r;
        behind = rs;
        parts = refl;
        lines = tt;
        differ = nothing-before seen d;
        cause = subst (λ (x : List (List ℕ)). Cause x r a) (sym (append-nil seen)) c;
      })

      go : (t : Bool) → eqb (number_in r.judged) 0 ≡ t → (u : Bool) → met seen (nonce_at s r) ≡ u
          → (met seen (nonce_at s r) ≡ false → Outcome (seen ++ (nonce_at s r ∷ [])) rs (accept_from s (seen ++ (nonce_at s r ∷ [])) rs))
          → Outcome seen (r ∷ rs)
          (cond (not t) (at r.place (Err (answer-is.Refused (number_in r.judged)))) (cond u (at r.place (Err answer-is.Repeated))
          (accept_from s (seen ++ (nonce_at s r ∷ [])) rs)))
      go false e u q on = here (refused (eqb-false (number_in r.judged) 0 e))
      go true e true q on = here (repeated (eqb-true (number_in r.judged) 0 e) (met-occurs seen (nonce_at s r) q))
      go true e false q on = one_more seen r rs (eqb-true (number_in r.judged) 0 e) (on q)

  -- and all lines with nonces that differ get yes
  pub good-yes : (rs : List Reading) (seen : List (List ℕ)) → Lines rs → AllDiffer (seen ++ nonces_of rs) → accept_from s seen rs ≡ yes s
  unfolding accept_from
  good-yes [] seen l d = refl
  good-yes (r ∷ rs) seen l d =
      rw (eq-eqb (number_in r.judged) 0 l.0, differs-met seen (nonce_at s r) (all-behind seen (nonce_at s r) (nonces_of rs) d))
      (good-yes rs (seen ++ (nonce_at s r ∷ [])) l.1 (subst AllDiffer (sym (append_assoc seen (nonce_at s r ∷ []) (nonces_of rs))) d))
