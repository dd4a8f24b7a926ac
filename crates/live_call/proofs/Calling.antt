-- The returns of a step, in the order of its refusals, and what is answered for what was taken in. Assumes nothing.
use Rattle.std.specs.Prelude.{Ok, Err, Some, None}
use mathlib.Core.Path.{◌≡◌, refl, sym, ap, ap₂, ◌∙◌}
use mathlib.Core.Bool.{Bool, true, false, cond}
use mathlib.Core.List.{List}
use Prim.Native.Nat.{ℕ, ◌+◌, ◌≤◌, ◌<◌}
use lib.ListN.{length}
use borrow.Author.Tests.{eq-eqb, ne_eqb, lt-ltb, le-ltb}
use Rattle.line_spec.specs.Lines.{longest}
use Rattle.frame_body.specs.Fields.{digest_length}
use Rattle.frame_spec.specs.Told.{key_length, Told, told}
use Rattle.read_stretch.specs.Stretches.{span}
use Rattle.read_readings.specs.Readings.{ends}
use Rattle.read_call.specs.declared.Asked.{Asked}
use Rattle.read_call.specs.Answers.{sized_told, line_over}
use Rattle.live_spec.specs.declared.Numbers.{Numbers}
use Rattle.live_spec.specs.declared.Step.{Step}
use Rattle.live_spec.specs.declared.LiveRefusal.TheVariants as answer-is
use Rattle.live_spec.specs.Taking.{possible, taken_in}
use Rattle.live_spec.specs.Steps.{most_bytes, judged_in, Found, refused, waits, closed, found_in, found}
use Rattle.live_spec.specs.Steps.{no_reading, step_of, window_of, line_of, step_answer, step_window, step_line}
use Rattle.live_call.specs.declared.Taking.{Taking}
use Rattle.live_call.specs.declared.Read.{Read}
use Rattle.live_call.specs.Parts.{taken_by, taken_of, read_of}

pub said-no : {b : Bool} (n : Numbers) → b ≡ possible n → b ≡ false → possible n ≡ false
said-no {b} n e h = sym e ∙ h

pub said-yes : {b : Bool} (n : Numbers) → b ≡ possible n → b ≡ true → possible n ≡ true
said-yes {b} n e h = sym e ∙ h

-- for what was taken in
module _ (t : Told) (a : Asked) (k : Taking) (w o : List ℕ) where
  abbrev pub Answered : Step → List ℕ → Type 0
  Answered r l = (r ≡ step_of k.numbers (found_in t a (taken_of k w))) × (l ≡ line_of o (found_in t a (taken_of k w)))

  its : (f : Found) → found_in t a (taken_of k w) ≡ f → (r : Step) → r ≡ step_of k.numbers f → (l : List ℕ) → l ≡ line_of o f → Answered r l
  its f e r q l g = (q ∙ ap (step_of k.numbers) (sym e), g ∙ ap (line_of o) (sym e))

  pub waiting : k.first ≡ k.closing → (r : Step) → r ≡ no_reading k.numbers k.took (Ok None) → Answered r o
  waiting h r q =
      let e : found_in t a (taken_of k w) ≡ waits (taken_of k w) = rw (eq-eqb k.first k.closing h) in
      its (waits (taken_of k w)) e r q o refl

  pub reading : (k.first ≡ k.closing → ⊥) → (x : Read) → x ≡ read_of (judged_in t a w (span k.first k.closing))
      → (l : List ℕ) → l ≡ line_over (judged_in t a w (span k.first k.closing)) o
      → Answered (record {
        numbers = k.numbers;
        took = k.took;
        first = k.first;
        closing = k.closing;
        answer = Ok (Some x.answer);
        edition = x.edition;
        job = x.job;
        nonce = x.nonce;
      }) l
  reading h x q l g =
      let j = judged_in t a w (span k.first k.closing) in
      let e : found_in t a (taken_of k w) ≡ closed (taken_of k w) j = rw (ne_eqb k.first k.closing h) in
      its (closed (taken_of k w) j) e _ (rw q refl) l g

-- the call
module _ (key font : List ℕ) (a : Asked) (n : Numbers) (w p o : List ℕ) where
  abbrev t : Told
  t = told key font a.layout

  abbrev pub Shown : Step → List ℕ → List ℕ → Type 0
  Shown r v l = (r ≡ step_answer t a n w p o) × ((v ≡ step_window t a n w p o) × (l ≡ step_line t a n w p o))

  shown : (f : Found) → found t a n w p (length o) ≡ f → (r : Step) → r ≡ step_of n f → (v : List ℕ) → v ≡ window_of w f → (l : List ℕ) → l ≡ line_of o f
      → Shown r v l
  shown f e r q v x l y = (q ∙ ap (step_of n) (sym e), (x ∙ ap (window_of w) (sym e), y ∙ ap (line_of o) (sym e)))

  pub bad-numbers : possible n ≡ false → (r : Step) → r ≡ no_reading n 0 (Err answer-is.Numbers) → Shown r w o
  unfolding found
  bad-numbers h r q = shown (refused (Err answer-is.Numbers)) (rw h) r q w refl o refl

  module _ (h : possible n ≡ true) where
    pub bad-key : (length key ≡ key_length → ⊥) → (r : Step) → r ≡ no_reading n 0 (Err answer-is.Sizes) → Shown r w o
    unfolding found sized_told
    bad-key k r q = shown (refused (Err answer-is.Sizes)) (rw (h, ne_eqb (length key) key_length k)) r q w refl o refl

    module _ (k : length key ≡ key_length) where
      pub bad-font : (length font ≡ digest_length → ⊥) → (r : Step) → r ≡ no_reading n 0 (Err answer-is.Sizes) → Shown r w o
      unfolding found sized_told
      bad-font d r q =
          shown (refused (Err answer-is.Sizes)) (rw (h, eq-eqb (length key) key_length k, ne_eqb (length font) digest_length d)) r q w refl o refl

      module _ (d : length font ≡ digest_length) where
        sized : sized_told t ≡ true
        unfolding sized_told
        sized = rw (eq-eqb (length key) key_length k) (eq-eqb (length font) digest_length d)

        pub too_long : most_bytes < n.received + length p → (r : Step) → r ≡ no_reading n 0 (Err answer-is.TooLong) → Shown r w o
        unfolding found
        too_long g r q = shown (refused (Err answer-is.TooLong)) (rw (h, sized, lt-ltb most_bytes (n.received + length p) g)) r q w refl o refl

        module _ (g : n.received + length p ≤ most_bytes) where
          pub no_room : length o < longest → (r : Step) → r ≡ no_reading n 0 (Err answer-is.NoRoom) → Shown r w o
          unfolding found
          no_room l r q =
              shown (refused (Err answer-is.NoRoom)) (rw (h, sized, le-ltb most_bytes (n.received + length p) g, lt-ltb (length o) longest l)) r q w refl o refl

          -- done: what was taken in, and what is answered for it
          pub done : longest ≤ length o → (k : Taking) → k ≡ taken_by (taken_in n w p) → (v : List ℕ) → v ≡ (taken_in n w p).window
              → (r : Step) (l : List ℕ) → Answered t a k v o r l → Shown r v l
          unfolding found
          done room k e v x r l y =
              let f = found_in t a (taken_in n w p) in
              let same : taken_of k v ≡ taken_in n w p = ap₂ taken_of e x in
              let is : found t a n w p (length o) ≡ f =
              rw (h, sized, le-ltb most_bytes (n.received + length p) g, le-ltb (length o) longest room) in
              let its : found_in t a (taken_of k v) ≡ f = ap (found_in t a) same in
              shown f is r (y.0 ∙ ap (step_of k.numbers) its ∙ any k.numbers (ends (taken_in n w p).place)) v (x ∙ whole (ends (taken_in n w p).place)) l
              (y.1 ∙ ap (line_of o) its)
            where
              any : (m : Numbers) (b : Bool) → step_of m (cond b (waits (taken_in n w p)) (closed (taken_in n w p)
                  (judged_in t a (taken_in n w p).window (taken_in n w p).place)))
                  ≡ step_of n (cond b (waits (taken_in n w p)) (closed (taken_in n w p) (judged_in t a (taken_in n w p).window (taken_in n w p).place)))
              any m true = refl
              any m false = refl

              whole : (b : Bool) → (taken_in n w p).window
                  ≡ window_of w (cond b (waits (taken_in n w p)) (closed (taken_in n w p) (judged_in t a (taken_in n w p).window (taken_in n w p).place)))
              whole true = refl
              whole false = refl
