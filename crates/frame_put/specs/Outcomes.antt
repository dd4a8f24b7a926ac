-- The answers of `put_body` and `put_associated`, case by case, in the words of lengths and room. Assumes nothing.
use Rattle.std.specs.Prelude.{◌≡◌, Bool, true, false, List, ℕ, ◌≤◌, ◌<◌, length, Ok, Err}
use Rattle.std.proofs.Common.{lt-ltb, le-ltb}
use Rattle.base_lists.specs.Buffers.{over}
use Rattle.frame_put.specs.declared.PutRefusal.TheVariants.{Shape, NoRoom}
use Rattle.frame_body.specs.declared.Edition.{Edition}
use Rattle.frame_body.specs.Fields.{digest_length, job_size, Own, body, associated}
use Rattle.frame_put.specs.Answers.{fitting_associated, fitting, written, written_out, put_answer, put_out, associated_answer, associated_out}
use Rattle.frame_body.specs.Lengths.{Sized}
use Rattle.frame_put.specs.Fitting.{sized-associated, sized-fitting}

module _ (fit : Bool) (w o : List ℕ) where
  refused : fit ≡ false → (written fit w o ≡ Err Shape) × (written_out fit w o ≡ o)
  refused h = (rw h, rw h)

  small : fit ≡ true → length o < length w → (written fit w o ≡ Err NoRoom) × (written_out fit w o ≡ o)
  small h l = (rw (h, lt-ltb (length o) (length w) l), rw (h, lt-ltb (length o) (length w) l))

  done : fit ≡ true → length w ≤ length o → (written fit w o ≡ Ok (length w)) × (written_out fit w o ≡ over w o)
  done h l = (rw (h, le-ltb (length o) (length w) l), rw (h, le-ltb (length o) (length w) l))

module _ (own : Own) (digest cipher seal o : List ℕ) where
  pub put_refused : fitting own digest cipher seal ≡ false → (put_answer own digest cipher seal o ≡ Err Shape) × (put_out own digest cipher seal o ≡ o)
  unfolding put_answer put_out
  put_refused h = refused (fitting own digest cipher seal) (body own digest cipher seal) o h

  pub put_small : Sized own digest cipher seal → length o < length (body own digest cipher seal)
      → (put_answer own digest cipher seal o ≡ Err NoRoom) × (put_out own digest cipher seal o ≡ o)
  unfolding put_answer put_out
  put_small z l = small (fitting own digest cipher seal) (body own digest cipher seal) o (sized-fitting z) l

  pub put-done : Sized own digest cipher seal → length (body own digest cipher seal) ≤ length o
      → (put_answer own digest cipher seal o ≡ Ok (length (body own digest cipher seal)))
      × (put_out own digest cipher seal o ≡ over (body own digest cipher seal) o)
  unfolding put_answer put_out
  put-done z l = done (fitting own digest cipher seal) (body own digest cipher seal) o (sized-fitting z) l

module _ (e : Edition) (digest job o : List ℕ) where
  pub associated-refused : fitting_associated e digest job ≡ false
      → (associated_answer e digest job o ≡ Err Shape) × (associated_out e digest job o ≡ o)
  unfolding associated_answer associated_out
  associated-refused h = refused (fitting_associated e digest job) (associated e digest job) o h

  module _ (d : length digest ≡ digest_length) (j : length job ≡ job_size e) where
    pub associated-small : length o < length (associated e digest job)
        → (associated_answer e digest job o ≡ Err NoRoom) × (associated_out e digest job o ≡ o)
    unfolding associated_answer associated_out
    associated-small l = small (fitting_associated e digest job) (associated e digest job) o (sized-associated e digest job d j) l

    pub associated-done : length (associated e digest job) ≤ length o
        → (associated_answer e digest job o ≡ Ok (length (associated e digest job)))
        × (associated_out e digest job o ≡ over (associated e digest job) o)
    unfolding associated_answer associated_out
    associated-done l = done (fitting_associated e digest job) (associated e digest job) o (sized-associated e digest job d j) l
