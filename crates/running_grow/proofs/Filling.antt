-- A block that holds the first bytes of another and as many more as fit, zeros behind them. Assumes nothing.
use mathlib.Core.Path.{◌≡◌, sym, ap, ◌∙◌}
use mathlib.Core.List.{List, [], ◌++◌, append_assoc, append-nil}
use Prim.Native.Nat.{ℕ, ◌+◌, ◌-◌, ◌≤◌}
use native.Mathlib.Omega.{arith}
use lib.ListN.{length, take, drop, replicate, length-append, length-drop, length-replicate, drop_of_length-le}
use lib.Seq.{take_all, take_at, drop_at, take-append-add, drop-drop, length-take-le}
use borrow.Rule.Slice.PartMut.{put_mid, post_of}
use Rattle.base_lists.specs.Buffers.{copied, over}
use Rattle.gage_sponge.specs.Padding.{LARGEST-RATE}
use Rattle.digest_sponge.specs.Parts.{within}

-- p at the start of o and b copied behind it are both copied over o
copied-append : (p b o : List ℕ) → length p ≤ length o → p ++ copied b (drop (length p) o) ≡ copied (p ++ b) o
copied-append p b o h =
    let z : List ℕ = drop (length p) o in
    let t : List ℕ = take (length z) b in
    let l : length o ≡ length p + length z = omega (arith, length-drop (length p) o) in
    let front : take (length o) (p ++ b) ≡ p ++ t = ap (λ (n : ℕ). take n (p ++ b)) l ∙ take-append-add p b (length z) in
    let behind : drop (length (p ++ t)) o ≡ drop (length t) z =
    ap (λ (n : ℕ). drop n o) (length-append p t) ∙ sym (drop-drop (length t) (length p) o) in
    sym (ap (λ (w : List ℕ). over w o) front ∙ ap (λ (d : List ℕ). (p ++ t) ++ d) behind ∙ append_assoc p t (drop (length t) z))

-- what two copies to a block make of it
pub block-joined : (block b : List ℕ) (held : ℕ) (out w : List ℕ) → length block ≡ LARGEST-RATE → held ≤ LARGEST-RATE
    → out ≡ copied (take (held - 0) (drop 0 block)) (replicate LARGEST-RATE 0)
    → w ≡ copied b (take (LARGEST-RATE - held) (drop held out))
    → put_mid held (LARGEST-RATE - held) out w ≡ within LARGEST-RATE (take held block ++ b)
block-joined block b held out w long h out-is w-is =
    let zeros : List ℕ = replicate LARGEST-RATE 0 in
    let p : List ℕ = take held block in
    let z : List ℕ = drop held zeros in
    let lp : length p ≡ held = length-take-le held block (omega arith) in
    let none : held - 0 ≡ held = omega arith in
    let whole : take LARGEST-RATE p ≡ p = take_all LARGEST-RATE p (omega arith) in
    let first : out ≡ p ++ z = out-is ∙ rw (none, whole, lp) in
    let before : take held out ≡ p = ap (take held) first ∙ take_at p z held lp in
    let behind : drop held out ≡ z = ap (drop held) first ∙ drop_at p z held lp in
    let lz : length z ≤ LARGEST-RATE - held = omega (arith, length-drop held zeros, length-replicate {A = ℕ} LARGEST-RATE 0) in
    let room : take (LARGEST-RATE - held) (drop held out) ≡ z = ap (take (LARGEST-RATE - held)) behind ∙ take_all (LARGEST-RATE - held) z lz in
    let none-behind : post_of held (LARGEST-RATE - held) out ≡ [] =
    ap (drop (LARGEST-RATE - held)) behind ∙ drop_of_length-le z {i = LARGEST-RATE - held} lz in
    let copy : w ≡ copied b (drop (length p) zeros) = w-is ∙ ap (copied b) room ∙ rw lp in
    ap (λ (l : List ℕ). l ++ (w ++ post_of held (LARGEST-RATE - held) out)) before
    ∙ ap (λ (l : List ℕ). p ++ (w ++ l)) none-behind
    ∙ ap (λ (l : List ℕ). p ++ l) (append-nil w ∙ copy)
    ∙ copied-append p b zeros (omega (arith, length-replicate {A = ℕ} LARGEST-RATE 0))
