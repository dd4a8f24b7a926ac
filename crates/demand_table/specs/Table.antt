-- Document 01, 'Acceptance table', the rows 'Proved together in one table': a field is a row. Assumes nothing.
use Rattle.std.specs.Prelude.{◌≡◌, refl, List, [], ◌∷◌, ℕ, suc, replicate, set, take}
use Rattle.gage_cells.specs.Cells.{star, table, cells, bytes, follow, substitute}
use Rattle.gage_shuffle.specs.Shuffling.{tabled, weighed, shuffled_byte, shuffle}
use Rattle.digest_spec.specs.Instances.{bit_rate, rate_of}
use Rattle.demand_table.specs.Rows as rows
use Rattle.demand_table.specs.Rows.{Padding, Calls, padding, calls}

pub record Accepted : Type 0 where
  -- 1*2=1
  pub one-by-two : star table 1 2 ≡ 1
  -- all-zero state, leader 0, gives 55 in every byte; leader 3 gives D5 then 55s
  pub zeros-by-zero : (n : ℕ) → substitute table 0 (replicate n 0x00) ≡ replicate n 0x55
  pub zeros-by-three : (n : ℕ) → substitute table 3 (replicate (suc n) 0x00) ≡ 0xD5 ∷ replicate n 0x55
  -- all-FF, leader 0, gives 80 then zeros
  pub ones-by-zero : (n : ℕ) → substitute table 0 (replicate (suc n) 0xFF) ≡ 0x80 ∷ replicate n 0x00
  -- cells of 1B first in the state, leader 2, give 85
  pub first-by-two : (r : List ℕ) → take 1 (substitute table 2 (0x1B ∷ r)) ≡ 0x85 ∷ []
  -- shuffle at 29 bytes with only byte 0 = 80 gives only byte 22 = 10; with 01, byte 0 = 80; with 02, byte 28 = 20
  pub leftmost-bit : shuffle (0x80 ∷ replicate 28 0x00) ≡ set (replicate 29 0x00) 22 0x10
  pub rightmost-bit : shuffle (0x01 ∷ replicate 28 0x00) ≡ 0x80 ∷ replicate 28 0x00
  pub next_bit : shuffle (0x02 ∷ replicate 28 0x00) ≡ set (replicate 29 0x00) 28 0x20
  -- padding at R = 4 of 0, 3, 4 bytes makes 1, 1, 2 blocks
  pub padding-0 : Padding 4 0 1
  pub padding-3 : Padding 4 3 1
  pub padding-4 : Padding 4 4 2
  -- digest calls: instance 1 empty 33; instance 8 with 15 bytes 3, with 16 bytes 4
  pub calls-1-empty : Calls 1 0 33
  pub calls-8-15 : Calls 8 15 3
  pub calls-8-16 : Calls 8 16 4

pub acceptance : Accepted
unfolding substitute cells bytes follow shuffle shuffled_byte weighed tabled rate_of bit_rate
acceptance = record {
  one-by-two = refl;
  zeros-by-zero = rows.zeros-by-zero;
  zeros-by-three = rows.zeros-by-three;
  ones-by-zero = rows.ones-by-zero;
  first-by-two = λ r. refl;
  leftmost-bit = refl;
  rightmost-bit = refl;
  next_bit = refl;
  padding-0 = padding 0;
  padding-3 = padding 3;
  padding-4 = padding 4;
  calls-1-empty = calls 1 0;
  calls-8-15 = calls 8 15;
  calls-8-16 = calls 8 16;
}
