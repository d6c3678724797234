-- The numbers of a block are in their ranges.
use Rattle.std.proofs.Common.{ℕ, zero, suc, ◌+◌, ◌<◌, ◌≤◌, Bool, true, false, cond, arith}
use Rattle.sqlx_script_made.specs.declared.block.Block.{Block}
use Rattle.sqlx_script_made.specs.Blocks.{next_drawn, closes, block_at}

-- A block of at most so many.
pub record IsAmong (n : ℕ) (block : Block) : Type 0 where
  pub ticket : block.ticket ≤ n
  pub connection : block.connection ≤ n
  pub drawn : block.drawn < 2147483648

next_drawn_below : (r : ℕ) → next_drawn r < 2147483648
unfolding next_drawn
next_drawn_below r = omega arith

at_most_one : (b : Bool) (c : ℕ) → cond b (c + 1) c ≤ c + 1
at_most_one true c = omega arith
at_most_one false c = omega arith

-- the numbers of a block are at most its own number
pub block_at-among : (seed before : ℕ) → IsAmong (before + 1) (block_at seed before)
unfolding block_at
block_at-among seed zero = record { ticket = omega arith; connection = omega arith; drawn = next_drawn_below seed }
block_at-among seed (suc before) =
    let h = block_at-among seed before in
    record {
      ticket = omega (arith, h.ticket);
      connection = omega (arith, h.connection, at_most_one (closes (block_at seed before)) (block_at seed before).connection);
      drawn = next_drawn_below (block_at seed before).drawn;
    }
