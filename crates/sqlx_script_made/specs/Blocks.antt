-- The blocks of the made script, and what each says by the number that is drawn for it.
use Rattle.std.specs.Prelude.{ℕ, zero, suc, ◌+◌, ◌*◌, ◌/◌, ◌%◌, ◌==◌, Bool, List, codes, if◌then◌else◌}
use Rattle.sqlx_script_made.specs.declared.block.Block.{Block}

-- ---- the numbers

-- the number drawn after r
unfoldable pub next_drawn : ℕ → ℕ
next_drawn r = (1103515245 * r + 12345) % 2147483648

-- the upper part of a block's number, of which all below is made
abbrev pub upper : Block → ℕ
upper block = block.drawn / 65536

-- the client, from 1 to 4
abbrev pub client : Block → ℕ
client block = 1 + upper block % 4

-- the key that is written and read
abbrev pub key : Block → ℕ
key block = upper block % 1000

-- the word that ends the level
abbrev pub end_word : Block → List ℕ
end_word block = if (upper block / 4) % 2 == 0 then codes "commit" else codes "rollback"

-- whether the ping on giving back is refused, so that the connection is closed
abbrev pub closes : Block → Bool
closes block = (upper block / 8) % 4 == 0

-- the answers to the giving back
abbrev pub give_word : Block → List ℕ
give_word block = if closes block then codes "+-" else codes "++"

-- ---- the blocks

-- the first block of a seed
abbrev pub first_block : ℕ → Block
first_block seed = record { ticket = 1; drawn = next_drawn seed; connection = 1 }

-- The block behind a block: the next ticket, the next number, and a connection of its own where the one before was closed.
abbrev pub block_after : Block → Block
block_after block = record { ticket = block.ticket + 1; drawn = next_drawn block.drawn; connection = if closes block then block.connection + 1 else block.connection }

-- the block before which there are so many
unfoldable pub block_at : ℕ → ℕ → Block
block_at seed zero = first_block seed
block_at seed (suc before) = block_after (block_at seed before)
