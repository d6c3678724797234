-- The made script, by its lines.
use Rattle.std.specs.Prelude.{ℕ, zero, suc, ◌+◌, ◌-◌, ◌/◌, ◌%◌, List, [], ◌∷◌, ◌++◌, codes, slice_index_or}
use Rattle.std.specs.Fmt.{decimal}
use Rattle.sqlx_script_made.specs.declared.block.Block.{Block}
use Rattle.sqlx_script_made.specs.Blocks.{client, key, end_word, give_word, block_at}

-- the line of these words, with one blank between two
abbrev pub line_of_words : List (List ℕ) → List ℕ
line_of_words [] = 10 ∷ []
line_of_words (word ∷ []) = word ++ 10 ∷ []
line_of_words (word ∷ next ∷ words) = word ++ 32 ∷ line_of_words (next ∷ words)

-- the words of the seven lines of a block, were i the number of each
abbrev pub block_lines : ℕ → Block → List (List (List ℕ))
block_lines i block =
    (codes "ask" ∷ decimal i ∷ decimal (client block) ∷ []) ∷
    (codes "poll" ∷ decimal i ∷ decimal (client block) ∷ decimal block.ticket ∷ codes "++++" ∷ []) ∷
    (codes "begin" ∷ decimal i ∷ decimal (client block) ∷ decimal block.connection ∷ codes "+" ∷ []) ∷
    (codes "put" ∷ decimal i ∷ decimal (client block) ∷ decimal block.connection ∷ decimal (key block) ∷ decimal block.drawn ∷ codes "+" ∷ []) ∷
    (end_word block ∷ decimal i ∷ decimal (client block) ∷ decimal block.connection ∷ codes "+" ∷ []) ∷
    (codes "get" ∷ decimal i ∷ decimal (client block) ∷ decimal block.connection ∷ decimal (key block) ∷ codes "+" ∷ []) ∷
    (codes "give" ∷ decimal i ∷ decimal (client block) ∷ decimal block.connection ∷ give_word block ∷ codes "0" ∷ []) ∷ []

-- the line at this place of a block, from 0 on, i being its number
abbrev pub line_in : ℕ → Block → ℕ → List ℕ
line_in i block place = line_of_words (slice_index_or (block_lines i block) place [])

-- line i of a seed's script, from the second line on: each seven lines are a block
unfoldable pub line_at : ℕ → ℕ → List ℕ
line_at seed i = line_in i (block_at seed ((i - 2) / 7)) ((i - 2) % 7)

-- so many lines, from line i on
unfoldable pub lines_from : ℕ → ℕ → ℕ → List ℕ
lines_from seed i zero = []
lines_from seed i (suc count) = line_at seed i ++ lines_from seed (i + 1) count

-- the first line
abbrev pub first_line : List ℕ
first_line = codes "pool 1 0 1000 - - +---" ++ 10 ∷ []

-- the made script of so many lines
abbrev pub made_text : ℕ → ℕ → List ℕ
made_text count seed = first_line ++ lines_from seed 2 (count - 1)
