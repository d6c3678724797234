-- The made script of a few lines, by computing.
use Rattle.std.proofs.Common.{◌≡◌, ◌++◌, codes, refl}
use Rattle.std.specs.Fmt.{digits}
use Rattle.sqlx_lines.specs.Words.{line_of}
use Rattle.sqlx_script_made.specs.Blocks.{next_drawn, block_at}
use Rattle.sqlx_script_made.specs.Made.{line_at, lines_from, made_text}

one_line : made_text 1 1 ≡ line_of (codes "pool 1 0 1000 - - +---")
unfolding lines_from
one_line = refl

-- a block whose connection is closed, and the beginning of the next
eleven_lines : made_text 11 1 ≡
    line_of (codes "pool 1 0 1000 - - +---")
    ++ line_of (codes "ask 2 3")
    ++ line_of (codes "poll 3 3 1 ++++")
    ++ line_of (codes "begin 4 3 1 +")
    ++ line_of (codes "put 5 3 1 838 1103527590 +")
    ++ line_of (codes "rollback 6 3 1 +")
    ++ line_of (codes "get 7 3 1 838 +")
    ++ line_of (codes "give 8 3 1 +- 0")
    ++ line_of (codes "ask 9 3")
    ++ line_of (codes "poll 10 3 2 ++++")
    ++ line_of (codes "begin 11 3 2 +")
unfolding lines_from line_at block_at next_drawn digits
eleven_lines = refl
