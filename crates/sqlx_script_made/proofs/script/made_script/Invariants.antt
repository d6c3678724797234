use Rattle.std.proofs.Common.{◌≡◌, ◌+◌, ◌-◌, ◌/◌, ◌++◌, string_bytes}
use Rattle.sqlx_script_made.specs.Blocks.{block_at}
use Rattle.sqlx_script_made.specs.Made.{lines_from, made_text}
use Rattle.sqlx_script_made.proofs.script.made_script.Given as goal

-- the lines so far were written, and the next is of this block
abbrev pub invariant-loop-line : goal.invariant-loop-line
invariant-loop-line l = record {
  text : (string_bytes l.text ++ l.page.bytes) ++ lines_from l.seed l.line (l.lines + 1 - l.line) ≡ made_text l.lines l.seed;
  block : l.block ≡ block_at l.seed ((l.line - 2) / 7);
}
