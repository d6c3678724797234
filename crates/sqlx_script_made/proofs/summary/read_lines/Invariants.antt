use Rattle.std.proofs.Common.{◌≡◌, ◌+◌, ◌≤◌, [], codes, length}
use Rattle.sqlx_lines.specs.Words.{lines_of, line_of}
use Rattle.sqlx_script_made.specs.Summary.{beginning, last_of}
use Rattle.sqlx_script_made.proofs.summary.read_lines.Given as goal

-- the lines before the rest were counted, and the last of them is the last one where the rest has none
abbrev pub invariant-loop-rest : goal.invariant-loop-rest
invariant-loop-rest l = record {
  ready : l.told.ready + beginning (codes "ready ") (lines_of l.rest) ≡ beginning (codes "ready ") (lines_of l.text);
  kept : l.told.kept + beginning (line_of (codes "kept")) (lines_of l.rest) ≡ beginning (line_of (codes "kept")) (lines_of l.text);
  closed : l.told.closed + beginning (codes "closed ") (lines_of l.rest) ≡ beginning (codes "closed ") (lines_of l.text);
  few_ready : l.told.ready + length l.rest ≤ length l.text;
  few_kept : l.told.kept + length l.rest ≤ length l.text;
  few_closed : l.told.closed + length l.rest ≤ length l.text;
  last : last_of l.told.last.now (lines_of l.rest) ≡ last_of [] (lines_of l.text);
}

abbrev pub decreases-loop-rest : goal.decreases-loop-rest
decreases-loop-rest l = length l.rest
