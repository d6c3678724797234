use Rattle.std.proofs.Common.{sym, refl}
use Rattle.sqlx_script.specs.Grammar.{pool_words, pool_of}
use Rattle.sqlx_lines.proofs.FirstLines.{whole_first, none_first}
use Rattle.sqlx_lines.proofs.ToldLines.{told_shorter}
use Rattle.sqlx_script.proofs.reading.read_pool_line.Goals as goal

pub returns-then-has_newline-clause-says : goal.returns-then-has_newline-clause-says
unfolding pool_of
returns-then-has_newline-clause-says c = rw (whole_first pool_words c.args.text.now (sym c.if-has_newline.ensures)) c.pool_line_in_front.ensures.says

pub returns-else-has_newline-clause-says : goal.returns-else-has_newline-clause-says
unfolding pool_of
returns-else-has_newline-clause-says c = rw (none_first pool_words c.args.text.now (sym c.if-has_newline.ensures)) refl

pub returns-then-has_newline-clause-shorter : goal.returns-then-has_newline-clause-shorter
returns-then-has_newline-clause-shorter c = told_shorter c.pool_line_in_front.result c.args.text.now _ c.pool_line_in_front.ensures.says (sym c.if-has_newline.ensures)
