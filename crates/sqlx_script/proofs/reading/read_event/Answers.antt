use Rattle.std.proofs.Common.{sym, refl}
use Rattle.sqlx_lines.specs.Words.{behind_line, words_in_front}
use Rattle.sqlx_script.specs.Grammar.{event_words, event_of}
use Rattle.sqlx_lines.proofs.FirstLines.{whole_first, none_first}
use Rattle.sqlx_script.proofs.ToldLines.{told_few}
use Rattle.sqlx_lines.proofs.ToldLines.{told_shorter}
use Rattle.sqlx_script.proofs.reading.read_event.Goals as goal

pub returns-then-has_newline-clause-says : goal.returns-then-has_newline-clause-says
unfolding event_of
returns-then-has_newline-clause-says c = rw (whole_first (event_words c.args.counts_tests) c.args.text.now (sym c.if-has_newline.ensures)) c.event_in_front.ensures

pub returns-then-has_newline-clause-few : goal.returns-then-has_newline-clause-few
returns-then-has_newline-clause-few c = told_few c.event_in_front.result (behind_line c.args.text.now) c.args.counts_tests (words_in_front c.args.text.now) c.event_in_front.ensures

pub returns-then-has_newline-clause-shorter : goal.returns-then-has_newline-clause-shorter
returns-then-has_newline-clause-shorter c = told_shorter c.event_in_front.result c.args.text.now _ c.event_in_front.ensures (sym c.if-has_newline.ensures)

pub returns-else-has_newline-clause-says : goal.returns-else-has_newline-clause-says
unfolding event_of
returns-else-has_newline-clause-says c = rw (none_first (event_words c.args.counts_tests) c.args.text.now (sym c.if-has_newline.ensures)) refl
