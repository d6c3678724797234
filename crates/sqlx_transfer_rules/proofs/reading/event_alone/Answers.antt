use Rattle.std.proofs.Common.{sym, refl}
use Rattle.sqlx_lines.proofs.FirstLines.{whole_first, none_first}
use Rattle.sqlx_transfer_rules.specs.Grammar.{event_words}
use Rattle.sqlx_transfer_rules.proofs.reading.event_alone.Goals as goal

pub returns-then-has_newline : goal.returns-then-has_newline
returns-then-has_newline c = rw (whole_first event_words c.args.text.now (sym c.if-has_newline.ensures)) c.event_in_front.ensures

pub returns-else-has_newline : goal.returns-else-has_newline
returns-else-has_newline c = rw (none_first event_words c.args.text.now (sym c.if-has_newline.ensures)) refl
