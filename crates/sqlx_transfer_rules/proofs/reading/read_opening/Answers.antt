use Rattle.std.proofs.Common.{sym, refl}
use Rattle.sqlx_lines.proofs.FirstLines.{whole_first, none_first}
use Rattle.sqlx_transfer_rules.specs.Grammar.{opening_words}
use Rattle.sqlx_transfer_rules.proofs.reading.read_opening.Goals as goal

pub returns-then-has_newline-clause-told : goal.returns-then-has_newline-clause-told
returns-then-has_newline-clause-told c = rw (whole_first opening_words c.args.text.now (sym c.if-has_newline.ensures)) c.opening_in_front.ensures.told

pub returns-else-has_newline-clause-told : goal.returns-else-has_newline-clause-told
returns-else-has_newline-clause-told c = rw (none_first opening_words c.args.text.now (sym c.if-has_newline.ensures)) refl
