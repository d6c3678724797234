use Rattle.std.proofs.Common.{refl}
use Rattle.sqlx_lines.specs.Words.{words_in_front}
use Rattle.sqlx_script.proofs.NamedLines.{no_event}
use Rattle.sqlx_script.proofs.reading.event_in_front.Goals as goal

pub returns-in_err-name : goal.returns-in_err-name
returns-in_err-name c = rw (c.from_residual.ensures, no_event c.args.counts_tests (words_in_front c.args.text.now) c.in_err-name.ensures.none) refl
