use Rattle.std.proofs.Common.{sym}
use Rattle.sqlx_transfer_rules.proofs.InRange.{kept, left_out, nothing}
use Rattle.sqlx_transfer_rules.proofs.reading.read_event.Goals as goal

pub returns-in_err-line : goal.returns-in_err-line
returns-in_err-line c = rw c.from_residual.ensures (nothing _ _ c.args.accounts c.in_err-line.ensures)

pub returns-then-fits : goal.returns-then-fits
returns-then-fits c = kept _ _ _ c.in_ok-line.line.says c.args.accounts c.in_ok-line.ensures (sym c.if-fits.ensures)

pub returns-else-fits : goal.returns-else-fits
returns-else-fits c = left_out _ c.in_ok-line.line.behind.now _ c.in_ok-line.line.says c.args.accounts c.in_ok-line.ensures (sym c.if-fits.ensures)
