use Rattle.std.proofs.Common.{ℕ, sym}
use Rattle.mem_store.proofs.ReadsBack.{no_digit, parsed-ok, parsed-err}
use Rattle.mem_store.proofs.statement.number_of.Goals as goal

pub returns-then-not-begins_above_zero : goal.returns-then-not-begins_above_zero
returns-then-not-begins_above_zero c = no_digit c.args.digits.now (sym c.if-not-begins_above_zero.ensures)

pub returns-in-Ok : goal.returns-in-Ok
returns-in-Ok c = parsed-ok ℕ c.args.digits.now c.in-Ok.number c.in-Ok.ensures.value.0 (sym c.if-not-begins_above_zero.ensures)

pub returns-in-Err : goal.returns-in-Err
returns-in-Err c = parsed-err ℕ c.args.digits.now 0 c.in-Err.ensures.value.0 (sym c.if-not-begins_above_zero.ensures)
