use Rattle.std.proofs.Common.{arith, inr}
use Rattle.sqlx_tx.proofs.calls.transaction.Goals as goal

pub returns-clause-levels : goal.returns-clause-levels
returns-clause-levels g c = omega (arith, c.in_default.ensures.ok)

pub returns-clause-transacts : goal.returns-clause-transacts
returns-clause-transacts g c =
    inr (
      c.begin.new.conn,
      c.called-given.new.conn,
      c.called-given.result,
      ((c.in_default.ensures.does, c.in_default.ensures.rises, tt), c.in_default.ensures.ok),
      c.called-given.ensures.ran,
      c.ended.ensures.ends,
    )
