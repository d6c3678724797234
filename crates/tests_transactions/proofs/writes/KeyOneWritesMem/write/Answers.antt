use Rattle.tests_transactions.proofs.WritesLeave.{puts_leave}
use Rattle.tests_transactions.proofs.writes.KeyOneWritesMem.write.Goals as goal

pub returns : goal.returns
returns c = puts_leave (λ conn. conn.backend) c.args.conn.now c.puts.new.conn c.from_static.ensures c.puts.ensures
