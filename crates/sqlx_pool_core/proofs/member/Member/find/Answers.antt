use Rattle.std.proofs.Common.{rules}
use Rattle.sqlx_pool_core.proofs.PollCode.{own-if, number-if, client-if}
use Rattle.sqlx_pool_core.proofs.member.Member.find.Goals as goal

pub returns-clause-own : goal.returns-clause-own
returns-clause-own g c = own-if c.args.client c.args.number c.args.self.now.tickets c.find.result (search rules)

pub returns-clause-number : goal.returns-clause-number
returns-clause-number g c = number-if c.args.client c.args.number c.args.self.now.tickets c.find.result (search rules)

pub returns-clause-client : goal.returns-clause-client
returns-clause-client g c = client-if c.args.client c.args.number c.args.self.now.tickets c.find.result (search rules)
