use Rattle.std.proofs.Common.{arith, rules}
use Rattle.sqlx_pool_core.proofs.GiveCode.{loan-own-if, loan-conn-if}
use Rattle.sqlx_pool_core.proofs.member.Member.loan.Goals as goal

pub returns-clause-own : goal.returns-clause-own
returns-clause-own g c = loan-own-if c.args.client c.args.conn c.args.self.now.held c.loan_for.result (search rules)

pub returns-clause-conn : goal.returns-clause-conn
returns-clause-conn g c = loan-conn-if c.args.client c.args.conn c.args.self.now.held c.loan_for.result (search rules)

pub loan_for-requires : goal.loan_for-requires
loan_for-requires g c = let once = c.self.invariant.0.once c.args.conn in omega (arith, once)
