use Rattle.std.proofs.Common.{rules}
use Rattle.sqlx_pool_core.proofs.member.Member.may_pass.Goals as goal

pub returns-then-not-self : goal.returns-then-not-self
returns-then-not-self g c = search rules
