use Rattle.std.proofs.Common.{rules}
use Rattle.sqlx_pool_core.proofs.member.Member.closes.Goals as goal

pub returns-then-self : goal.returns-then-self
returns-then-self g c = search rules
