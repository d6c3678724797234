use Rattle.std.proofs.Common.{rules}
use Rattle.sqlx_pool_core.proofs.member.Member.is_first.Goals as goal

pub returns : goal.returns
returns g c = search rules
