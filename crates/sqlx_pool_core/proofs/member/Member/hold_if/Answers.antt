use Rattle.std.proofs.Common.{rules}
use Rattle.sqlx_pool_core.proofs.member.Member.hold_if.Goals as goal

pub returns-then-place-clause-answer : goal.returns-then-place-clause-answer
returns-then-place-clause-answer g c = search rules

pub returns-else-place-clause-answer : goal.returns-else-place-clause-answer
returns-else-place-clause-answer g c = search rules
