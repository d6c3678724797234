use Rattle.std.proofs.Common.{rules}
use Rattle.sqlx_pool_core.proofs.member.Member.refused_test.Goals as goal

pub returns-then-not-is_empty-clause-answer : goal.returns-then-not-is_empty-clause-answer
returns-then-not-is_empty-clause-answer g c = search rules

pub returns-else-tested-from-clause-answer : goal.returns-else-tested-from-clause-answer
returns-else-tested-from-clause-answer g c = search rules
