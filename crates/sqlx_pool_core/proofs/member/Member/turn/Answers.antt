use Rattle.std.proofs.Common.{rules}
use Rattle.sqlx_pool_core.proofs.member.Member.turn.Goals as goal

pub returns-in-Backoff : goal.returns-in-Backoff
returns-in-Backoff g c = search rules

pub returns-in-Backoff-2 : goal.returns-in-Backoff-2
returns-in-Backoff-2 g c = search rules

pub returns-in_default-phase : goal.returns-in_default-phase
returns-in_default-phase g c = search rules
