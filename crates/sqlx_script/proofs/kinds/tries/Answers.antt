use Rattle.std.proofs.Common.{rules}
use Rattle.sqlx_script.proofs.kinds.tries.Goals as goal

pub returns-clause-reads : goal.returns-clause-reads
returns-clause-reads c = search rules

pub returns-clause-within : goal.returns-clause-within
returns-clause-within c = search rules
