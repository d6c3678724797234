use Rattle.std.proofs.Common.{rules}
use Rattle.sqlx_script.proofs.reply.push_reaped.Goals as goal

pub returns-clause-bytes : goal.returns-clause-bytes
returns-clause-bytes g c = search rules
