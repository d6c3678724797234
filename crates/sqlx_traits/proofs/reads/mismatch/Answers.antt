use Rattle.std.proofs.Common.{rules}
use Rattle.sqlx_traits.proofs.reads.mismatch.Goals as goal

pub returns : goal.returns
returns g c = search rules
