use Rattle.std.proofs.Common.{rules}
use Rattle.sqlx_any_values.proofs.types.int.in_range.Goals as goal

pub returns-else-high-n : goal.returns-else-high-n
returns-else-high-n c = search rules
