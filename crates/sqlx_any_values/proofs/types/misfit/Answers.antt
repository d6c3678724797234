use Rattle.std.proofs.Common.{rules}
use Rattle.sqlx_any_values.proofs.types.misfit.Goals as goal

pub returns-then-not-checked : goal.returns-then-not-checked
returns-then-not-checked c = search rules
