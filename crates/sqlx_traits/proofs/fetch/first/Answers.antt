use Rattle.std.proofs.Common.{refl}
use Rattle.sqlx_traits.proofs.fetch.first.Goals as goal

pub returns-in-Some-Err : goal.returns-in-Some-Err
returns-in-Some-Err g c = rw (c.in-Some-Err.ensures.steps, c.in-Some-Err.field-0-is) refl
