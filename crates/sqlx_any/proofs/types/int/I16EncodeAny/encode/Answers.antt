use Rattle.std.proofs.Common.{to_z-of_z}
use Rattle.sqlx_any.proofs.types.int.I16EncodeAny.encode.Goals as goal

pub returns-clause-ok : goal.returns-clause-ok
returns-clause-ok g c = rw (to_z-of_z c.ranges.self) at c.put.ensures.ok
