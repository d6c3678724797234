use Rattle.std.proofs.Common.{refl}
use Rattle.sqlx_traits.specs.Places.{at_place}
use Rattle.sqlx_traits.proofs.row.Row.try_get_raw.Goals as goal

pub returns-then-at-len : goal.returns-then-at-len
returns-then-at-len g c = rw (c.in-Ok.ensures, c.value.ensures, at_place) refl
