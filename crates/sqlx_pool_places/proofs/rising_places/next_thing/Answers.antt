use Rattle.std.proofs.Common.{refl}
use Rattle.sqlx_pool_places.proofs.rising_places.next_thing.Goals as goal

pub loop-place-init : goal.loop-place-init
loop-place-init g c = refl
