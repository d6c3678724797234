use Rattle.std.proofs.Common.{◌≡◌, drop}
use Rattle.sqlx_pool_places.specs.Rising.{things_at}
use Rattle.sqlx_pool_places.proofs.rising_places.next_thing.Given as goal

-- no thing stood between
abbrev pub invariant-loop-place : goal.invariant-loop-place
invariant-loop-place g l = things_at (drop l.from l.places.items) ≡ things_at (drop l.place l.places.items)
