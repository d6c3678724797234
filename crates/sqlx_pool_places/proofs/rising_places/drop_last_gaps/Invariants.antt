use Rattle.std.proofs.Common.{◌≡◌, length}
use Rattle.sqlx_pool_places.specs.Rising.{things_at, IsRising}
use Rattle.sqlx_pool_places.proofs.rising_places.drop_last_gaps.Given as goal

-- the numbers still rise, and the things are the same
abbrev pub invariant-loop-last : goal.invariant-loop-last
invariant-loop-last g l = record {
  rising : IsRising g.N.Numbering.number l.places.items;
  things : things_at l.places.items ≡ things_at l.initial.places.items;
}

abbrev pub decreases-loop-last : goal.decreases-loop-last
decreases-loop-last g l = length l.places.items
