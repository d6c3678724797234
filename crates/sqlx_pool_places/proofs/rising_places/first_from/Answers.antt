use Rattle.std.proofs.Common.{rules, tests, nat_lt, ◌∙◌}
use Rattle.std.proofs.lemmas.List.Sorted.{IsPartitionedBy-ltb, IsPartitionPoint-from_clause}
use Rattle.sqlx_pool_places.specs.Rising.{number_at}
use Rattle.sqlx_pool_places.proofs.Rising.{rises, first-at-point}
use Rattle.sqlx_pool_places.proofs.rising_places.first_from.Goals as goal

pub returns : goal.returns
returns g c =
    let items = c.args.places.now.items in
    let n = c.args.number in
    let number = g.N.Numbering.number in
    c.next_thing.ensures ∙ first-at-point number n items c.partition_point-from.result
    (IsPartitionPoint-from_clause (λ y. nat_lt (number_at number y) n) items c.partition_point-from.result c.partition_point-from.ensures.partitioned (IsPartitionedBy-ltb (number_at number) items n (rises number items c.requires)) (λ a r q k. search (rules, tests)))
