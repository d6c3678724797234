use Rattle.std.proofs.Common.{rules, tests, nat_lt}
use Rattle.std.proofs.lemmas.List.Sorted.{IsPartitionedBy-ltb, IsPartitionPoint-from_clause}
use Rattle.sqlx_pool_places.specs.Rising.{number_at}
use Rattle.sqlx_pool_places.proofs.Rising.{only-place, rises, point-place}
use Rattle.sqlx_pool_places.proofs.rising_places.place_for.Goals as goal

pub returns-then-has_number : goal.returns-then-has_number
returns-then-has_number g c = only-place g.N.Numbering.number c.args.number c.args.places.now.items c.place_from_first-place.result c.requires (c.has_number.ensures c.if-has_number.true)

pub returns-then-has_number-2 : goal.returns-then-has_number-2
returns-then-has_number-2 g c = only-place g.N.Numbering.number c.args.number c.args.places.now.items c.place_from_last-place.result c.requires (c.has_number-2.ensures c.if-has_number-2.true)

pub returns : goal.returns
returns g c =
    let items = c.args.places.now.items in
    let n = c.args.number in
    let number = g.N.Numbering.number in
    point-place number n items c.partition_point.result c.requires
    (IsPartitionPoint-from_clause (λ y. nat_lt (number_at number y) n) items c.partition_point.result c.partition_point.ensures.partitioned (IsPartitionedBy-ltb (number_at number) items n (rises number items c.requires)) (λ a r q k. search (rules, tests)))
