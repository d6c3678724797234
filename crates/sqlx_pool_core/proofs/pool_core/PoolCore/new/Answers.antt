use Rattle.std.proofs.Common.{◌≡◌, List, [], ◌∷◌, map, sym, ap, ◌∙◌, refl, arith}
use Rattle.sqlx_pool_places.specs.Line.{TicketLine, no_line}
use Rattle.sqlx_pool_lists.specs.Core.{Core, gone}
use Rattle.sqlx_pool_core.specs.KeptLine.{IsLone, waiting_numbers}
use Rattle.sqlx_pool_core.proofs.pool_core.PoolCore.new.Goals as goal

nothing-mapped : {X Y : Type 0} (f : X → Y) (xs : List X) → map f xs ≡ [] → xs ≡ []
nothing-mapped f [] e = refl
nothing-mapped f (x ∷ xs) e = absurd cc

lone-new : {C : Type 0} (core : Core C) (line : TicketLine) → core.tickets ≡ [] → line ≡ no_line → core.permits ≡ core.options.max_connections → core.closed ≡ core.shut → core.next_ticket ≡ 1 → core.next_conn ≡ 1 → core.places ≡ 0 → IsLone core line
lone-new core line none empty all closed ticket conn places = rw empty (record {
  alone = record { all = all; closed = closed; few = let g : gone core.tickets ≡ 0 = ap gone none in omega (arith, g, conn, places) };
  lined = record { numbers = sym (ap waiting_numbers none); served = omega arith; edge = omega arith; few_moves = omega (arith, ticket) };
})

pub invariant_of-result : goal.invariant_of-result
invariant_of-result g c =
    let made = c.in_ok-pool.ensures in
    lone-new c.in_ok-pool.pool c.new-line.result (nothing-mapped _ _ made.stands.tickets) c.new-line.ensures
    (made.permits ∙ c.get_max_connections.ensures ∙ sym (ap (λ o. o.max_connections) made.options)) made.closed made.next_ticket made.next_conn made.places
