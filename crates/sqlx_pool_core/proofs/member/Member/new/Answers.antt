use Rattle.std.proofs.Common.{◌≡◌, ◌≤◌, ◌<◌, ◌^◌, ℕ, List, [], false, refl, sym, ap, subst, arith, rules}
use Rattle.sqlx_pool_lists.specs.declared.options.PoolOptions.{PoolOptions}
use Rattle.sqlx_pool_lists.specs.declared.steps.Idle.{Idle}
use Rattle.sqlx_pool_lists.specs.declared.ticket.OwnedConn.{OwnedConn}
use Rattle.sqlx_pool_lists.specs.declared.ticket.Ticket.{Ticket}
use Rattle.sqlx_pool_lists.specs.Core.{core_of, gone}
use Rattle.sqlx_pool_lists.specs.Sound.{IsSound}
use Rattle.sqlx_pool_lists.specs.StandsFor.{StandsIn}
use Rattle.sqlx_pool_core.proofs.member.Member.new.Goals as goal

sound_new : {C : Type 0} (o : PoolOptions) (tickets : List Ticket) (held : List OwnedConn) (idle : List (Idle C)) (permits : ℕ) → tickets ≡ [] → held ≡ [] → idle ≡ [] → 1 ≤ o.max_connections → o.max_connections < 2 ^ 32
    → 1 ≤ o.idle_tries → o.idle_tries ≤ 16 → permits ≤ o.max_connections → IsSound (core_of o tickets held idle 0 false false 0 permits 1 1 0)
sound_new {C} o tickets held idle permits no_tickets no_held no_idle some few tries few_tries owns =
    subst (λ (t : List Ticket). IsSound (core_of o t held idle 0 false false 0 permits 1 1 0)) (sym no_tickets)
    (subst (λ (h : List OwnedConn). IsSound (core_of o [] h idle 0 false false 0 permits 1 1 0)) (sym no_held)
    (subst (λ (i : List (Idle C)). IsSound (core_of o [] [] i 0 false false 0 permits 1 1 0)) (sym no_idle) (record {
      some = some;
      few = few;
      tries = tries;
      few_tries = few_tries;
      rising = omega arith;
      within = omega arith;
      paid = omega arith;
      owns = owns;
      own = λ e. refl;
      few_tickets = omega arith;
      numbers = omega arith;
      once = λ n. omega arith;
      opened = λ n le. refl;
    })))

stands_new : {C : Type 0} (o : PoolOptions) (tickets : List Ticket) (held : List OwnedConn) (idle : List (Idle C)) (permits : ℕ) → tickets ≡ [] → held ≡ [] → idle ≡ [] → StandsIn (core_of o tickets held idle 0 false false 0 permits 1 1 0) []
stands_new {C} o tickets held idle permits no_tickets no_held no_idle =
    subst (λ (t : List Ticket). StandsIn (core_of o t held idle 0 false false 0 permits 1 1 0) []) (sym no_tickets)
    (subst (λ (h : List OwnedConn). StandsIn (core_of o [] h idle 0 false false 0 permits 1 1 0) []) (sym no_held)
    (subst (λ (i : List (Idle C)). StandsIn (core_of o [] [] i 0 false false 0 permits 1 1 0) []) (sym no_idle) (record {
      tickets = refl;
      loans = refl;
      idle = refl;
      leaked = refl;
      shut = refl;
      ticket_number = omega arith;
      conn_number = omega arith;
      named = search rules;
      held_born = search rules;
      idle_born = search rules;
      tested_born = search rules;
    })))

pub invariant_of-result : goal.invariant_of-result
invariant_of-result g c = (
  sound_new _ _ _ _ _ c.new.ensures c.in_ok-held.ensures.items c.in_ok-idle.ensures.items c.requires.some (omega arith) c.requires.tries.0 c.requires.tries.1 c.requires.permits,
  record { to_hold = omega (arith, c.in_ok-held.ensures.capacity); to_rest = omega (arith, c.in_ok-idle.ensures.capacity) },
)

pub returns-clause-stands : goal.returns-clause-stands
returns-clause-stands g c = stands_new _ _ _ _ _ c.new.ensures c.in_ok-held.ensures.items c.in_ok-idle.ensures.items

pub returns-clause-gone : goal.returns-clause-gone
returns-clause-gone g c = ap gone c.new.ensures
