-- A pool that hears of others, or owns other permits, is sound and stands for the same marks.
use Rattle.std.proofs.Common.{◌≡◌, ℕ, ◌+◌, ◌^◌, ◌≤◌, Bool, false, List, [], ◌∷◌, map, subst, arith}
use Rattle.std.proofs.lemmas.List.Elements.{All-weaker}
use Rattle.sqlx_pool_marks.specs.Born.{IsNamedBelow}
use Rattle.sqlx_pool_marks.specs.declared.mark.Mark.{Mark}
use Rattle.sqlx_pool_lists.specs.declared.shared.Shared.{Shared}
use Rattle.sqlx_pool_lists.specs.Core.{Core}
use Rattle.sqlx_pool_lists.specs.Sound.{IsSound, IsRising, number_of}
use Rattle.sqlx_pool_lists.specs.StandsFor.{StandsIn}
use Rattle.sqlx_pool_lists.specs.Shared.{told, with_permits}
use Rattle.sqlx_pool_core.proofs.Stands.{IsNamedBelow-weaker}

rising-high : (low : ℕ) (ns : List ℕ) (high higher : ℕ) → high ≤ higher → IsRising low ns high → IsRising low ns higher
rising-high low [] high higher le r = omega (arith, le, r)
rising-high low (n ∷ ns) high higher le r = (r.0, rising-high (n + 1) ns high higher le r.1)

pub sound-told : {C : Type 0} (closed : Bool) (h : Shared) (core : Core C) → IsSound core → core.next_ticket ≤ h.next_ticket → h.next_ticket ≤ 2 ^ 63 + 1 → core.next_conn ≤ h.next_conn → (closed ≡ false → core.shut ≡ false) → IsSound (told closed h core)
sound-told closed h core s more few conns own = record {
  some = s.some;
  few = s.few;
  tries = s.tries;
  few_tries = s.few_tries;
  rising = rising-high 1 (map number_of core.tickets) core.next_ticket h.next_ticket more s.rising;
  within = s.within;
  paid = s.paid;
  owns = s.owns;
  own = own;
  few_tickets = few;
  numbers = let n = s.numbers in omega (arith, n, conns);
  once = s.once;
  opened = λ d le. s.opened d (omega (arith, le, conns));
}

pub hearing-sound : {C : Type 0} (core now : Core C) (closed : Bool) (h : Shared) → core ≡ now → IsSound core → now.next_ticket ≤ h.next_ticket → h.next_ticket ≤ 2 ^ 63 + 1 → now.next_conn ≤ h.next_conn → (closed ≡ false → now.shut ≡ false) → IsSound (told closed h core)
hearing-sound {C} core now closed h view s =
    subst (λ (n : Core C). n.next_ticket ≤ h.next_ticket → h.next_ticket ≤ 2 ^ 63 + 1 → n.next_conn ≤ h.next_conn → (closed ≡ false → n.shut ≡ false) → IsSound (told closed h core)) view (sound-told closed h core s)

-- a pool that hears of larger numbers stands for the same marks
pub stands-told : {C : Type 0} (closed : Bool) (h : Shared) (core : Core C) (marks : List Mark) → core.next_ticket ≤ h.next_ticket → core.next_conn ≤ h.next_conn → StandsIn core marks → StandsIn (told closed h core) marks
stands-told closed h core marks more conns s = record {
  tickets = s.tickets;
  loans = s.loans;
  idle = s.idle;
  leaked = s.leaked;
  shut = s.shut;
  ticket_number = let n = s.ticket_number in omega (arith, n, more);
  conn_number = let n = s.conn_number in omega (arith, n, conns);
  named = All-weaker (IsNamedBelow core.next_ticket core.next_conn) (IsNamedBelow h.next_ticket h.next_conn) (IsNamedBelow-weaker core.next_ticket core.next_conn h.next_ticket h.next_conn more conns) marks s.named;
  held_born = s.held_born;
  idle_born = s.idle_born;
  tested_born = s.tested_born;
}

-- other permits stand for the same marks
pub stands-permits : {C : Type 0} (n : ℕ) (core : Core C) (marks : List Mark) → StandsIn core marks → StandsIn (with_permits n core) marks
stands-permits n core marks s = record {
  tickets = s.tickets;
  loans = s.loans;
  idle = s.idle;
  leaked = s.leaked;
  shut = s.shut;
  ticket_number = s.ticket_number;
  conn_number = s.conn_number;
  named = s.named;
  held_born = s.held_born;
  idle_born = s.idle_born;
  tested_born = s.tested_born;
}
