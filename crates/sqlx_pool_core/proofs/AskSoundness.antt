-- What holds of every core's value holds after an ask and after a try.
use Rattle.std.proofs.Common.{◌≡◌, ℕ, ◌+◌, ◌^◌, ◌<◌, ◌≤◌, ◌==◌, List, [], ◌∷◌, ◌++◌, length, ap, sym, ◌∙◌, subst, arith, map, cond, count_by, length-append}
use Rattle.std.proofs.lemmas.List.{map-append}
use Rattle.sqlx_pool_lists.specs.declared.ticket.Ticket.{Ticket}
use Rattle.sqlx_pool_lists.specs.declared.ticket.OwnedConn.{OwnedConn}
use Rattle.sqlx_pool_lists.specs.declared.ticket.Phase.{Phase}
use Rattle.sqlx_pool_lists.specs.declared.ticket.Phase.TheVariants as phase
use Rattle.sqlx_pool_lists.specs.declared.steps.Idle.{Idle}
use Rattle.sqlx_pool_lists.specs.Core.{Core, has_gone, is_out, free}
use Rattle.sqlx_pool_lists.specs.Sound.{IsSound, IsRising, number_of, tests, holds, rests, places_of, is_tested}
use Rattle.sqlx_pool_marks.proofs.Counting.{one, count-push, count-cons}
use Rattle.sqlx_pool_lists.proofs.Counting.{rising-push}
use Rattle.sqlx_pool_core.proofs.Found.{rising-bound}

-- a new ticket waits
pub sound-asked : {C : Type 0} (core : Core C) (x : Ticket) (m : ℕ) → IsSound core → x.phase ≡ phase.Waiting → x.number ≡ core.next_ticket → core.next_ticket ≤ 2 ^ 63
    → IsSound (record core { tickets = core.tickets ++ x ∷ []; next_ticket = core.next_ticket + 1; last = m })
sound-asked core x m s waits new few =
    let g = count-push has_gone core.tickets x in
    let n : one has_gone x ≡ 0 = ap (λ (p : Phase). cond (is_out p) 1 0) waits in
    let low : 1 ≤ core.next_ticket = rising-bound 1 (map number_of core.tickets) core.next_ticket s.rising in
    record {
      some = s.some;
      few = s.few;
      tries = s.tries;
      few_tries = s.few_tries;
      rising = rw (map-append number_of core.tickets (x ∷ [])) (rising-push 1 (map number_of core.tickets) (core.next_ticket + 1) x.number (subst (λ (k : ℕ). IsRising 1 (map number_of core.tickets) k) (sym new) s.rising) (omega (arith, new)));
      within = let w = s.within in omega (arith, w, g, n);
      paid = let w = s.paid in omega (arith, w, g, n);
      owns = s.owns;
      own = s.own;
      few_tickets = omega (arith, few);
      numbers = s.numbers;
      once = λ c. let e = count-push (tests c) core.tickets x in let k : one (tests c) x ≡ 0 = ap (λ (p : Phase). cond (is_tested c p) 1 0) waits in let w = s.once c in omega (arith, e, k, w);
      opened = λ c h. let e = count-push (tests c) core.tickets x in let k : one (tests c) x ≡ 0 = ap (λ (p : Phase). cond (is_tested c p) 1 0) waits in let w = s.opened c h in omega (arith, e, k, w);
    }

-- the first idle connection is lent
pub sound-tried : {C : Type 0} (core : Core C) (i : Idle C) (rest : List (Idle C)) (h : OwnedConn) (held : List OwnedConn) (m : ℕ) → IsSound core → 0 < free core → core.idle ≡ i ∷ rest → h.conn ≡ i.lent.id → held ≡ core.held ++ h ∷ []
    → IsSound (record core { idle = rest; held = held; last = m })
sound-tried core i rest h held m s permit first same put =
    let n : length core.idle ≡ length (i ∷ rest) = ap length first in
    let l : length held ≡ length core.held + 1 = ap length put ∙ length-append core.held (h ∷ []) in
    let place : (c : ℕ) → places_of c core.tickets held rest ≡ places_of c core.tickets core.held core.idle = λ c.
    let e = ap (count_by (rests c)) first ∙ count-cons (rests c) i rest in
    let p = ap (count_by (holds c)) put ∙ count-push (holds c) core.held h in
    let k : one (holds c) h ≡ one (rests c) i = ap (λ (d : ℕ). cond (c == d) 1 0) same in
    omega (arith, e, p, k) in
    record {
      some = s.some;
      few = s.few;
      tries = s.tries;
      few_tries = s.few_tries;
      rising = s.rising;
      within = let w = s.within in omega (arith, w, n, l);
      paid = omega (arith, permit, l);
      owns = s.owns;
      own = s.own;
      few_tickets = s.few_tickets;
      numbers = s.numbers;
      once = λ c. let w = s.once c in let p = place c in omega (arith, w, p);
      opened = λ c k. let w = s.opened c k in let p = place c in omega (arith, w, p);
    }

-- with an idle connection there is room to lend it
pub room-to-try : {C : Type 0} (core : Core C) (i : Idle C) (rest : List (Idle C)) → IsSound core → core.idle ≡ i ∷ rest → length core.held < core.options.max_connections
room-to-try core i rest s first = let n : length core.idle ≡ length (i ∷ rest) = ap length first in let w = s.within in omega (arith, n, w)
