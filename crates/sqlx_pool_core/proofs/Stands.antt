-- A core's value goes on standing for the marks, one more mark at a time.
use Rattle.std.proofs.Common.{◌≡◌, ℕ, ◌≤◌, Bool, false, ◌||◌, List, [], ◌∷◌, ◌++◌, map, All, Option, Some, None, sym, ap, ◌∙◌, arith}
use Rattle.std.proofs.lemmas.List.Elements.{All-push, All-weaker}
use Rattle.sqlx_pool_marks.specs.declared.mark.Mark.{Mark}
use Rattle.sqlx_pool_marks.specs.declared.mark.Mark.TheVariants.{Asked, Left, Taken, Reaped, Opened, Lent, Kept, Closed, Detached, Leaked, Ended, Shut}
use Rattle.sqlx_pool_lists.specs.declared.options.PoolOptions.{PoolOptions}
use Rattle.sqlx_pool_lists.specs.declared.ticket.Ticket.{Ticket}
use Rattle.sqlx_pool_lists.specs.declared.ticket.OwnedConn.{OwnedConn}
use Rattle.sqlx_pool_lists.specs.declared.ticket.Phase.{Phase}
use Rattle.sqlx_pool_lists.specs.declared.ticket.Phase.TheVariants as phase
use Rattle.sqlx_pool_lists.specs.declared.steps.Idle.{Idle}
use Rattle.sqlx_pool_marks.specs.Standing.{next_after}
use Rattle.sqlx_pool_marks.specs.Marks.{lends, ends_loan, keeps, ends_rest, ends_conn, is_shut, asked_number, opened_number, next_ticket, next_conn}
use Rattle.sqlx_pool_marks.specs.View.{stands_after, tickets_after, leaked_after}
use Rattle.sqlx_pool_lists.specs.Core.{Core, asking, loan, resting}
use Rattle.sqlx_pool_marks.specs.Born.{IsNamedBelow, IsBorn}
use Rattle.sqlx_pool_lists.specs.StandsFor.{StandsIn, StandsFor, IsTestedBorn}
use Rattle.sqlx_pool_marks.proofs.Pushed.{loans_of-push, idle_of-push, tickets_of-push, leaked_of-push, shut-push, next_ticket-push, next_conn-push, IsBorn-push}

-- ---- what the core keeps of births

abbrev pub IsHeldBorn : List Mark → OwnedConn → Type 0
IsHeldBorn marks h = IsBorn marks h.conn h.created.0

abbrev pub IsIdleBorn : {C : Type 0} → List Mark → Idle C → Type 0
IsIdleBorn marks i = IsBorn marks i.lent.id i.lent.created.0

abbrev pub IsTicketBorn : List Mark → Ticket → Type 0
IsTicketBorn marks t = IsTestedBorn marks t.phase

-- ---- one mark

-- The core after this mark, from the core before it, which stands for the marks before it.
pub record After {C : Type 0} (marks : List Mark) (old : Core C) (n : Mark) (new : Core C) : Type 0 where
  pub tickets : map asking new.tickets ≡ tickets_after (map asking old.tickets) n
  pub loans : map loan new.held ≡ stands_after lends ends_loan (map loan old.held) n
  pub idle : map resting new.idle ≡ stands_after keeps ends_rest (map resting old.idle) n
  pub leaked : new.leaked ≡ leaked_after old.leaked n
  pub shut : new.shut ≡ (old.shut || is_shut n)
  pub ticket_number : new.next_ticket ≡ next_after (asked_number n) old.next_ticket
  pub conn_number : new.next_conn ≡ next_after (opened_number n) old.next_conn
  pub more_tickets : old.next_ticket ≤ new.next_ticket
  pub more_conns : old.next_conn ≤ new.next_conn
  pub named : IsNamedBelow new.next_ticket new.next_conn n
  pub held_born : All (IsHeldBorn (marks ++ n ∷ [])) new.held
  pub idle_born : All (IsIdleBorn (marks ++ n ∷ [])) new.idle
  pub tested_born : All (IsTicketBorn (marks ++ n ∷ [])) new.tickets

pub IsNamedBelow-weaker : (t c u d : ℕ) → t ≤ u → c ≤ d → (m : Mark) → IsNamedBelow t c m → IsNamedBelow u d m
IsNamedBelow-weaker t c u d tu cd (Asked x k l) h = omega arith
IsNamedBelow-weaker t c u d tu cd (Left x) h = omega arith
IsNamedBelow-weaker t c u d tu cd (Taken x) h = omega arith
IsNamedBelow-weaker t c u d tu cd (Reaped x) h = omega arith
IsNamedBelow-weaker t c u d tu cd (Opened x m) h = omega arith
IsNamedBelow-weaker t c u d tu cd (Lent k x) h = omega arith
IsNamedBelow-weaker t c u d tu cd (Kept x m) h = omega arith
IsNamedBelow-weaker t c u d tu cd (Closed x) h = omega arith
IsNamedBelow-weaker t c u d tu cd (Detached x) h = omega arith
IsNamedBelow-weaker t c u d tu cd (Leaked x) h = omega arith
IsNamedBelow-weaker t c u d tu cd (Ended x) h = omega arith
IsNamedBelow-weaker t c u d tu cd Shut h = tt

next_after-le : (o : Option ℕ) (a b : ℕ) → a ≤ b → next_after o a ≤ next_after o b
next_after-le None a b le = le
next_after-le (Some n) a b le = omega arith

pub stands-push : {C : Type 0} (old new : Core C) (marks : List Mark) (n : Mark) → StandsIn old marks → After marks old n new → StandsIn new (marks ++ n ∷ [])
stands-push old new marks n s a = record {
  tickets = a.tickets ∙ ap (λ l. tickets_after l n) s.tickets ∙ sym (tickets_of-push marks n);
  loans = a.loans ∙ ap (λ l. stands_after lends ends_loan l n) s.loans ∙ sym (loans_of-push marks n);
  idle = a.idle ∙ ap (λ l. stands_after keeps ends_rest l n) s.idle ∙ sym (idle_of-push marks n);
  leaked = a.leaked ∙ ap (λ l. leaked_after l n) s.leaked ∙ sym (leaked_of-push marks n);
  shut = a.shut ∙ ap (λ b. b || is_shut n) s.shut ∙ sym (shut-push marks n);
  ticket_number = let e = a.ticket_number in let f = next_ticket-push marks n in let le = next_after-le (asked_number n) (next_ticket marks) old.next_ticket s.ticket_number in omega (arith, e, f, le);
  conn_number = let e = a.conn_number in let f = next_conn-push marks n in let le = next_after-le (opened_number n) (next_conn marks) old.next_conn s.conn_number in omega (arith, e, f, le);
  named = All-push (IsNamedBelow new.next_ticket new.next_conn) marks n
      (All-weaker (IsNamedBelow old.next_ticket old.next_conn) (IsNamedBelow new.next_ticket new.next_conn)
      (IsNamedBelow-weaker old.next_ticket old.next_conn new.next_ticket new.next_conn a.more_tickets a.more_conns) marks s.named)
      a.named;
  held_born = a.held_born;
  idle_born = a.idle_born;
  tested_born = a.tested_born;
}

-- ---- what a mark leaves as it is

tested_push : (marks : List Mark) (n : Mark) → ((c : ℕ) → ends_conn c n ≡ false) → (p : Phase) → IsTestedBorn marks p → IsTestedBorn (marks ++ n ∷ []) p
tested_push marks n spares (phase.Testing c created before) h = IsBorn-push marks n c created.0 (spares c) h
tested_push marks n spares phase.Waiting h = tt
tested_push marks n spares phase.Connecting h = tt
tested_push marks n spares (phase.Backoff until) h = tt

module _ (marks : List Mark) (n : Mark) (spares : (c : ℕ) → ends_conn c n ≡ false) where
  pub held_spared : (held : List OwnedConn) → All (IsHeldBorn marks) held → All (IsHeldBorn (marks ++ n ∷ [])) held
  held_spared held h = All-weaker (IsHeldBorn marks) (IsHeldBorn (marks ++ n ∷ [])) (λ x b. IsBorn-push marks n x.conn x.created.0 (spares x.conn) b) held h

  pub idle_spared : {C : Type 0} (idle : List (Idle C)) → All (IsIdleBorn marks) idle → All (IsIdleBorn (marks ++ n ∷ [])) idle
  idle_spared idle h = All-weaker (IsIdleBorn marks) (IsIdleBorn (marks ++ n ∷ [])) (λ x b. IsBorn-push marks n x.lent.id x.lent.created.0 (spares x.lent.id) b) idle h

  pub tested_spared : (tickets : List Ticket) → All (IsTicketBorn marks) tickets → All (IsTicketBorn (marks ++ n ∷ [])) tickets
  tested_spared tickets h = All-weaker (IsTicketBorn marks) (IsTicketBorn (marks ++ n ∷ [])) (λ x b. tested_push marks n spares x.phase b) tickets h

-- ---- what makes no mark

-- other options, another moment, other places
pub stands-beside : {C : Type 0} (core : Core C) (marks : List Mark) (options : PoolOptions) (places last : ℕ)
    → StandsIn core marks → StandsIn (record core { options = options; places = places; last = last }) marks
stands-beside core marks options places last s = record {
  tickets = s.tickets;
  loans = s.loans;
  idle = s.idle;
  leaked = s.leaked;
  shut = s.shut;
  ticket_number = s.ticket_number;
  conn_number = s.conn_number;
  named = s.named;
  held_born = s.held_born;
  idle_born = s.idle_born;
  tested_born = s.tested_born;
}

-- tickets that say the same
pub stands-alike : {C : Type 0} (core : Core C) (marks : List Mark) (tickets : List Ticket) → map asking tickets ≡ map asking core.tickets
    → All (IsTicketBorn marks) tickets → StandsIn core marks → StandsIn (record core { tickets = tickets }) marks
stands-alike core marks tickets alike born s = record {
  tickets = alike ∙ s.tickets;
  loans = s.loans;
  idle = s.idle;
  leaked = s.leaked;
  shut = s.shut;
  ticket_number = s.ticket_number;
  conn_number = s.conn_number;
  named = s.named;
  held_born = s.held_born;
  idle_born = s.idle_born;
  tested_born = born;
}

-- whether the pool counts as closed is nothing to its log
pub stands-counted : {C : Type 0} (core : Core C) (marks : List Mark) (closed : Bool) → StandsIn core marks → StandsIn (record core { closed = closed }) marks
stands-counted core marks closed s = record {
  tickets = s.tickets;
  loans = s.loans;
  idle = s.idle;
  leaked = s.leaked;
  shut = s.shut;
  ticket_number = s.ticket_number;
  conn_number = s.conn_number;
  named = s.named;
  held_born = s.held_born;
  idle_born = s.idle_born;
  tested_born = s.tested_born;
}

-- a lone pool's log is one that it stands for as any pool does
pub stands-in : {C : Type 0} (core : Core C) (marks : List Mark) → StandsFor core marks → StandsIn core marks
stands-in core marks s = record {
  tickets = s.tickets;
  loans = s.loans;
  idle = s.idle;
  leaked = s.leaked;
  shut = s.shut;
  ticket_number = let e = s.ticket_number in omega (arith, e);
  conn_number = let e = s.conn_number in omega (arith, e);
  named = s.named;
  held_born = s.held_born;
  idle_born = s.idle_born;
  tested_born = s.tested_born;
}
