-- Each mark, and what it makes of a core that stands for the marks before it.
use Rattle.std.proofs.Common.{◌≡◌, ℕ, ◌+◌, ◌≤◌, ◌<◌, Bool, true, false, cond, not, ◌||◌, ◌==◌, List, [], ◌∷◌, ◌++◌, map, filter, drop, count_by, All, None, refl, sym, ap, ◌∙◌, subst, append-nil, map-id, arith}
use Rattle.std.proofs.lemmas.List.Elements.{All-nil, All-cons, All-head, All-tail, All-push, All-filter, filter_agree}
use Rattle.sqlx_text.specs.declared.Moment.{Moment}
use Rattle.sqlx_pool_marks.specs.declared.mark.Mark.{Mark}
use Rattle.sqlx_pool_marks.specs.declared.mark.Mark.TheVariants.{Asked, Left, Taken, Opened, Lent, Kept, Ended, Shut}
use Rattle.sqlx_pool_lists.specs.declared.ticket.Ticket.{Ticket}
use Rattle.sqlx_pool_lists.specs.declared.ticket.OwnedConn.{OwnedConn}
use Rattle.sqlx_pool_lists.specs.declared.ticket.Phase.TheVariants as phase
use Rattle.sqlx_pool_lists.specs.declared.steps.Idle.{Idle}
use Rattle.sqlx_pool_lists.specs.declared.steps.Lent.{Lent as LentValue}
use Rattle.sqlx_pool_marks.specs.Marks.{PendingTicket, Loan, IdleEntry}
use Rattle.sqlx_pool_marks.specs.View.{leaving}
use Rattle.sqlx_pool_lists.specs.Core.{Core, asking, loan, resting, is_out}
use Rattle.sqlx_pool_lists.specs.Sound.{holds, rests}
use Rattle.sqlx_pool_marks.specs.Born.{IsBorn}
use Rattle.sqlx_pool_lists.specs.StandsFor.{StandsIn}
use Rattle.sqlx_pool_lists.specs.Edits.{without_ticket, with_ticket, without_loan, without_idle, is_another_ticket, is_another_loan, is_another_idle, core_without_ticket, lent_to, core_without_loan, kept as rested_last, core_without_first, asked, opened}
use Rattle.sqlx_pool_marks.proofs.ListFacts.{or-false, or-true, same_number, number_comm, filter_none, filter-map, map-push, count_by-cons}
use Rattle.sqlx_pool_marks.proofs.Pushed.{IsBorn-push, IsBorn-opened}
use Rattle.sqlx_pool_marks.proofs.Same.{kept, same, kept_tickets, same_tickets}
use Rattle.sqlx_pool_core.proofs.Stands.{stands-push, IsHeldBorn, IsIdleBorn, IsTicketBorn, held_spared, idle_spared, tested_spared}

-- ---- edits of a list, as the marks tell them

pub ticket_gone : (t : ℕ) (tickets : List Ticket) → map asking (without_ticket t tickets) ≡ filter (λ a. not (a.ticket == t)) (map asking tickets)
ticket_gone t tickets =
    ap (map asking) (filter_agree (is_another_ticket t) (λ x. not (x.number == t)) (λ x. ap not (number_comm t x.number)) tickets)
    ∙ sym (filter-map asking (λ (a : PendingTicket). not (a.ticket == t)) tickets)

pub loan_gone : (c : ℕ) (held : List OwnedConn) → map loan (without_loan c held) ≡ filter (λ l. not (l.conn == c)) (map loan held)
loan_gone c held =
    ap (map loan) (filter_agree (is_another_loan c) (λ x. not (x.conn == c)) (λ x. ap not (number_comm c x.conn)) held)
    ∙ sym (filter-map loan (λ (l : Loan). not (l.conn == c)) held)

pub idle_gone : {C : Type 0} (c : ℕ) (idle : List (Idle C)) → map resting (without_idle c idle) ≡ filter (λ r. not (r.conn == c)) (map resting idle)
idle_gone c idle =
    ap (map resting) (filter_agree (is_another_idle c) (λ x. not (x.lent.id == c)) (λ x. ap not (number_comm c x.lent.id)) idle)
    ∙ sym (filter-map resting (λ (r : IdleEntry). not (r.conn == c)) idle)

-- the change of a ticket, told by its Left
abbrev pub Leaves : (Ticket → Ticket) → Type 0
Leaves f = (x : Ticket) → asking (f x) ≡ record (asking x) { left = true }

pub ticket_left : (t : ℕ) (f : Ticket → Ticket) (tickets : List Ticket) → Leaves f → map asking (with_ticket t f tickets) ≡ map (leaving (Left t)) (map asking tickets)
ticket_left t f [] h = refl
ticket_left t f (x ∷ xs) h = λ i. one (t == x.number) refl i ∷ ticket_left t f xs h i
  where
    one : (b : Bool) → (t == x.number) ≡ b → asking (cond b (f x) x) ≡ leaving (Left t) (asking x)
    one true e = h x ∙ ap (λ (b : Bool). record (asking x) { left = b }) (sym (ap (λ b. is_out x.phase || b) (number_comm x.number t ∙ e) ∙ or-true (is_out x.phase)))
    one false e = ap (λ (b : Bool). record (asking x) { left = b }) (sym (ap (λ b. is_out x.phase || b) (number_comm x.number t ∙ e) ∙ or-false (is_out x.phase)))

-- ---- tickets

pub stands-asked : {C : Type 0} (core : Core C) (marks : List Mark) (k deadline : ℕ) → StandsIn core marks
    → StandsIn (asked k deadline core) (marks ++ Asked core.next_ticket k deadline ∷ [])
stands-asked core marks k deadline s =
    let n = Asked core.next_ticket k deadline in
    let x : Ticket = record { number = core.next_ticket; client = k; deadline = deadline; phase = phase.Waiting; first_try = record { 0 = 0 }; last_wait = None } in
    stands-push core (asked k deadline core) marks n s record {
      tickets = map-push asking core.tickets x ∙ ap (λ l. l ++ asking x ∷ []) (kept_tickets (map asking core.tickets));
      loans = same (map loan core.held);
      idle = same (map resting core.idle);
      leaked = omega arith;
      shut = sym (or-false core.shut);
      ticket_number = refl;
      conn_number = refl;
      more_tickets = omega arith;
      more_conns = omega arith;
      named = omega arith;
      held_born = held_spared marks n (λ c. refl) core.held s.held_born;
      idle_born = idle_spared marks n (λ c. refl) core.idle s.idle_born;
      tested_born = All-push (IsTicketBorn (marks ++ n ∷ [])) core.tickets x (tested_spared marks n (λ c. refl) core.tickets s.tested_born) tt;
    }

pub changed_born : (marks : List Mark) (t : ℕ) (f : Ticket → Ticket) (tickets : List Ticket) → ((x : Ticket) → IsTicketBorn marks (f x))
    → All (IsTicketBorn marks) tickets → All (IsTicketBorn marks) (with_ticket t f tickets)
changed_born marks t f [] h all = All-nil (IsTicketBorn marks)
changed_born marks t f (x ∷ xs) h all =
    All-cons (IsTicketBorn marks) (cond (t == x.number) (f x) x) (with_ticket t f xs) (one (t == x.number) (All-head (IsTicketBorn marks) x xs all))
    (changed_born marks t f xs h (All-tail (IsTicketBorn marks) x xs all))
  where
    one : (b : Bool) → IsTicketBorn marks x → IsTicketBorn marks (cond b (f x) x)
    one true own = h x
    one false own = own

pub stands-left : {C : Type 0} (core : Core C) (marks : List Mark) (t : ℕ) (f : Ticket → Ticket) → Leaves f → ((x : Ticket) → IsTicketBorn marks (f x)) → t < core.next_ticket → StandsIn core marks
    → StandsIn (record core { tickets = with_ticket t f core.tickets }) (marks ++ Left t ∷ [])
stands-left core marks t f leaves born lt s =
    stands-push core (record core { tickets = with_ticket t f core.tickets }) marks (Left t) s record {
      tickets = ticket_left t f core.tickets leaves ∙ ap (map (leaving (Left t))) (kept (map asking core.tickets)) ∙ sym (append-nil (map (leaving (Left t)) (filter (λ a. true) (map asking core.tickets))));
      loans = same (map loan core.held);
      idle = same (map resting core.idle);
      leaked = omega arith;
      shut = sym (or-false core.shut);
      ticket_number = refl;
      conn_number = refl;
      more_tickets = omega arith;
      more_conns = omega arith;
      named = lt;
      held_born = held_spared marks (Left t) (λ c. refl) core.held s.held_born;
      idle_born = idle_spared marks (Left t) (λ c. refl) core.idle s.idle_born;
      tested_born = tested_spared marks (Left t) (λ c. refl) (with_ticket t f core.tickets) (changed_born marks t f core.tickets born s.tested_born);
    }

pub stands-ended : {C : Type 0} (core : Core C) (marks : List Mark) (t : ℕ) → t < core.next_ticket → StandsIn core marks → StandsIn (core_without_ticket t core) (marks ++ Ended t ∷ [])
stands-ended core marks t lt s =
    stands-push core (core_without_ticket t core) marks (Ended t) s record {
      tickets = ticket_gone t core.tickets ∙ sym (map-id (filter (λ (a : PendingTicket). not (a.ticket == t)) (map asking core.tickets)))
          ∙ sym (append-nil (map (λ (a : PendingTicket). a) (filter (λ (a : PendingTicket). not (a.ticket == t)) (map asking core.tickets))));
      loans = same (map loan core.held);
      idle = same (map resting core.idle);
      leaked = omega arith;
      shut = sym (or-false core.shut);
      ticket_number = refl;
      conn_number = refl;
      more_tickets = omega arith;
      more_conns = omega arith;
      named = lt;
      held_born = held_spared marks (Ended t) (λ c. refl) core.held s.held_born;
      idle_born = idle_spared marks (Ended t) (λ c. refl) core.idle s.idle_born;
      tested_born = tested_spared marks (Ended t) (λ c. refl) (without_ticket t core.tickets) (All-filter (is_another_ticket t) (IsTicketBorn marks) core.tickets s.tested_born);
    }

-- ---- connections that come

pub stands-opened : {C : Type 0} (core : Core C) (marks : List Mark) (m : ℕ) → StandsIn core marks → StandsIn (opened core) (marks ++ Opened core.next_conn m ∷ [])
stands-opened core marks m s =
    let n = Opened core.next_conn m in
    stands-push core (opened core) marks n s record {
      tickets = same_tickets (map asking core.tickets);
      loans = same (map loan core.held);
      idle = same (map resting core.idle);
      leaked = omega arith;
      shut = sym (or-false core.shut);
      ticket_number = refl;
      conn_number = refl;
      more_tickets = omega arith;
      more_conns = omega arith;
      named = omega arith;
      held_born = held_spared marks n (λ c. refl) core.held s.held_born;
      idle_born = idle_spared marks n (λ c. refl) core.idle s.idle_born;
      tested_born = tested_spared marks n (λ c. refl) core.tickets s.tested_born;
    }

pub born-opened : {C : Type 0} (core : Core C) (marks : List Mark) (m : ℕ) → StandsIn core marks → IsBorn (marks ++ Opened core.next_conn m ∷ []) core.next_conn m
born-opened core marks m s = IsBorn-opened core.next_ticket core.next_conn marks m s.named

pub stands-lent : {C : Type 0} (core : Core C) (marks : List Mark) (k c : ℕ) (created : Moment) → count_by (holds c) core.held ≡ 0 → IsBorn marks c created.0 → c < core.next_conn
    → StandsIn core marks → StandsIn (lent_to k c created core) (marks ++ Lent k c ∷ [])
stands-lent core marks k c created unowned born lt s =
    let n = Lent k c in
    let h : OwnedConn = record { conn = c; client = k; created = created } in
    stands-push core (lent_to k c created core) marks n s record {
      tickets = same_tickets (map asking core.tickets);
      loans = map-push loan core.held h ∙ ap (λ l. l ++ loan h ∷ []) (ap (map loan) (sym (filter_none (holds c) core.held unowned)) ∙ loan_gone c core.held);
      idle = same (map resting core.idle);
      leaked = omega arith;
      shut = sym (or-false core.shut);
      ticket_number = refl;
      conn_number = refl;
      more_tickets = omega arith;
      more_conns = omega arith;
      named = lt;
      held_born = All-push (IsHeldBorn (marks ++ n ∷ [])) core.held h (held_spared marks n (λ d. refl) core.held s.held_born) (IsBorn-push marks n c created.0 refl born);
      idle_born = idle_spared marks n (λ d. refl) core.idle s.idle_born;
      tested_born = tested_spared marks n (λ d. refl) core.tickets s.tested_born;
    }

-- a connection that rests, owned before or not
pub stands-kept : {C : Type 0} (core : Core C) (marks : List Mark) (lent : LentValue C) (m : ℕ) → count_by (rests lent.id) core.idle ≡ 0 → IsBorn marks lent.id lent.created.0 → lent.id < core.next_conn
    → StandsIn core marks → StandsIn (rested_last lent m (core_without_loan lent.id core)) (marks ++ Kept lent.id m ∷ [])
stands-kept {C} core marks lent m restless born lt s =
    let n = Kept lent.id m in
    let i : Idle C = record { lent = lent; since = record { 0 = m } } in
    stands-push core (rested_last lent m (core_without_loan lent.id core)) marks n s record {
      tickets = same_tickets (map asking core.tickets);
      loans = loan_gone lent.id core.held ∙ sym (append-nil (filter (λ (l : Loan). not (l.conn == lent.id)) (map loan core.held)));
      idle = map-push resting core.idle i ∙ ap (λ l. l ++ resting i ∷ []) (ap (map resting) (sym (filter_none (rests lent.id) core.idle restless)) ∙ idle_gone lent.id core.idle);
      leaked = omega arith;
      shut = sym (or-false core.shut);
      ticket_number = refl;
      conn_number = refl;
      more_tickets = omega arith;
      more_conns = omega arith;
      named = lt;
      held_born = held_spared marks n (λ d. refl) (without_loan lent.id core.held) (All-filter (is_another_loan lent.id) (IsHeldBorn marks) core.held s.held_born);
      idle_born = All-push (IsIdleBorn (marks ++ n ∷ [])) core.idle i (idle_spared marks n (λ d. refl) core.idle s.idle_born) (IsBorn-push marks n lent.id lent.created.0 refl born);
      tested_born = tested_spared marks n (λ d. refl) core.tickets s.tested_born;
    }

pub stands-kept_new : {C : Type 0} (core : Core C) (marks : List Mark) (lent : LentValue C) (m : ℕ) → count_by (rests lent.id) core.idle ≡ 0 → count_by (holds lent.id) core.held ≡ 0
    → IsBorn marks lent.id lent.created.0 → lent.id < core.next_conn → StandsIn core marks → StandsIn (rested_last lent m core) (marks ++ Kept lent.id m ∷ [])
stands-kept_new core marks lent m restless unowned born lt s =
    subst (λ held. StandsIn (record core { held = held; idle = core.idle ++ (record { lent = lent; since = record { 0 = m } }) ∷ [] }) (marks ++ Kept lent.id m ∷ []))
    (filter_none (holds lent.id) core.held unowned) (stands-kept core marks lent m restless born lt s)

-- ---- connections that are taken

-- the first is the one that goes, where it is there once
pub drop_first : {C : Type 0} (i : Idle C) (rest idle : List (Idle C)) → idle ≡ i ∷ rest → count_by (rests i.lent.id) idle ≤ 1 → drop 1 idle ≡ without_idle i.lent.id idle
drop_first i rest idle e le =
    let first : cond {A = ℕ} (i.lent.id == i.lent.id) 1 0 ≡ 1 = ap (λ (b : Bool). cond {A = ℕ} b 1 0) (same_number i.lent.id) in
    let whole : count_by (rests i.lent.id) idle ≡ cond {A = ℕ} (i.lent.id == i.lent.id) 1 0 + count_by (rests i.lent.id) rest = ap (count_by (rests i.lent.id)) e ∙ count_by-cons (rests i.lent.id) i rest in
    let others : count_by (rests i.lent.id) rest ≡ 0 = omega arith in
    ap (drop 1) e ∙ sym (ap (without_idle i.lent.id) e ∙ ap (λ (b : Bool). cond (not b) (i ∷ without_idle i.lent.id rest) (without_idle i.lent.id rest)) (same_number i.lent.id) ∙ filter_none (rests i.lent.id) rest others)

pub stands-taken : {C : Type 0} (core : Core C) (marks : List Mark) (i : Idle C) (rest : List (Idle C)) → core.idle ≡ i ∷ rest → count_by (rests i.lent.id) core.idle ≤ 1 → i.lent.id < core.next_conn
    → StandsIn core marks → StandsIn (core_without_first core) (marks ++ Taken i.lent.id ∷ [])
stands-taken {C} core marks i rest e once lt s =
    let n = Taken i.lent.id in
    let gone = drop_first i rest core.idle e once in
    stands-push core (core_without_first core) marks n s record {
      tickets = same_tickets (map asking core.tickets);
      loans = same (map loan core.held);
      idle = ap (map resting) gone ∙ idle_gone i.lent.id core.idle ∙ sym (append-nil (filter (λ (r : IdleEntry). not (r.conn == i.lent.id)) (map resting core.idle)));
      leaked = omega arith;
      shut = sym (or-false core.shut);
      ticket_number = refl;
      conn_number = refl;
      more_tickets = omega arith;
      more_conns = omega arith;
      named = lt;
      held_born = held_spared marks n (λ d. refl) core.held s.held_born;
      idle_born = idle_spared marks n (λ d. refl) (drop 1 core.idle) (subst (All (IsIdleBorn marks)) (sym gone) (All-filter (is_another_idle i.lent.id) (IsIdleBorn marks) core.idle s.idle_born));
      tested_born = tested_spared marks n (λ d. refl) core.tickets s.tested_born;
    }

pub stands-shut : {C : Type 0} (core : Core C) (marks : List Mark) → StandsIn core marks → StandsIn (record core { shut = true }) (marks ++ Shut ∷ [])
stands-shut core marks s =
    stands-push core (record core { shut = true }) marks Shut s record {
      tickets = same_tickets (map asking core.tickets);
      loans = same (map loan core.held);
      idle = same (map resting core.idle);
      leaked = omega arith;
      shut = sym (or-true core.shut);
      ticket_number = refl;
      conn_number = refl;
      more_tickets = omega arith;
      more_conns = omega arith;
      named = tt;
      held_born = held_spared marks Shut (λ d. refl) core.held s.held_born;
      idle_born = idle_spared marks Shut (λ d. refl) core.idle s.idle_born;
      tested_born = tested_spared marks Shut (λ d. refl) core.tickets s.tested_born;
    }
