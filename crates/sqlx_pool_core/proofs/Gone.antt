-- The marks by which a connection goes from the pool, and what each makes of a core that stands for the marks before it.
use Rattle.std.proofs.Common.{◌≡◌, ℕ, ◌≤◌, ◌<◌, true, not, ◌==◌, List, [], ◌∷◌, ◌++◌, map, filter, drop, count_by, All, refl, sym, ◌∙◌, subst, append-nil, arith}
use Rattle.std.proofs.lemmas.Bool.{not-true}
use Rattle.sqlx_pool_marks.specs.declared.mark.Mark.{Mark}
use Rattle.sqlx_pool_marks.specs.declared.mark.Mark.TheVariants.{Reaped, Closed, Detached, Leaked}
use Rattle.sqlx_pool_lists.specs.declared.ticket.Ticket.{Ticket}
use Rattle.sqlx_pool_lists.specs.declared.ticket.OwnedConn.{OwnedConn}
use Rattle.sqlx_pool_lists.specs.declared.ticket.Phase.{Phase}
use Rattle.sqlx_pool_lists.specs.declared.ticket.Phase.TheVariants as phase
use Rattle.sqlx_pool_lists.specs.declared.steps.Idle.{Idle}
use Rattle.sqlx_pool_marks.specs.Marks.{Loan, IdleEntry, ends_conn}
use Rattle.sqlx_pool_lists.specs.Core.{Core, asking, loan, resting}
use Rattle.sqlx_pool_lists.specs.Sound.{holds, rests, tests, is_tested}
use Rattle.sqlx_pool_marks.specs.Born.{IsBorn}
use Rattle.sqlx_pool_lists.specs.StandsFor.{StandsIn, IsTestedBorn}
use Rattle.sqlx_pool_lists.specs.Edits.{without_loan, without_idle, is_another_loan, is_another_idle, core_without_loan, core_without_first}
use Rattle.sqlx_pool_core.specs.ReturnSteps.{leaked}
use Rattle.sqlx_pool_marks.proofs.ListFacts.{or-false, number_comm, filter_none, All-filter_if, All-passing}
use Rattle.sqlx_pool_marks.proofs.Pushed.{IsBorn-push}
use Rattle.sqlx_pool_marks.proofs.Same.{same, same_tickets}
use Rattle.sqlx_pool_core.proofs.Stands.{stands-push, IsHeldBorn, IsIdleBorn, IsTicketBorn}
use Rattle.sqlx_pool_core.proofs.EachMark.{loan_gone, idle_gone, drop_first}

-- ---- the others stay born

-- a mark by which this connection goes
abbrev IsGoing : ℕ → Mark → Type 0
IsGoing c n = (d : ℕ) → ends_conn d n ≡ (d == c)

module _ (marks : List Mark) (n : Mark) (c : ℕ) (going : IsGoing c n) where
  stays : (d m : ℕ) → not (c == d) ≡ true → IsBorn marks d m → IsBorn (marks ++ n ∷ []) d m
  stays d m e born = IsBorn-push marks n d m (going d ∙ number_comm d c ∙ not-true (c == d) e) born

  stays_tested : (p : Phase) → not (is_tested c p) ≡ true → IsTestedBorn marks p → IsTestedBorn (marks ++ n ∷ []) p
  stays_tested (phase.Testing d created before) e born = stays d created.0 e born
  stays_tested phase.Waiting e born = tt
  stays_tested phase.Connecting e born = tt
  stays_tested (phase.Backoff until) e born = tt

  held_left : (held : List OwnedConn) → All (IsHeldBorn marks) held → All (IsHeldBorn (marks ++ n ∷ [])) (without_loan c held)
  held_left held all = All-filter_if (IsHeldBorn marks) (IsHeldBorn (marks ++ n ∷ [])) (is_another_loan c) (λ x e b. stays x.conn x.created.0 e b) held all

  idle_left : {C : Type 0} (idle : List (Idle C)) → All (IsIdleBorn marks) idle → All (IsIdleBorn (marks ++ n ∷ [])) (without_idle c idle)
  idle_left idle all = All-filter_if (IsIdleBorn marks) (IsIdleBorn (marks ++ n ∷ [])) (is_another_idle c) (λ x e b. stays x.lent.id x.lent.created.0 e b) idle all

  tested_left : (tickets : List Ticket) → count_by (tests c) tickets ≡ 0 → All (IsTicketBorn marks) tickets → All (IsTicketBorn (marks ++ n ∷ [])) tickets
  tested_left tickets none all = All-passing (IsTicketBorn marks) (IsTicketBorn (marks ++ n ∷ [])) (tests c) (λ x e b. stays_tested x.phase e b) tickets none all

  held_others : (held : List OwnedConn) → count_by (holds c) held ≡ 0 → All (IsHeldBorn marks) held → All (IsHeldBorn (marks ++ n ∷ [])) held
  held_others held none all = All-passing (IsHeldBorn marks) (IsHeldBorn (marks ++ n ∷ [])) (holds c) (λ x e b. stays x.conn x.created.0 e b) held none all

  idle_others : {C : Type 0} (idle : List (Idle C)) → count_by (rests c) idle ≡ 0 → All (IsIdleBorn marks) idle → All (IsIdleBorn (marks ++ n ∷ [])) idle
  idle_others idle none all = All-passing (IsIdleBorn marks) (IsIdleBorn (marks ++ n ∷ [])) (rests c) (λ x e b. stays x.lent.id x.lent.created.0 e b) idle none all

-- ---- closed

-- the connection is nowhere in the core behind its Closed
stands-closed : {C : Type 0} (core : Core C) (marks : List Mark) (c : ℕ) (tickets : List Ticket) → map asking tickets ≡ map asking core.tickets → All (IsTicketBorn marks) tickets
    → count_by (tests c) tickets ≡ 0 → c < core.next_conn → StandsIn core marks
    → StandsIn (record core { tickets = tickets; held = without_loan c core.held; idle = without_idle c core.idle }) (marks ++ Closed c ∷ [])
stands-closed core marks c tickets alike born untested lt s =
    let n = Closed c in
    stands-push core (record core { tickets = tickets; held = without_loan c core.held; idle = without_idle c core.idle }) marks n s record {
      tickets = alike ∙ same_tickets (map asking core.tickets);
      loans = loan_gone c core.held ∙ sym (append-nil (filter (λ (l : Loan). not (l.conn == c)) (map loan core.held)));
      idle = idle_gone c core.idle ∙ sym (append-nil (filter (λ (r : IdleEntry). not (r.conn == c)) (map resting core.idle)));
      leaked = omega arith;
      shut = sym (or-false core.shut);
      ticket_number = refl;
      conn_number = refl;
      more_tickets = omega arith;
      more_conns = omega arith;
      named = lt;
      held_born = held_left marks n c (λ d. refl) core.held s.held_born;
      idle_born = idle_left marks n c (λ d. refl) core.idle s.idle_born;
      tested_born = tested_left marks n c (λ d. refl) tickets untested born;
    }

-- an owned connection is closed
pub stands-closed_owned : {C : Type 0} (core : Core C) (marks : List Mark) (c : ℕ) → count_by (tests c) core.tickets ≡ 0 → count_by (rests c) core.idle ≡ 0 → c < core.next_conn
    → StandsIn core marks → StandsIn (core_without_loan c core) (marks ++ Closed c ∷ [])
stands-closed_owned core marks c untested restless lt s =
    subst (λ idle. StandsIn (record core { held = without_loan c core.held; idle = idle }) (marks ++ Closed c ∷ [])) (filter_none (rests c) core.idle restless)
    (stands-closed core marks c core.tickets refl s.tested_born untested lt s)

-- the connection that was under test is closed, and its ticket has another phase
pub stands-closed_tested : {C : Type 0} (core : Core C) (marks : List Mark) (c : ℕ) (tickets : List Ticket) → map asking tickets ≡ map asking core.tickets → All (IsTicketBorn marks) tickets
    → count_by (tests c) tickets ≡ 0 → count_by (holds c) core.held ≡ 0 → count_by (rests c) core.idle ≡ 0 → c < core.next_conn
    → StandsIn core marks → StandsIn (record core { tickets = tickets }) (marks ++ Closed c ∷ [])
stands-closed_tested core marks c tickets alike born untested unowned restless lt s =
    subst (λ held. StandsIn (record core { tickets = tickets; held = held }) (marks ++ Closed c ∷ [])) (filter_none (holds c) core.held unowned)
    (subst (λ idle. StandsIn (record core { tickets = tickets; held = without_loan c core.held; idle = idle }) (marks ++ Closed c ∷ [])) (filter_none (rests c) core.idle restless)
    (stands-closed core marks c tickets alike born untested lt s))

-- the first idle connection is closed
pub stands-closed_first : {C : Type 0} (core : Core C) (marks : List Mark) (i : Idle C) (rest : List (Idle C)) → core.idle ≡ i ∷ rest → count_by (rests i.lent.id) core.idle ≤ 1
    → count_by (tests i.lent.id) core.tickets ≡ 0 → count_by (holds i.lent.id) core.held ≡ 0 → i.lent.id < core.next_conn
    → StandsIn core marks → StandsIn (core_without_first core) (marks ++ Closed i.lent.id ∷ [])
stands-closed_first core marks i rest e once untested unowned lt s =
    subst (λ held. StandsIn (record core { held = held; idle = drop 1 core.idle }) (marks ++ Closed i.lent.id ∷ [])) (filter_none (holds i.lent.id) core.held unowned)
    (subst (λ idle. StandsIn (record core { held = without_loan i.lent.id core.held; idle = idle }) (marks ++ Closed i.lent.id ∷ [])) (sym (drop_first i rest core.idle e once))
    (stands-closed core marks i.lent.id core.tickets refl s.tested_born untested lt s))

-- ---- reaped, detached, leaked

pub stands-reaped : {C : Type 0} (core : Core C) (marks : List Mark) (c : ℕ) → count_by (tests c) core.tickets ≡ 0 → count_by (holds c) core.held ≡ 0 → c < core.next_conn
    → StandsIn core marks → StandsIn (record core { idle = without_idle c core.idle }) (marks ++ Reaped c ∷ [])
stands-reaped core marks c untested unowned lt s =
    let n = Reaped c in
    stands-push core (record core { idle = without_idle c core.idle }) marks n s record {
      tickets = same_tickets (map asking core.tickets);
      loans = same (map loan core.held);
      idle = idle_gone c core.idle ∙ sym (append-nil (filter (λ (r : IdleEntry). not (r.conn == c)) (map resting core.idle)));
      leaked = omega arith;
      shut = sym (or-false core.shut);
      ticket_number = refl;
      conn_number = refl;
      more_tickets = omega arith;
      more_conns = omega arith;
      named = lt;
      held_born = held_others marks n c (λ d. refl) core.held unowned s.held_born;
      idle_born = idle_left marks n c (λ d. refl) core.idle s.idle_born;
      tested_born = tested_left marks n c (λ d. refl) core.tickets untested s.tested_born;
    }

pub stands-detached : {C : Type 0} (core : Core C) (marks : List Mark) (c : ℕ) → count_by (tests c) core.tickets ≡ 0 → count_by (rests c) core.idle ≡ 0 → c < core.next_conn
    → StandsIn core marks → StandsIn (core_without_loan c core) (marks ++ Detached c ∷ [])
stands-detached core marks c untested restless lt s =
    let n = Detached c in
    stands-push core (core_without_loan c core) marks n s record {
      tickets = same_tickets (map asking core.tickets);
      loans = loan_gone c core.held ∙ sym (append-nil (filter (λ (l : Loan). not (l.conn == c)) (map loan core.held)));
      idle = same (map resting core.idle);
      leaked = omega arith;
      shut = sym (or-false core.shut);
      ticket_number = refl;
      conn_number = refl;
      more_tickets = omega arith;
      more_conns = omega arith;
      named = lt;
      held_born = held_left marks n c (λ d. refl) core.held s.held_born;
      idle_born = idle_others marks n c (λ d. refl) core.idle restless s.idle_born;
      tested_born = tested_left marks n c (λ d. refl) core.tickets untested s.tested_born;
    }

pub stands-leaked : {C : Type 0} (core : Core C) (marks : List Mark) (c : ℕ) → count_by (tests c) core.tickets ≡ 0 → count_by (rests c) core.idle ≡ 0 → c < core.next_conn
    → StandsIn core marks → StandsIn (leaked c true core) (marks ++ Leaked c ∷ [])
stands-leaked core marks c untested restless lt s =
    let n = Leaked c in
    stands-push core (leaked c true core) marks n s record {
      tickets = same_tickets (map asking core.tickets);
      loans = loan_gone c core.held ∙ sym (append-nil (filter (λ (l : Loan). not (l.conn == c)) (map loan core.held)));
      idle = same (map resting core.idle);
      leaked = refl;
      shut = sym (or-false core.shut);
      ticket_number = refl;
      conn_number = refl;
      more_tickets = omega arith;
      more_conns = omega arith;
      named = lt;
      held_born = held_left marks n c (λ d. refl) core.held s.held_born;
      idle_born = idle_others marks n c (λ d. refl) core.idle restless s.idle_born;
      tested_born = tested_left marks n c (λ d. refl) core.tickets untested s.tested_born;
    }
