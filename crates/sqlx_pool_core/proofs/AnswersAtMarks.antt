-- What each call answers, by the marks that the core stands for.
use Rattle.std.proofs.Common.{◌≡◌, ℕ, ◌+◌, ◌≤◌, ◌==◌, ◌&&◌, ◌||◌, not, Bool, true, false, cond, List, [], ◌∷◌, map, length, find, count_by, is_some, option_map, Option, Some, None, refl, sym, ap, ap₂, ◌∙◌, subst, arith}
use Rattle.sqlx_pool_marks.specs.declared.mark.Mark.{Mark}
use Rattle.sqlx_pool_marks.specs.Marks.{Loan, is_loan_of, owner_of, loans_of, idle_of, tickets_of}
use Rattle.sqlx_pool_marks.specs.Born.{IsBorn}
use Rattle.sqlx_pool_marks.specs.Counts.{asked_in, is_asked_by}
use Rattle.sqlx_pool_marks.specs.EventTable.{may_pass, closes, closes_at, is_old_since, size_at}
use Rattle.sqlx_pool_marks.specs.Answers.{owns, is_kept_at, first_conn, lent_past_at, waits_if}
use Rattle.sqlx_pool_marks.proofs.ListFacts.{count_by-cons, find-map, found_All, length_map}
use Rattle.sqlx_pool_lists.specs.Limits.{limits_of}
use Rattle.sqlx_pool_lists.specs.declared.ticket.Ticket.{Ticket}
use Rattle.sqlx_pool_lists.specs.declared.ticket.OwnedConn.{OwnedConn}
use Rattle.sqlx_pool_lists.specs.declared.ticket.Phase.{Phase}
use Rattle.sqlx_pool_lists.specs.declared.ticket.Phase.TheVariants as phase
use Rattle.sqlx_pool_lists.specs.declared.steps.Idle.{Idle}
use Rattle.sqlx_pool_lists.specs.declared.steps.Lent.{Lent}
use Rattle.sqlx_pool_lists.specs.declared.steps.Given.{Given}
use Rattle.sqlx_pool_lists.specs.declared.steps.Given.TheVariants as given
use Rattle.sqlx_pool_lists.specs.Core.{Core, is_out, is_held_by, asking, loan, resting, waiting, free, size, ticket_of, loan_of}
use Rattle.sqlx_pool_lists.specs.Sound.{IsSound, holds}
use Rattle.sqlx_pool_lists.specs.StandsFor.{StandsFor}
use Rattle.sqlx_pool_lists.specs.PollSteps.{phase_for, may_cancel, is_in_line, try_lent}
use Rattle.sqlx_pool_core.specs.Answers.{is_busy, lent_conn, is_kept, is_held}
use Rattle.sqlx_pool_core.specs.ReturnSteps.{give_answer}
use Rattle.sqlx_pool_core.proofs.MaintenanceAtMarks.{passes-at}
use Rattle.sqlx_pool_core.proofs.Known.{loan-found}
use Rattle.sqlx_pool_core.proofs.Stands.{IsHeldBorn, stands-in}
use Rattle.sqlx_pool_core.proofs.TurnAtMarks.{idle-stands, owned-stands, size-stands}

-- ---- owners

-- the client's loan, where there is one
none_held : (k c : ℕ) (held : List OwnedConn) → count_by (holds c) held ≡ 0 → loan_of k c held ≡ None
none_held k c [] e = refl
none_held k c (h ∷ held) e = by (λ z. none_held k c held z) (c == h.conn) (k == h.client) (sym (count_by-cons (holds c) h held) ∙ e)
  where
    by : (count_by (holds c) held ≡ 0 → loan_of k c held ≡ None) → (a b : Bool) → cond a 1 0 + count_by (holds c) held ≡ 0 → cond (a && b) (Some h) (loan_of k c held) ≡ None
    by rest true b z = absurd (omega (arith, z))
    by rest false b z = rest (omega (arith, z))

-- an owner of a connection that is owned once
owner_is : (k c : ℕ) (held : List OwnedConn) → count_by (holds c) held ≤ 1 → owns k (option_map (λ (l : Loan). l.client) (find (is_loan_of c) (map loan held))) ≡ is_some (loan_of k c held)
owner_is k c [] one = refl
owner_is k c (h ∷ held) one = by (λ z. owner_is k c held z) (c == h.conn) (k == h.client) refl (let same = count_by-cons (holds c) h held in omega (arith, one, same))
  where
    by : (count_by (holds c) held ≤ 1 → owns k (option_map (λ (l : Loan). l.client) (find (is_loan_of c) (map loan held))) ≡ is_some (loan_of k c held))
        → (a b : Bool) → (k == h.client) ≡ b → cond a 1 0 + count_by (holds c) held ≤ 1
        → owns k (option_map (λ (l : Loan). l.client) (cond a (Some (loan h)) (find (is_loan_of c) (map loan held)))) ≡ is_some (cond (a && b) (Some h) (loan_of k c held))
    by rest true true e z = e
    by rest true false e z = e ∙ sym (ap is_some (none_held k c held (omega (arith, z))))
    by rest false b e z = rest (omega (arith, z))

kept_if : {C : Type 0} (b : Bool) (raw : C) → is_kept (cond b given.Kept (given.Closed raw)) ≡ b
kept_if true raw = refl
kept_if false raw = refl

held_if : {C : Type 0} (b : Bool) (raw : C) → is_held (cond b given.Kept (given.Closed raw)) ≡ true
held_if true raw = refl
held_if false raw = refl

-- a ticket that waits or is in backoff, and one that is busy
cancels-if : (o : Option Phase) → may_cancel o ≡ (is_some o && not (is_busy o))
cancels-if None = refl
cancels-if (Some phase.Waiting) = refl
cancels-if (Some (phase.Backoff until)) = refl
cancels-if (Some (phase.Testing c created before)) = refl
cancels-if (Some phase.Connecting) = refl

some-map : {X Y : Type 0} (f : X → Y) (o : Option X) → is_some (option_map f o) ≡ is_some o
some-map f None = refl
some-map f (Some x) = refl

in_line-is : (p : Phase) (x : Ticket) → x.phase ≡ p → is_in_line (Some p) ≡ waits_if (Some (asking x))
in_line-is phase.Waiting x e = sym (ap (λ (q : Phase). not (is_out q)) e)
in_line-is (phase.Testing c created before) x e = sym (ap (λ (q : Phase). not (is_out q)) e)
in_line-is phase.Connecting x e = sym (ap (λ (q : Phase). not (is_out q)) e)
in_line-is (phase.Backoff until) x e = sym (ap (λ (q : Phase). not (is_out q)) e)

module _ {C : Type 0} (core : Core C) (marks : List Mark) (s : StandsFor core marks) where
  -- the client owns the connection, by the core and by its marks
  pub owner-at : IsSound core → (k c : ℕ) → is_some (loan_of k c core.held) ≡ owns k (owner_of c marks)
  owner-at sound k c =
      let once = sound.once c in
      sym (owner_is k c core.held (omega (arith, once))) ∙ ap (λ (l : List Loan). owns k (option_map (λ (l : Loan). l.client) (find (is_loan_of c) l))) s.loans

  -- the client's ticket, by the core and by its marks
  pub asked-at : (k t : ℕ) → option_map asking (ticket_of k t core.tickets) ≡ asked_in k t (tickets_of marks)
  asked-at k t = sym (find-map asking (is_asked_by k t) core.tickets) ∙ ap (asked_in k t) s.tickets

  pub cancel-at : (k t : ℕ) → may_cancel (phase_for k t core.tickets) ≡ (is_some (asked_in k t (tickets_of marks)) && not (is_busy (phase_for k t core.tickets)))
  cancel-at k t =
      cancels-if (phase_for k t core.tickets)
      ∙ ap (λ (b : Bool). b && not (is_busy (phase_for k t core.tickets)))
      (some-map (λ (x : Ticket). x.phase) (ticket_of k t core.tickets) ∙ sym (some-map asking (ticket_of k t core.tickets)) ∙ ap is_some (asked-at k t))

  pub waits-at : (k t : ℕ) → is_in_line (phase_for k t core.tickets) ≡ waits_if (asked_in k t (tickets_of marks))
  waits-at k t = by (ticket_of k t core.tickets) ∙ ap waits_if (asked-at k t)
    where
      by : (o : Option Ticket) → is_in_line (option_map (λ (x : Ticket). x.phase) o) ≡ waits_if (option_map asking o)
      by None = refl
      by (Some x) = in_line-is x.phase x refl

  -- what would be lent past the line
  pub try-at : option_map lent_conn (try_lent (may_pass core.shut (waiting core.tickets) (free core)) core.idle) ≡ lent_past_at core.options.max_connections core.places marks
  try-at =
      by (may_pass core.shut (waiting core.tickets) (free core)) core.idle
      ∙ (λ i. cond (passes-at core marks s i) (first_conn (s.idle i)) None)
    where
      by : (may : Bool) (idle : List (Idle C)) → option_map lent_conn (try_lent may idle) ≡ cond may (first_conn (map resting idle)) None
      by true [] = refl
      by true (i ∷ rest) = refl
      by false idle = refl

  pub lends-at : is_some (try_lent (may_pass core.shut (waiting core.tickets) (free core)) core.idle) ≡ is_some (lent_past_at core.options.max_connections core.places marks)
  lends-at = sym (some-map lent_conn (try_lent (may_pass core.shut (waiting core.tickets) (free core)) core.idle)) ∙ ap is_some try-at

  pub idle-at : length core.idle ≡ length (idle_of marks)
  idle-at = idle-stands core marks (stands-in core marks s)

  pub owned-at : length core.held ≡ length (loans_of marks)
  owned-at = owned-stands core marks (stands-in core marks s)

  pub tickets-at : length core.tickets ≡ length (tickets_of marks)
  tickets-at = sym (length_map asking core.tickets) ∙ ap length s.tickets

  pub sized-at : size core ≡ size_at core.places marks
  sized-at = size-stands core marks (stands-in core marks s)

  module _ (sound : IsSound core) (k m : ℕ) (accepted : Bool) (lent : Lent C) where
    born : (h : OwnedConn) → loan_of k lent.id core.held ≡ Some h → IsBorn marks lent.id h.created.0
    born h e =
        let here = loan-found core sound k lent.id h e in
        subst (λ n. IsBorn marks n h.created.0) (sym here.conn) (found_All (is_held_by k lent.id) (IsHeldBorn marks) core.held h e s.held_born)

    give_at : (o : Option OwnedConn) → loan_of k lent.id core.held ≡ o
        → (is_kept (give_answer core.options core.shut m accepted o lent) ≡ is_kept_at (limits_of core.options) marks k lent.id m accepted)
        × (is_held (give_answer core.options core.shut m accepted o lent) ≡ owns k (owner_of lent.id marks))
    give_at None e =
        let nobody : owns k (owner_of lent.id marks) ≡ false = sym (owner-at sound k lent.id) ∙ ap is_some e in
        (sym (ap (λ (b : Bool). b && (accepted && not (closes_at (limits_of core.options) marks lent.id m))) nobody), sym nobody)
    give_at (Some h) e =
        let his : owns k (owner_of lent.id marks) ≡ true = sym (owner-at sound k lent.id) ∙ ap is_some e in
        let same : closes (limits_of core.options) core.shut h.created.0 m ≡ closes_at (limits_of core.options) marks lent.id m
        = ap₂ (λ (b : Bool) (o : Option ℕ). b || is_old_since (limits_of core.options) o m) s.shut (sym (born h e)) in
        let keeps = accepted && not (closes (limits_of core.options) core.shut h.created.0 m) in (
          kept_if keeps lent.raw
              ∙ ap (λ (b : Bool). accepted && not b) same
              ∙ sym (ap (λ (b : Bool). b && (accepted && not (closes_at (limits_of core.options) marks lent.id m))) his),
          held_if keeps lent.raw ∙ sym his,
        )

    pub give-at : (r : Given C) → r ≡ give_answer core.options core.shut m accepted (loan_of k lent.id core.held) lent
        → (is_kept r ≡ is_kept_at (limits_of core.options) marks k lent.id m accepted) × (is_held r ≡ owns k (owner_of lent.id marks))
    give-at r is =
        let both = give_at (loan_of k lent.id core.held) refl in
        (ap is_kept is ∙ both.0, ap is_held is ∙ both.1)
