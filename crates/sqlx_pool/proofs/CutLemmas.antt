-- The value under the lock stands after its log was cut.
use Rattle.std.proofs.Common.{◌≡◌, ℕ, ◌+◌, ◌≤◌, Bool, true, List, Option, length, take, drop, sym, ap, ◌∙◌, subst, arith}
use Rattle.std.proofs.Math.Seq.{drop-length}
use Rattle.std.proofs.lemmas.List.Elements.{All-weaker}
use Rattle.sqlx_pool_marks.specs.declared.mark.Mark.{Mark}
use Rattle.sqlx_pool_marks.specs.Marks.{next_ticket, next_conn}
use Rattle.sqlx_pool_marks.specs.Born.{IsBorn, IsNamedBelow}
use Rattle.sqlx_pool_marks.specs.FairLog.{IsFair}
use Rattle.sqlx_pool_marks.specs.Cut.{cut_of}
use Rattle.sqlx_pool_marks.proofs.FairLaws.{says-the-same}
use Rattle.sqlx_pool_marks.proofs.CutLemmas.{view-cut, all-needed, fewer-needed}
use Rattle.sqlx_pool_lists.specs.declared.steps.Idle.{Idle}
use Rattle.sqlx_pool_lists.specs.declared.ticket.Ticket.{Ticket}
use Rattle.sqlx_pool_lists.specs.declared.ticket.OwnedConn.{OwnedConn}
use Rattle.sqlx_pool_lists.specs.declared.ticket.Phase.{Phase}
use Rattle.sqlx_pool_lists.specs.declared.ticket.Phase.TheVariants as phase
use Rattle.sqlx_pool_lists.specs.Core.{Core}
use Rattle.sqlx_pool_lists.specs.StandsFor.{StandsFor, IsTestedBorn}
use Rattle.sqlx_pool_lists.specs.Balance.{is_lent, lents}
use Rattle.sqlx_pool_parts.specs.State.{PoolState, state_of, IsKept}

-- a core stands for its log where that is cut
stands-cut : {C : Type 0} (core : Core C) (marks : List Mark) → StandsFor core marks → StandsFor core (cut_of marks)
stands-cut {C} core marks s =
    let same = says-the-same (cut_of marks) marks (view-cut marks) in
    let born : (c m : ℕ) → IsBorn marks c m → IsBorn (cut_of marks) c m = λ c m b. same.births c ∙ b in
    record {
      tickets = s.tickets ∙ sym same.tickets;
      loans = s.loans ∙ sym same.loans;
      idle = s.idle ∙ sym same.idle;
      leaked = s.leaked ∙ sym same.leaked;
      shut = s.shut ∙ sym same.shut;
      ticket_number = s.ticket_number ∙ sym same.ticket_number;
      conn_number = s.conn_number ∙ sym same.conn_number;
      named = all-needed (next_ticket marks) (next_conn marks) (IsNamedBelow core.next_ticket core.next_conn) marks s.named;
      held_born = All-weaker (λ (h : OwnedConn). IsBorn marks h.conn h.created.0) (λ (h : OwnedConn). IsBorn (cut_of marks) h.conn h.created.0) (λ h. born h.conn h.created.0) core.held s.held_born;
      idle_born = All-weaker (λ (i : Idle C). IsBorn marks i.lent.id i.lent.created.0) (λ (i : Idle C). IsBorn (cut_of marks) i.lent.id i.lent.created.0) (λ i. born i.lent.id i.lent.created.0) core.idle s.idle_born;
      tested_born = All-weaker (λ (t : Ticket). IsTestedBorn marks t.phase) (λ (t : Ticket). IsTestedBorn (cut_of marks) t.phase) (λ t. tested born t.phase) core.tickets s.tested_born;
      permits = s.permits;
      closed = s.closed;
    }
  where
    tested : ((c m : ℕ) → IsBorn marks c m → IsBorn (cut_of marks) c m) → (p : Phase) → IsTestedBorn marks p → IsTestedBorn (cut_of marks) p
    tested born (phase.Testing c created before) b = born c created.0 b
    tested born phase.Waiting b = tt
    tested born phase.Connecting b = tt
    tested born (phase.Backoff until) b = tt

-- the loans in a cut are loans that were made
pub lents-cut : {C O : Type 0} {levels : C → ℕ} {max : ℕ} {cuts : Bool} {state : PoolState C O} {capacity : ℕ} → IsKept levels max cuts state capacity
    → (now : List Mark) → now ≡ cut_of state.marks → lents now ≤ state.booked.made
lents-cut {state = state} kept now e =
    let fewer : lents (cut_of state.marks) ≤ lents state.marks = fewer-needed (next_ticket state.marks) (next_conn state.marks) is_lent state.marks in
    let made = kept.standing.made in
    let same = ap lents e in
    omega (arith, fewer, made, same)

pub cut-kept : {C O : Type 0} {levels : C → ℕ} {max : ℕ} {cuts : Bool} {state : PoolState C O} {capacity : ℕ} → IsKept levels max cuts state capacity → cuts ≡ true
    → (now : List Mark) → now ≡ cut_of state.marks → (limit : Option ℕ) → (len before room : ℕ) → len ≡ length now → before + lents now ≡ state.booked.made → capacity + length now ≤ room + length state.marks
    → IsKept levels max cuts (state_of state.core now (record { len = len; lent_before = before; limit = limit }) state.connect state.booked) room
cut-kept {levels = levels} {max = max} {cuts = cuts} {state = state} {capacity = capacity} kept may now e limit len before room long counted fits =
    let old = kept.room in
    record {
      standing = record {
        stands = subst (StandsFor state.core) (sym e) (stands-cut state.core state.marks kept.standing.stands);
        fair = subst (IsFair max (take len now)) (sym (ap (λ (n : ℕ). drop n now) long ∙ drop-length now)) (record { safe = tt; order = tt });
        begins = omega (arith, long);
        uncut = λ never. absurd (let f = sym may ∙ never in cc);
        most = kept.standing.most;
        owned = kept.standing.owned;
        made = sym counted;
        rest = kept.standing.rest;
      };
      asked = kept.asked;
      few = kept.few;
      room = omega (arith, old, fits);
    }
