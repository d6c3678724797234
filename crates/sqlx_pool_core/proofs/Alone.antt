-- What a lone pool makes of what its member makes.
use Rattle.std.proofs.Common.{◌≡◌, ℕ, ◌+◌, ◌^◌, ◌<◌, ◌≤◌, ◌⊎◌, max, inl, inr, Bool, true, false, not, nat_lt, List, [], ◌∷◌, ◌++◌, Option, Result, Ok, Err, IfOk, refl, sym, ap, ◌∙◌, subst, arith}
use Rattle.std.specs.Prelude.{⊤}
use Rattle.std.proofs.lemmas.Bool.{ltb-true, and_parts}
use Rattle.sqlx_pool_marks.specs.declared.mark.Mark.{Mark}
use Rattle.sqlx_pool_marks.specs.declared.turn.Turn.{Turn}
use Rattle.sqlx_pool_marks.specs.Standing.{next_after, next_number}
use Rattle.sqlx_pool_marks.specs.Marks.{asked_number, opened_number}
use Rattle.sqlx_pool_marks.specs.EventTable.{may_pass}
use Rattle.sqlx_pool_lists.specs.declared.options.PoolOptions.{PoolOptions}
use Rattle.sqlx_pool_lists.specs.declared.steps.Start.{Start}
use Rattle.sqlx_pool_lists.specs.Core.{Core, waiting, free}
use Rattle.sqlx_pool_lists.specs.Sound.{IsSound}
use Rattle.sqlx_pool_core.specs.Alone.{IsAlone}
use Rattle.sqlx_pool_core.specs.Numbers.{Draws, Stays, under_way}
use Rattle.sqlx_pool_lists.specs.StandsFor.{StandsIn, StandsFor}
use Rattle.sqlx_pool_lists.specs.Makes.{MakesWhere, MakesIn, Makes}
use Rattle.sqlx_pool_core.specs.Logs.{Logs}
use Rattle.sqlx_pool_lists.specs.Balance.{Balance, ask_room}
use Rattle.sqlx_pool_lists.specs.CoreTurn.{before, core_turn, InOwnLine, PastOwnLine}
use Rattle.sqlx_pool_lists.specs.PollTable.{phase_turn}
use Rattle.sqlx_pool_lists.specs.PollSteps.{phase_for, start_answer}
use Rattle.sqlx_pool_lists.specs.MaintenanceSteps.{closed_from}
use Rattle.sqlx_pool_core.proofs.Stands.{stands-in}
use Rattle.sqlx_pool_core.proofs.TurnAtMarks.{core_turn-stands}

-- ---- it stays alone

pub alone-step : {C : Type 0} (old new : Core C) (made : List Mark) → IsAlone old → Stays old new → Draws old new made → IsSound new → IsAlone new
alone-step old new made a s d sound = record {
  all = s.permits ∙ a.all ∙ ap (λ (o : PoolOptions). o.max_connections) (sym s.options);
  closed = s.closed ∙ a.closed ∙ sym s.shut;
  few = few d.few;
}
  where
    same : new.options.max_connections ≡ old.options.max_connections
    same = ap (λ (o : PoolOptions). o.max_connections) s.options

    few : (new.next_conn + under_way new ≤ old.next_conn + under_way old) ⊎ ((old.next_conn ≤ 2 ^ 63) × (new.next_conn ≡ old.next_conn)) → new.next_conn + under_way new ≤ 2 ^ 63 + 1 + new.options.max_connections
    few (inl le) = let f = a.few in omega (arith, le, f, same)
    few (inr two) = let p = sound.paid in let o = sound.owns in let l = two.0 in let e = two.1 in omega (arith, p, o, l, e)

-- a close keeps it alone
pub alone-closed : {C : Type 0} (old new : Core C) (made : List Mark) → IsAlone old → new ≡ closed_from old.shut old → Draws old new made → IsSound new → IsAlone new
alone-closed {C} old new made a left d sound = by old.shut left
  where
    by : (shut : Bool) → new ≡ closed_from shut old → IsAlone new
    by true e = subst IsAlone (sym e) a
    by false e = subst IsAlone (sym e) (record { all = a.all; closed = refl; few = let f = a.few in omega (arith, f) })

-- ---- numbers

pub number-append : (draws : Mark → Option ℕ) (n : ℕ) (xs ys : List Mark) → next_number draws n (xs ++ ys) ≡ next_number draws (next_number draws n xs) ys
number-append draws n [] ys = refl
number-append draws n (m ∷ xs) ys = number-append draws (next_after (draws m) n) xs ys

pub alone-makes : {C W : Type 0} (old new : Core C) (max : ℕ) (marks made : List Mark) → StandsFor old marks → IsAlone new → Draws old new made → W → MakesWhere W max marks made new → Makes max marks made new
alone-makes old new max marks made s a d w m = record {
  stands = record {
    tickets = m.stands.tickets;
    loans = m.stands.loans;
    idle = m.stands.idle;
    leaked = m.stands.leaked;
    shut = m.stands.shut;
    ticket_number = d.tickets ∙ ap (λ (n : ℕ). next_number asked_number n made) s.ticket_number ∙ sym (number-append asked_number 1 marks made);
    conn_number = d.conns ∙ ap (λ (n : ℕ). next_number opened_number n made) s.conn_number ∙ sym (number-append opened_number 1 marks made);
    named = m.stands.named;
    held_born = m.stands.held_born;
    idle_born = m.stands.idle_born;
    tested_born = m.stands.tested_born;
    permits = a.all;
    closed = a.closed;
  };
  fair = record { safe = m.safe; order = m.order w };
}

-- ---- by the member inside

module _ {C : Type 0} (core now new : Core C) (view : core ≡ now) where
  -- what a step of the member makes, where its condition holds
  logs-where : (W : List Mark → Type 0) (made : Core C → List Mark) (done : List Mark) → done ≡ made core → IsAlone new → Draws core new done → ((marks : List Mark) → StandsFor core marks → W marks)
      → ((marks : List Mark) → StandsIn core marks → MakesWhere (W marks) core.options.max_connections marks done new) → Logs now (made now) new
  logs-where W made done e a d w m =
      subst (λ (c : Core C). Logs c (made c) new) view
      (subst (λ (l : List Mark). Logs core l new) e (λ marks s. alone-makes core new core.options.max_connections marks done s a d (w marks s) (m marks (stands-in core marks s))))

  -- a step that leaves the line alone
  pub plain-alone : (made : Core C → List Mark) (done : List Mark) → done ≡ made core → IsAlone core → IsSound new → Stays core new → Draws core new done
      → ((marks : List Mark) → StandsIn core marks → MakesIn core.options.max_connections marks done new) → Logs now (made now) new
  plain-alone made done e a sound s d = logs-where (λ marks. ⊤) made done e (alone-step core new done a s d sound) d (λ marks s. tt)

  pub close-alone : (made : Core C → List Mark) (done : List Mark) → done ≡ made core → IsAlone core → IsSound new → new ≡ closed_from core.shut core → Draws core new done
      → ((marks : List Mark) → StandsIn core marks → MakesIn core.options.max_connections marks done new) → Logs now (made now) new
  close-alone made done e a sound left d = logs-where (λ marks. ⊤) made done e (alone-closed core new done a left d sound) d (λ marks s. tt)

  -- the start of a poll
  pub start-alone : (t : ℕ) (q : Bool) (made : Core C → List Mark) (done : List Mark) → done ≡ made core → IsAlone core → IsSound new → Stays core new → (q ≡ true → before t core.tickets < free core) → Draws core new done
      → ((marks : List Mark) → StandsIn core marks → MakesWhere (InOwnLine core marks t q) core.options.max_connections marks done new) → Logs now (made now) new
  start-alone t q made done e a sound s first d =
      logs-where (λ marks. InOwnLine core marks t q) made done e (alone-step core new done a s d sound) d
      (λ marks s. record { all = a.all; conns = s.conn_number; first = first })

  -- a loan past the line
  pub try-alone : (passes : Bool) (made : Core C → List Mark) (done : List Mark) → done ≡ made core → IsAlone core → IsSound new → Stays core new → passes ≡ may_pass core.closed (waiting core.tickets) (free core)
      → Draws core new done → ((marks : List Mark) → StandsIn core marks → MakesWhere (PastOwnLine core passes) core.options.max_connections marks done new) → Logs now (made now) new
  try-alone passes made done e a sound s past d =
      logs-where (λ marks. PastOwnLine core passes) made done e (alone-step core new done a s d sound) d
      (λ marks s. record { all = a.all; first = λ is. ltb-true (waiting core.tickets) (free core) (and_parts (not core.closed) (nat_lt (waiting core.tickets) (free core)) (sym past ∙ is)).1 })

  -- what a step does to the counts
  pub moves-alone : (made : Core C → List Mark) (done : List Mark) (backs room : ℕ) → done ≡ made core → Balance core new done backs room → Balance now new (made now) backs room
  moves-alone made done backs room e m = subst (λ (c : Core C). Balance c new (made c) backs room) view (subst (λ (l : List Mark). Balance core new l backs room) e m)

  -- an ask
  pub ask-alone : {E : Type 0} (made : ℕ → ℕ → List Mark) (m n : ℕ) (r : Result ℕ E) → m ≡ max core.last n → IsAlone core → IsSound new → Stays core new → IfOk r (λ t. Draws core new (made t (m + core.options.acquire_timeout)))
      → ((marks : List Mark) → StandsIn core marks → IfOk r (λ t. MakesIn core.options.max_connections marks (made t (m + core.options.acquire_timeout)) new))
      → (marks : List Mark) → StandsFor now marks → IfOk r (λ t. Makes now.options.max_connections marks (made t (max now.last n + now.options.acquire_timeout)) new)
  ask-alone made m n (Ok t) e a sound s d mk =
      plain-alone (λ (c : Core C). made t (max c.last n + c.options.acquire_timeout)) (made t (m + core.options.acquire_timeout)) (ap (λ (k : ℕ). made t (k + core.options.acquire_timeout)) e) a sound s d mk
  ask-alone made m n (Err e) is a sound s d mk = λ marks stands. tt

  pub ask-moves-alone : {E : Type 0} (made : ℕ → ℕ → List Mark) (m n : ℕ) (r : Result ℕ E) → m ≡ max core.last n → IfOk r (λ t. Balance core new (made t (m + core.options.acquire_timeout)) 0 (ask_room core.options.idle_tries))
      → IfOk r (λ t. Balance now new (made t (max now.last n + now.options.acquire_timeout)) 0 (ask_room now.options.idle_tries))
  ask-moves-alone made m n (Ok t) e mk =
      subst (λ (c : Core C). Balance c new (made t (max c.last n + c.options.acquire_timeout)) 0 (ask_room c.options.idle_tries)) view
      (subst (λ (k : ℕ). Balance core new (made t (k + core.options.acquire_timeout)) 0 (ask_room core.options.idle_tries)) e mk)
  ask-moves-alone made m n (Err e) is mk = tt

  -- the turn that a lone pool finds is the turn over its marks
  pub turn-alone : (k t m : ℕ) (r : Start C) → r ≡ start_answer (core_turn now k t m) now.idle
      → (marks : List Mark) → StandsFor now marks → r ≡ start_answer (phase_turn now.options.max_connections now.places marks k t m (phase_for k t now.tickets)) now.idle
  turn-alone k t m r is marks s = is ∙ ap (λ (t : Turn). start_answer t now.idle) (core_turn-stands now marks s k t m)
