-- What a cancel and a try make of a stage.
use Rattle.std.proofs.Common.{◌≡◌, ℕ, ◌≤◌, Bool, true, false, cond, List, [], ◌∷◌, ◌++◌, map, Option, Some, None, option_map, All, refl, sym, ap, subst, ◌∙◌}
use Rattle.sqlx_text.specs.declared.Moment.{Moment}
use Rattle.sqlx_pool_marks.specs.declared.mark.Mark.{Mark}
use Rattle.sqlx_pool_marks.specs.declared.mark.Mark.TheVariants as mark
use Rattle.sqlx_pool_lists.specs.declared.ticket.Ticket.{Ticket}
use Rattle.sqlx_pool_lists.specs.declared.ticket.Phase.{Phase}
use Rattle.sqlx_pool_lists.specs.declared.ticket.Phase.TheVariants as phase
use Rattle.sqlx_pool_lists.specs.declared.steps.Lent.{Lent}
use Rattle.sqlx_pool_lists.specs.declared.steps.Idle.{Idle}
use Rattle.sqlx_pool_marks.specs.Marks.{tickets_of, idle_of}
use Rattle.sqlx_pool_marks.specs.Counts.{asked_in}
use Rattle.sqlx_pool_lists.specs.Core.{Core, resting, asking, ticket_of, waiting, free}
use Rattle.sqlx_pool_lists.specs.Edits.{at_moment, core_without_ticket, lent_to, core_without_first}
use Rattle.sqlx_pool_marks.specs.EventTable.{may_pass}
use Rattle.sqlx_pool_lists.specs.PollSteps.{phase_for, may_cancel, try_lent}
use Rattle.sqlx_pool_lists.specs.Makes.{Makes}
use Rattle.sqlx_pool_core.proofs.Fair.{makes-nothing}
use Rattle.sqlx_pool_core.proofs.Stands.{stands-in}
use Rattle.sqlx_pool_core.proofs.TurnAtMarks.{waiting-stands}
use Rattle.mem_store.specs.Store.{Link}
use Rattle.sqlx_script.specs.declared.step.Event.{Event}
use Rattle.sqlx_script.specs.declared.step.Step.TheVariants.{Cancel, Try}
use Rattle.sqlx_script.specs.declared.reply.Reply.{Reply}
use Rattle.sqlx_script.specs.declared.reply.Reply.TheVariants as reply
use Rattle.sqlx_play.specs.stage.Scene.{Scene}
use Rattle.sqlx_script_rules.specs.Answer.{cancel_reply, try_reply}
use Rattle.sqlx_script_rules.specs.ScriptMarks.{added, marks_of, first_of, passes}
use Rattle.sqlx_script_rules.specs.ScriptLevels.{history_after, history_of}
use Rattle.sqlx_play.specs.stage.LinksStand.{LinksStand}
use Rattle.sqlx_script_rules.specs.Tries.{tries_of}
use Rattle.sqlx_play.specs.stage.StageStands.{IsTried, IsTriedAt, StageStands}
use Rattle.sqlx_script_rules.proofs.Pairs.{tries_of-push}
use Rattle.sqlx_play.proofs.events.TriesSame.{tried-same}
use Rattle.sqlx_play.proofs.links.LinksSame.{links-same, links-as}
use Rattle.sqlx_play.proofs.links.LinksMoves.{links-lent}
use Rattle.sqlx_play.proofs.events.StageAfter.{stage-after}
use Rattle.sqlx_play.proofs.polls.PollReplies.{asked-is, tried-of, free-is}
use Rattle.sqlx_play.proofs.polls.PollTries.{tried-without}
use Rattle.sqlx_script_rules.specs.Pairs.{Pairs}

-- ---- a stage that stays, or that loses a ticket

module _ (stage : Scene) (pairs : Pairs) (pair : Event × Reply) (s : StageStands stage pairs) (same : (t : ℕ) → tries_of t (pairs ++ pair ∷ []) ≡ tries_of t pairs)
    (past : history_after stage.pool (marks_of stage.pool pairs) (history_of stage.pool pairs) pair ≡ history_of stage.pool pairs) where
  -- nothing happens
  pub stays-standing : (core : Core Link) → core ≡ stage.core → added stage.pool (marks_of stage.pool pairs) pair ≡ [] → StageStands (record stage { core = core }) (pairs ++ pair ∷ [])
  stays-standing core becomes none = subst (λ (c : Core Link). StageStands (record stage { core = c }) (pairs ++ pair ∷ [])) (sym becomes)
      (stage-after stage stage pairs pair s (record {
        pool = refl;
        makes = subst (λ (l : List Mark). Makes stage.core.options.max_connections (marks_of stage.pool pairs) l stage.core) (sym none)
            (makes-nothing stage.core.options.max_connections (marks_of stage.pool pairs) stage.core s.stands);
        options = refl;
        places = s.places;
        tried = tried-same pairs pair stage.core.tickets same s.tried;
        untried = λ t h. same t ∙ s.untried t h;
        links = subst (LinksStand stage.core stage.out.store stage.lent.items) (sym past) s.links;
      }))

  -- a ticket ends
  pub ends-standing : (core : Core Link) (t last : ℕ) → core ≡ at_moment last (core_without_ticket t stage.core) → added stage.pool (marks_of stage.pool pairs) pair ≡ mark.Ended t ∷ []
      → Makes stage.core.options.max_connections (marks_of stage.pool pairs) (mark.Ended t ∷ []) core → StageStands (record stage { core = core }) (pairs ++ pair ∷ [])
  ends-standing core t last becomes is makes =
      stage-after stage (record stage { core = core }) pairs pair s (record {
        pool = refl;
        makes = subst (λ (l : List Mark). Makes stage.core.options.max_connections (marks_of stage.pool pairs) l core) (sym is) makes;
        options = ap (λ (c : Core Link). c.options) becomes;
        places = ap (λ (c : Core Link). c.places) becomes ∙ s.places;
        tried = subst (λ (c : Core Link). All (IsTried (pairs ++ pair ∷ [])) c.tickets) (sym becomes) (tried-without pairs (pairs ++ pair ∷ []) t stage.core.tickets same s.tried);
        untried = λ u h. same u ∙ s.untried u (subst (λ (n : ℕ). n ≤ u) (ap (λ (c : Core Link). c.next_ticket) becomes) h);
        links = subst (LinksStand core stage.out.store stage.lent.items) (sym past)
            (links-same stage.core core stage.out.store stage.lent.items (history_of stage.pool pairs) s.links (ap (λ (c : Core Link). c.held) becomes) (ap (λ (c : Core Link). c.idle) becomes) (ap (λ (c : Core Link). c.next_conn) becomes));
      })

-- ---- cancel

-- a ticket that no step is under way for may be cancelled
cancel_at : (pairs : Pairs) (x : Ticket) (p : Phase) → IsTriedAt pairs x p → may_cancel (Some p) ≡ true
cancel_at pairs x phase.Waiting h = refl
cancel_at pairs x (phase.Backoff until) h = refl
cancel_at pairs x (phase.Testing c created before) h = absurd h
cancel_at pairs x phase.Connecting h = absurd h

pub cancel-reply : (stage : Scene) (pairs : Pairs) (k t : ℕ) (b : Bool) → StageStands stage pairs → b ≡ may_cancel (phase_for k t stage.core.tickets)
    → cond b reply.Cancelled reply.NotHeld ≡ cancel_reply (asked_in k t (tickets_of (marks_of stage.pool pairs)))
cancel-reply stage pairs k t b s is =
    ap (λ (b : Bool). cond b reply.Cancelled reply.NotHeld) is ∙ by (ticket_of k t stage.core.tickets) refl
    ∙ sym (ap cancel_reply (asked-is stage.core (marks_of stage.pool pairs) k t s.stands))
  where
    by : (o : Option Ticket) → ticket_of k t stage.core.tickets ≡ o → cond (may_cancel (option_map (λ (x : Ticket). x.phase) o)) reply.Cancelled reply.NotHeld ≡ cancel_reply (option_map asking o)
    by None found = refl
    by (Some x) found = ap (λ (b : Bool). cond b reply.Cancelled reply.NotHeld) (cancel_at pairs x x.phase (tried-of k t pairs stage.core.tickets x s.tried found))

-- the stage after a cancel
pub cancelled-stands : (stage : Scene) (core : Core Link) (pairs : Pairs) (moment : Moment) (k t : ℕ) → StageStands stage pairs → core ≡ core_without_ticket t stage.core
    → Makes stage.core.options.max_connections (marks_of stage.pool pairs) (mark.Ended t ∷ []) core
    → StageStands (record stage { core = core }) (pairs ++ (record { moment = moment; step = Cancel k t }, reply.Cancelled) ∷ [])
cancelled-stands stage core pairs moment k t s becomes makes =
    let pair : Event × Reply = (record { moment = moment; step = Cancel k t }, reply.Cancelled) in
    ends-standing stage pairs pair s (λ u. tries_of-push u pairs pair) refl core t stage.core.last becomes refl makes

pub uncancelled-stands : (stage : Scene) (core : Core Link) (pairs : Pairs) (moment : Moment) (k t : ℕ) → StageStands stage pairs → core ≡ stage.core
    → StageStands (record stage { core = core }) (pairs ++ (record { moment = moment; step = Cancel k t }, reply.NotHeld) ∷ [])
uncancelled-stands stage core pairs moment k t s becomes =
    let pair : Event × Reply = (record { moment = moment; step = Cancel k t }, reply.NotHeld) in
    stays-standing stage pairs pair s (λ u. tries_of-push u pairs pair) refl core becomes refl

-- ---- try

-- the marks say whether a connection may be lent past the line
pub passes-is : (stage : Scene) (pairs : Pairs) → StageStands stage pairs → may_pass stage.core.shut (waiting stage.core.tickets) (free stage.core) ≡ passes stage.pool (marks_of stage.pool pairs)
passes-is stage pairs s = λ i. may_pass (s.stands.shut i) (waiting-stands stage.core (marks_of stage.pool pairs) (stands-in stage.core (marks_of stage.pool pairs) s.stands) i) (sym (free-is stage pairs s) i)

-- the reply where this is lent
abbrev pub lending_reply : Option (Lent Link) → Reply
lending_reply None = reply.NothingToLend
lending_reply (Some lent) = reply.Ready lent.id

pub try-reply : (stage : Scene) (pairs : Pairs) (r : Option (Lent Link)) → StageStands stage pairs
    → r ≡ try_lent (may_pass stage.core.shut (waiting stage.core.tickets) (free stage.core)) stage.core.idle → lending_reply r ≡ try_reply (passes stage.pool (marks_of stage.pool pairs)) (first_of (idle_of (marks_of stage.pool pairs)))
try-reply stage pairs r s is =
    ap lending_reply is ∙ by (may_pass stage.core.shut (waiting stage.core.tickets) (free stage.core)) stage.core.idle
    ∙ (λ i. try_reply (passes-is stage pairs s i) (first_of (s.stands.idle i)))
  where
    by : (b : Bool) (idle : List (Idle Link)) → lending_reply (try_lent b idle) ≡ try_reply b (first_of (map resting idle))
    by true [] = refl
    by false [] = refl
    by true (i ∷ rest) = refl
    by false (i ∷ rest) = refl

-- The first idle connection, which is lent.
pub record FirstIdle (core : Core Link) (lent : Lent Link) : Type 0 where
  pub i : Idle Link
  pub rest : List (Idle Link)
  pub idle : core.idle ≡ i ∷ rest
  pub is : lent ≡ i.lent

pub first-idle : (core : Core Link) (b : Bool) (lent : Lent Link) → Some lent ≡ try_lent b core.idle → FirstIdle core lent
first-idle core b lent e = by b core.idle refl e
  where
    by : (b : Bool) (idle : List (Idle Link)) → core.idle ≡ idle → Some lent ≡ try_lent b idle → FirstIdle core lent
    by true [] is e = absurd cc
    by false [] is e = absurd cc
    by false (i ∷ rest) is e = absurd cc
    by true (i ∷ rest) is e = record { i = i; rest = rest; idle = is; is = cc }

-- the stage after a try
pub unlent-stands : (stage : Scene) (core : Core Link) (pairs : Pairs) (moment : Moment) (k : ℕ) → StageStands stage pairs → core ≡ stage.core
    → StageStands (record stage { core = core }) (pairs ++ (record { moment = moment; step = Try k }, reply.NothingToLend) ∷ [])
unlent-stands stage core pairs moment k s becomes =
    let pair : Event × Reply = (record { moment = moment; step = Try k }, reply.NothingToLend) in
    stays-standing stage pairs pair s (λ u. tries_of-push u pairs pair) refl core becomes refl

pub lent-stands : (stage new : Scene) (pairs : Pairs) (moment : Moment) (k last : ℕ) (lent : Lent Link) → StageStands stage pairs → FirstIdle stage.core lent
    → new.core ≡ at_moment last (lent_to k lent.id lent.created (core_without_first stage.core)) → new.out.store ≡ stage.out.store → new.lent.items ≡ stage.lent.items ++ lent ∷ [] → new.pool ≡ stage.pool
    → Makes stage.core.options.max_connections (marks_of stage.pool pairs) (mark.Taken lent.id ∷ mark.Lent k lent.id ∷ []) new.core
    → StageStands new (pairs ++ (record { moment = moment; step = Try k }, reply.Ready lent.id) ∷ [])
lent-stands stage new pairs moment k last lent s first becomes store owned pool makes =
    stage-after stage new pairs pair s (record {
      pool = pool;
      makes = makes;
      options = ap (λ (c : Core Link). c.options) becomes;
      places = ap (λ (c : Core Link). c.places) becomes ∙ s.places;
      tried = subst (λ (c : Core Link). All (IsTried (pairs ++ pair ∷ [])) c.tickets) (sym becomes) (tried-same pairs pair stage.core.tickets (λ u. tries_of-push u pairs pair) s.tried);
      untried = λ u h. tries_of-push u pairs pair ∙ s.untried u (subst (λ (n : ℕ). n ≤ u) (ap (λ (c : Core Link). c.next_ticket) becomes) h);
      links = links-as core new.core stage.out.store new.out.store (stage.lent.items ++ lent ∷ []) new.lent.items (history_of stage.pool pairs) becomes store owned
          (subst (λ (l : Lent Link). LinksStand (at_moment last (lent_to k l.id l.created (core_without_first stage.core))) stage.out.store (stage.lent.items ++ l ∷ []) (history_of stage.pool pairs)) (sym first.is)
          (links-same _ (at_moment last (lent_to k first.i.lent.id first.i.lent.created (core_without_first stage.core))) stage.out.store _ (history_of stage.pool pairs)
          (links-lent stage.core stage.out.store stage.lent.items (history_of stage.pool pairs) s.links first.i first.rest first.idle k first.i.lent.created) refl refl refl));
    })
  where
    pair : Event × Reply
    pair = (record { moment = moment; step = Try k }, reply.Ready lent.id)

    core : Core Link
    core = at_moment last (lent_to k lent.id lent.created (core_without_first stage.core))

-- it stands whatever the reply is
pub tried-stands : (stage new : Scene) (pairs : Pairs) (moment : Moment) (k last : ℕ) (lent : Lent Link) (r : Reply) → StageStands stage pairs → FirstIdle stage.core lent → r ≡ reply.Ready lent.id
    → new.core ≡ at_moment last (lent_to k lent.id lent.created (core_without_first stage.core)) → new.out.store ≡ stage.out.store → new.lent.items ≡ stage.lent.items ++ lent ∷ [] → new.pool ≡ stage.pool
    → Makes stage.core.options.max_connections (marks_of stage.pool pairs) (mark.Taken lent.id ∷ mark.Lent k lent.id ∷ []) new.core
    → StageStands new (pairs ++ (record { moment = moment; step = Try k }, r) ∷ [])
tried-stands stage new pairs moment k last lent r s first is becomes store owned pool makes =
    subst (λ (r : Reply). StageStands new (pairs ++ (record { moment = moment; step = Try k }, r) ∷ [])) (sym is) (lent-stands stage new pairs moment k last lent s first becomes store owned pool makes)
