-- What a poll makes of a stage.
use Rattle.std.proofs.Common.{◌≡◌, ℕ, ◌+◌, ◌≤◌, ◌==◌, Bool, true, false, cond, List, [], ◌∷◌, ◌++◌, map, Some, All, refl, sym, ap, subst, ◌∙◌, arith}
use Rattle.std.proofs.lemmas.Bool.{ne_eqb}
use Rattle.sqlx_text.specs.declared.Moment.{Moment}
use Rattle.sqlx_pool_marks.specs.declared.mark.Mark.{Mark}
use Rattle.sqlx_pool_lists.specs.declared.ticket.Ticket.{Ticket}
use Rattle.sqlx_pool_lists.specs.declared.steps.Idle.{Idle}
use Rattle.sqlx_pool_lists.specs.declared.steps.Start.TheVariants as start
use Rattle.sqlx_pool_marks.specs.Marks.{IdleEntry, idle_of}
use Rattle.sqlx_pool_lists.specs.Core.{Core, resting, ticket_of}
use Rattle.sqlx_pool_lists.specs.Edits.{with_ticket, without_ticket, to_try, to_back_off}
use Rattle.sqlx_pool_lists.specs.Sound.{IsNumbered}
use Rattle.sqlx_pool_lists.specs.PollSteps.{started, wait_of}
use Rattle.sqlx_pool_lists.specs.Makes.{Makes}
use Rattle.sqlx_pool_core.proofs.Known.{KeepsNumber, ticket-number, gone-changed}
use Rattle.sqlx_play.proofs.events.Numbers.{ticket-is_only, ticket-below}
use Rattle.sqlx_pool_marks.proofs.ListFacts.{same_number, number_comm, none_any, list_any-map}
use Rattle.mem_store.specs.Store.{Link}
use Rattle.sqlx_script.specs.declared.answers.PollAnswers.{PollAnswers}
use Rattle.sqlx_script.specs.declared.step.Event.{Event}
use Rattle.sqlx_script.specs.declared.step.Step.TheVariants.{Poll}
use Rattle.sqlx_script.specs.declared.reply.Reply.{Reply}
use Rattle.sqlx_script.specs.declared.reply.Reply.TheVariants as reply
use Rattle.sqlx_play.specs.stage.Scene.{Scene}
use Rattle.sqlx_script_rules.specs.Answer.{connect_reply}
use Rattle.sqlx_script_rules.specs.ScriptMarks.{marks_of, waits, is_among, polled}
use Rattle.sqlx_script_rules.specs.ScriptLevels.{gone_by, history_of}
use Rattle.sqlx_play.specs.stage.LinksStand.{LinksStand}
use Rattle.sqlx_script_rules.specs.Tries.{tries_of, backed_off}
use Rattle.sqlx_play.specs.stage.StageStands.{IsTried, StageStands}
use Rattle.sqlx_play.specs.events.ConnectByReply.{connect_marks, after_connect}
use Rattle.sqlx_script_rules.proofs.Pairs.{tries_of-push}
use Rattle.sqlx_play.proofs.links.LinksSame.{links-same, links-as}
use Rattle.sqlx_play.proofs.events.StageAfter.{stage-after}
use Rattle.sqlx_play.proofs.polls.PollTurns.{AtConnect, keeps-try, found-try}
use Rattle.sqlx_play.proofs.polls.PollReplies.{tried-of}
use Rattle.sqlx_play.proofs.polls.PollTries.{Trying, trying-connect, tried-without, tried-changed, with-with}
use Rattle.sqlx_play.proofs.polls.PollMarks.{gone-append, leaving, idle-connect, Outcome, connected, backs_off, broken, refused, reply_by, connect-marks, connect-gone, outcome_of, outcome-is, outcome-until}
use Rattle.sqlx_script_rules.specs.Pairs.{Pairs}

abbrev pub pair_of : Moment → ℕ → ℕ → PollAnswers → Reply → Event × Reply
pair_of moment k t answers r = (record { moment = moment; step = Poll k t answers }, r)

-- ---- a connect

-- the marks of a poll with this reply
abbrev pub polled_by : Scene → Pairs → ℕ → ℕ → ℕ → Reply → List Mark
polled_by stage pairs k t m r = polled stage.pool.tries m k t (waits k t (marks_of stage.pool pairs)) (idle_of (marks_of stage.pool pairs)) r

-- A stage between two steps of a poll, whose ticket connects: x is the ticket before the poll, and y is it now.
pub record Connecting (stage mid : Scene) (pairs : Pairs) (k t m : ℕ) (made : List Mark) : Type 0 where
  pub x : Ticket
  pub y : Ticket
  pub change : Ticket → Ticket
  pub found : ticket_of k t stage.core.tickets ≡ Some x
  pub found_now : ticket_of k t mid.core.tickets ≡ Some y
  pub keeps : KeepsNumber change
  pub is : y ≡ change x
  pub tickets : mid.core.tickets ≡ with_ticket t change stage.core.tickets
  pub trying : Trying m (tries_of t pairs) x y
  pub options : mid.core.options ≡ stage.core.options
  pub places : mid.core.places ≡ stage.core.places
  pub next_ticket : mid.core.next_ticket ≡ stage.core.next_ticket
  pub next_conn : mid.core.next_conn ≡ stage.core.next_conn
  pub pool : mid.pool ≡ stage.pool
  pub links : LinksStand mid.core mid.out.store mid.lent.items (gone_by made (history_of stage.pool pairs))
  pub marks : (o : Outcome) → made ++ connect_marks k t m (reply_by stage.core.next_conn o) ≡ polled_by stage pairs k t m (reply_by stage.core.next_conn o)

-- what a connect leaves as it was
record Keeps (core new : Core Link) : Type 0 where
  pub options : new.options ≡ core.options
  pub places : new.places ≡ core.places
  pub next_ticket : new.next_ticket ≡ core.next_ticket

keeps-connect : (k t n : ℕ) (moment : Moment) (core : Core Link) (o : Outcome) → Keeps core (after_connect k t moment (reply_by n o) core)
keeps-connect k t n moment core connected = record { options = refl; places = refl; next_ticket = refl }
keeps-connect k t n moment core (backs_off until) = record { options = refl; places = refl; next_ticket = refl }
keeps-connect k t n moment core broken = record { options = refl; places = refl; next_ticket = refl }
keeps-connect k t n moment core refused = record { options = refl; places = refl; next_ticket = refl }

module _ (stage mid new : Scene) (pairs : Pairs) (moment : Moment) (k t : ℕ) (answers : PollAnswers) (made : List Mark) (s : StageStands stage pairs) (sound : IsNumbered stage.core)
    (c : Connecting stage mid pairs k t moment.0 made) where
  gone : without_ticket t mid.core.tickets ≡ without_ticket t stage.core.tickets
  gone = ap (without_ticket t) c.tickets ∙ gone-changed t c.change stage.core.tickets c.keeps

  -- the tries where the ticket ended
  ended_tries : (r : Reply) → ((u : ℕ) → tries_of u (pairs ++ pair_of moment k t answers r ∷ []) ≡ tries_of u pairs) → All (IsTried (pairs ++ pair_of moment k t answers r ∷ [])) (without_ticket t mid.core.tickets)
  ended_tries r same = subst (All (IsTried (pairs ++ pair_of moment k t answers r ∷ []))) (sym gone) (tried-without pairs (pairs ++ pair_of moment k t answers r ∷ []) t stage.core.tickets same s.tried)

  -- the tries of other tickets, where it waits
  other_tries : (until u : ℕ) → (u == t) ≡ false → tries_of u (pairs ++ pair_of moment k t answers (reply.Backoff until) ∷ []) ≡ tries_of u pairs
  other_tries until u other = tries_of-push u pairs (pair_of moment k t answers (reply.Backoff until)) ∙ ap (λ (b : Bool). cond b (backed_off moment.0 until (tries_of u pairs)) (tries_of u pairs)) other

  own_tries : tries_of t (pairs ++ pair_of moment k t answers (reply.Backoff (moment.0 + wait_of c.y)) ∷ []) ≡ Some (record { first = c.y.first_try.0; wait = wait_of c.y; until = moment.0 + wait_of c.y })
  own_tries =
      tries_of-push t pairs (pair_of moment k t answers (reply.Backoff (moment.0 + wait_of c.y)))
      ∙ ap (λ (b : Bool). cond b (backed_off moment.0 (moment.0 + wait_of c.y) (tries_of t pairs)) (tries_of t pairs)) (same_number t) ∙ c.trying.tried

  number : c.y.number ≡ t
  number = c.trying.number ∙ sym (ticket-number k t stage.core.tickets c.x c.found)

  waiting_tries : All (IsTried (pairs ++ pair_of moment k t answers (reply.Backoff (moment.0 + wait_of c.y)) ∷ [])) (with_ticket t (λ (z : Ticket). to_back_off (wait_of z) (moment.0 + wait_of c.y) z) mid.core.tickets)
  waiting_tries =
      let after : Pairs = pairs ++ pair_of moment k t answers (reply.Backoff (moment.0 + wait_of c.y)) ∷ [] in
      let waits : Ticket → Ticket = λ (z : Ticket). to_back_off (wait_of z) (moment.0 + wait_of c.y) z in
      let mine : IsTried after (waits c.y) = (wait_of c.y, refl, ap (λ (n : ℕ). tries_of n after) number ∙ own_tries) in
      subst (All (IsTried after)) (sym (ap (with_ticket t waits) c.tickets ∙ with-with t c.change waits stage.core.tickets c.keeps))
      (tried-changed pairs after t (λ (z : Ticket). waits (c.change z)) c.x stage.core.tickets (ticket-is_only stage.core sound k t c.x c.found)
      (λ u other. other_tries (moment.0 + wait_of c.y) u (number_comm u t ∙ other)) (subst (λ (z : Ticket). IsTried after (waits z)) c.is mine) s.tried)

  tickets_by : (o : Outcome) → ((u : ℕ) → o ≡ backs_off u → u ≡ moment.0 + wait_of c.y) → All (IsTried (pairs ++ pair_of moment k t answers (reply_by stage.core.next_conn o) ∷ [])) (after_connect k t moment (reply_by stage.core.next_conn o) mid.core).tickets
  tickets_by connected until = ended_tries (reply.Ready stage.core.next_conn) (λ u. tries_of-push u pairs (pair_of moment k t answers (reply.Ready stage.core.next_conn)))
  tickets_by broken until = ended_tries reply.Io (λ u. tries_of-push u pairs (pair_of moment k t answers reply.Io))
  tickets_by refused until = ended_tries reply.DatabaseRefused (λ u. tries_of-push u pairs (pair_of moment k t answers reply.DatabaseRefused))
  tickets_by (backs_off u) until =
      subst (λ (n : ℕ). All (IsTried (pairs ++ pair_of moment k t answers (reply.Backoff n) ∷ [])) (with_ticket t (λ (z : Ticket). to_back_off (wait_of z) n z) mid.core.tickets)) (sym (until u refl)) waiting_tries

  untried_by : (o : Outcome) (u : ℕ) → stage.core.next_ticket ≤ u → tries_of u (pairs ++ pair_of moment k t answers (reply_by stage.core.next_conn o) ∷ []) ≡ tries_of u pairs
  untried_by connected u h = tries_of-push u pairs (pair_of moment k t answers (reply.Ready stage.core.next_conn))
  untried_by broken u h = tries_of-push u pairs (pair_of moment k t answers reply.Io)
  untried_by refused u h = tries_of-push u pairs (pair_of moment k t answers reply.DatabaseRefused)
  untried_by (backs_off until) u h = let below = ticket-below stage.core sound k t c.x c.found in other_tries until u (ne_eqb u t (λ e. absurd (omega (arith, below, h, e))))

  stands_by : (o : Outcome) → ((u : ℕ) → o ≡ backs_off u → u ≡ moment.0 + wait_of c.y)
      → Makes stage.core.options.max_connections (marks_of stage.pool pairs) (made ++ connect_marks k t moment.0 (reply_by stage.core.next_conn o)) new.core
      → new.core ≡ after_connect k t moment (reply_by stage.core.next_conn o) mid.core → LinksStand new.core new.out.store new.lent.items (gone_by made (history_of stage.pool pairs)) → new.pool ≡ mid.pool
      → StageStands new (pairs ++ pair_of moment k t answers (reply_by stage.core.next_conn o) ∷ [])
  stands_by o until makes becomes links pool =
      let kept = keeps-connect k t stage.core.next_conn moment mid.core o in
      let past : gone_by made (history_of stage.pool pairs) ≡ gone_by (polled_by stage pairs k t moment.0 (reply_by stage.core.next_conn o)) (history_of stage.pool pairs)
      = sym (connect-gone moment.0 k t stage.core.next_conn o (gone_by made (history_of stage.pool pairs)))
      ∙ sym (gone-append made (connect_marks k t moment.0 (reply_by stage.core.next_conn o)) (history_of stage.pool pairs))
      ∙ ap (λ (l : List Mark). gone_by l (history_of stage.pool pairs)) (c.marks o) in
      stage-after stage new pairs (pair_of moment k t answers (reply_by stage.core.next_conn o)) s (record {
        pool = pool ∙ c.pool;
        makes = subst (λ (l : List Mark). Makes stage.core.options.max_connections (marks_of stage.pool pairs) l new.core) (c.marks o) makes;
        options = ap (λ (n : Core Link). n.options) becomes ∙ kept.options ∙ c.options;
        places = ap (λ (n : Core Link). n.places) becomes ∙ kept.places ∙ c.places ∙ s.places;
        tried = subst (λ (n : Core Link). All (IsTried (pairs ++ pair_of moment k t answers (reply_by stage.core.next_conn o) ∷ [])) n.tickets) (sym becomes) (tickets_by o until);
        untried = λ u h.
            let late : stage.core.next_ticket ≤ u = subst (λ (n : ℕ). n ≤ u) (ap (λ (n : Core Link). n.next_ticket) becomes ∙ kept.next_ticket ∙ c.next_ticket) h in
            untried_by o u late ∙ s.untried u late;
        links = subst (LinksStand new.core new.out.store new.lent.items) past links;
      })

  -- the stage after a connect with this reply
  pub connect-stands : (r : Reply) → r ≡ connect_reply mid.pool answers mid.core.next_conn (moment.0 + wait_of c.y) answers.connect
      → Makes stage.core.options.max_connections (marks_of stage.pool pairs) (made ++ connect_marks k t moment.0 r) new.core
      → new.core ≡ after_connect k t moment r mid.core → LinksStand new.core new.out.store new.lent.items (gone_by made (history_of stage.pool pairs)) → new.pool ≡ mid.pool
      → StageStands new (pairs ++ pair_of moment k t answers r ∷ [])
  connect-stands r is makes becomes links pool =
      let o = outcome_of stage.pool answers (moment.0 + wait_of c.y) answers.connect in
      let reply_is : r ≡ reply_by stage.core.next_conn o = is ∙ (λ i. connect_reply (c.pool i) answers (c.next_conn i) (moment.0 + wait_of c.y) answers.connect) ∙ outcome-is stage.pool answers stage.core.next_conn (moment.0 + wait_of c.y) answers.connect in
      subst (λ (r : Reply). StageStands new (pairs ++ pair_of moment k t answers r ∷ [])) (sym reply_is)
      (stands_by o (λ u e. outcome-until stage.pool answers (moment.0 + wait_of c.y) u answers.connect e)
      (subst (λ (r : Reply). Makes stage.core.options.max_connections (marks_of stage.pool pairs) (made ++ connect_marks k t moment.0 r) new.core) reply_is makes)
      (subst (λ (r : Reply). new.core ≡ after_connect k t moment r mid.core) reply_is becomes) links pool)

-- ---- a connect at once

-- the number of the next connection is that of no idle one
pub unused : (core : Core Link) → IsNumbered core → is_among core.next_conn (map resting core.idle) ≡ false
unused core sound =
    let none = sound.opened core.next_conn (omega arith) in
    list_any-map resting (λ (r : IdleEntry). core.next_conn == r.conn) core.idle ∙ none_any (λ (i : Idle Link). core.next_conn == i.lent.id) core.idle (omega (arith, none))

-- no connection is idle, or the next try is due
pub at-connect-connects : (stage mid : Scene) (pairs : Pairs) (k t m : ℕ) → StageStands stage pairs → IsNumbered stage.core → (a : AtConnect stage.core k t m)
    → mid.core ≡ started t m start.Connect stage.core → mid.out.store ≡ stage.out.store → mid.lent.items ≡ stage.lent.items → mid.pool ≡ stage.pool
    → Connecting stage mid pairs k t m (leaving t (waits k t (marks_of stage.pool pairs)))
at-connect-connects stage mid pairs k t m s sound a becomes store owned pool =
    let marks : List Mark = marks_of stage.pool pairs in
    let tried = tried-of k t pairs stage.core.tickets a.x s.tried a.found in
    record {
      x = a.x;
      y = to_try m a.x;
      change = to_try m;
      found = a.found;
      found_now = ap (λ (c : Core Link). ticket_of k t c.tickets) becomes ∙ found-try k t m stage.core.tickets a.x a.found;
      keeps = λ x. (keeps-try m x).0;
      is = refl;
      tickets = ap (λ (c : Core Link). c.tickets) becomes;
      trying = trying-connect m t pairs a.x (stage.core.idle ≡ []) (ticket-number k t stage.core.tickets a.x a.found) a.ways tried;
      options = ap (λ (c : Core Link). c.options) becomes;
      places = ap (λ (c : Core Link). c.places) becomes;
      next_ticket = ap (λ (c : Core Link). c.next_ticket) becomes;
      next_conn = ap (λ (c : Core Link). c.next_conn) becomes;
      pool = pool;
      links = subst (LinksStand mid.core mid.out.store mid.lent.items) (by (waits k t marks))
          (links-as mid.core mid.core stage.out.store mid.out.store stage.lent.items mid.lent.items (history_of stage.pool pairs) refl store owned
          (links-same stage.core mid.core stage.out.store stage.lent.items (history_of stage.pool pairs) s.links (ap (λ (c : Core Link). c.held) becomes) (ap (λ (c : Core Link). c.idle) becomes) (ap (λ (c : Core Link). c.next_conn) becomes)));
      marks = λ o. connect-marks stage.pool.tries m k t stage.core.next_conn (waits k t marks) (idle_of marks) o (idle-connect stage.core marks k t s.stands m a)
          (ap (is_among stage.core.next_conn) (sym s.stands.idle) ∙ unused stage.core sound);
    }
  where
    by : (b : Bool) → history_of stage.pool pairs ≡ gone_by (leaving t b) (history_of stage.pool pairs)
    by true = refl
    by false = refl
