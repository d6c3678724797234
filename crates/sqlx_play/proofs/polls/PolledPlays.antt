-- A poll of the pool plays the event.
use Rattle.std.proofs.Common.{◌≡◌, ℕ, zero, suc, ◌+◌, ◌-◌, ◌^◌, ◌≤◌, ◌==◌, Bool, true, false, cond, List, [], ◌∷◌, ◌++◌, map, take, Option, Some, None, option_map, nat_lt, Result, Ok, Err, IfOk, OnOk, All, refl, sym, ap, subst, ◌∙◌, append_assoc, arith}
use Rattle.std.proofs.lemmas.Bool.{eqb-true, lt-ltb, le-ltb}
use Rattle.std.proofs.lemmas.List.Elements.{All-head}
use Rattle.sqlx_script.specs.Letters.{answering}
use Rattle.sqlx_savepoints.specs.Links.{linked_after}
use Rattle.sqlx_pool_marks.specs.Marks.{IdleEntry}
use Rattle.sqlx_pool_core.proofs.Known.{ticket-changed}
use Rattle.sqlx_text.specs.declared.Moment.{Moment}
use Rattle.sqlx_text.specs.declared.error.Error.{Error}
use Rattle.sqlx_pool_marks.specs.declared.mark.Mark.{Mark}
use Rattle.sqlx_pool_marks.specs.declared.mark.Mark.TheVariants as mark
use Rattle.sqlx_pool_lists.specs.declared.options.PoolOptions.{PoolOptions}
use Rattle.sqlx_pool_lists.specs.declared.ticket.Ticket.{Ticket}
use Rattle.sqlx_pool_lists.specs.declared.ticket.Phase.TheVariants as phase
use Rattle.sqlx_pool_lists.specs.declared.steps.AfterTest.{AfterTest}
use Rattle.sqlx_pool_lists.specs.declared.steps.AfterTest.TheVariants as tested
use Rattle.sqlx_pool_core.specs.Chain.{Tests}
use Rattle.sqlx_pool_lists.specs.declared.steps.Lent.{Lent}
use Rattle.sqlx_pool_lists.specs.declared.steps.Idle.{Idle}
use Rattle.sqlx_pool_lists.specs.declared.steps.Start.{Start}
use Rattle.sqlx_pool_lists.specs.declared.steps.Start.TheVariants as start
use Rattle.sqlx_pool_lists.specs.declared.steps.Verdict.{Verdict}
use Rattle.sqlx_pool_lists.specs.declared.steps.Verdict.TheVariants as verdict
use Rattle.sqlx_pool_lists.specs.declared.steps.Polled.{Polled}
use Rattle.sqlx_pool_lists.specs.declared.steps.Polled.TheVariants as polled
use Rattle.sqlx_pool_lists.specs.Core.{Core, resting, ticket_of}
use Rattle.sqlx_pool_lists.specs.Edits.{core_without_ticket, lent_to, with_ticket, to_connect}
use Rattle.sqlx_pool_lists.specs.Makes.{Makes}
use Rattle.sqlx_pool_marks.specs.Marks.{tickets_of}
use Rattle.sqlx_pool_marks.specs.Counts.{asked_in}
use Rattle.sqlx_pool_lists.specs.CoreTurn.{core_turn}
use Rattle.sqlx_pool_lists.specs.Sound.{IsNumbered}
use Rattle.sqlx_pool_lists.specs.StandsFor.{StandsFor}
use Rattle.sqlx_pool_lists.specs.PollSteps.{phase_for, start_answer, start_marks, started, wait_of, lent_since, may_test_next, after_refusal, test_marks, after_test}
use Rattle.sqlx_pool_lists.specs.PollSteps as steps
use Rattle.sqlx_pool_core.specs.declared.idle_check.Opening.{Opening}
use Rattle.sqlx_pool_core.specs.declared.idle_check.Opening.TheVariants as opening
use Rattle.sqlx_pool_core.specs.Walk.{Test, Connect, first, then_by, last, judges, tells, Connects, Goes, Polls}
use Rattle.sqlx_script.specs.declared.answers.ConnectAnswer.{ConnectAnswer}
use Rattle.sqlx_script.specs.declared.answers.ConnectAnswer.TheVariants as letter
use Rattle.sqlx_script.specs.declared.answers.PollAnswers.{PollAnswers}
use Rattle.sqlx_script.specs.declared.pool_line.PoolLine.{PoolLine}
use Rattle.sqlx_script.specs.declared.step.Step.TheVariants.{Poll}
use Rattle.sqlx_script.specs.declared.reply.Reply.{Reply}
use Rattle.sqlx_script.specs.declared.reply.Reply.TheVariants as reply
use Rattle.mem_store.specs.Store.{Link, Store, closed_at}
use Rattle.sqlx_text.specs.declared.out_of_memory.OutOfMemory.{OutOfMemory}
use Rattle.sqlx_savepoints.specs.Changes.{History}
use Rattle.sqlx_play.specs.declared.outside.ScriptOutside.{ScriptOutside}
use Rattle.sqlx_play.specs.stage.Scene.{Scene}
use Rattle.sqlx_script_rules.specs.Answer.{answer, passes_test, refused_tests, conn_at, passing_of, idle_reply, connect_reply, poll_reply}
use Rattle.sqlx_play.specs.events.PlaysEvent.{PlaysEvent}
use Rattle.sqlx_play.specs.outside.PolledReply.{refusal_reply, reply_of, owned_after}
use Rattle.sqlx_play.specs.events.ConnectByReply.{connect_marks, after_connect}
use Rattle.sqlx_play.specs.outside.ScriptCalls.{Does, is_passing}
use Rattle.sqlx_script_rules.specs.ScriptLevels.{gone_by, history_of}
use Rattle.sqlx_script_rules.specs.ScriptMarks.{marks_of, refusing, waits}
use Rattle.sqlx_play.specs.outside.ScriptOutside.{depth_of, poll_letters, refused_by, refusal_of}
use Rattle.sqlx_play.specs.stage.LinksStand.{LinksStand, IsRestingLink}
use Rattle.sqlx_play.specs.stage.StageStands.{IsSetUp, IsTried, StageStands}
use Rattle.sqlx_script_rules.specs.Tries.{tries_of}
use Rattle.sqlx_script_rules.specs.Pairs.{Pairs}
use Rattle.sqlx_play.proofs.links.LinksSame.{links-same, links-as}
use Rattle.sqlx_play.proofs.links.LinksMoves.{links-opened, links-rejected}
use Rattle.sqlx_script_rules.proofs.Pairs.{tries_of-push}
use Rattle.sqlx_play.proofs.asks.CancelAndTry.{stays-standing, ends-standing}
use Rattle.sqlx_play.proofs.polls.PollTurns.{at-test, at-connect, at-backoff}
use Rattle.sqlx_play.proofs.polls.PollMarks.{leaving, leaving-connect}
use Rattle.sqlx_play.proofs.polls.PollReplies.{connecting, poll-reply}
use Rattle.sqlx_play.proofs.polls.Polls.{pair_of, Connecting, connect-stands, at-connect-connects}
use Rattle.sqlx_play.proofs.polls.PollTests.{Testing, first-test, next-test, refused-connects, tested-stands}
use Rattle.sqlx_play.proofs.polls.PollPlays.{early-stands}
use Rattle.sqlx_play.proofs.polls.ScriptChain.{is_ready, Tried, opened, refused_hook, passing, failed, tested-told, tried-told, tried-answering}

-- a stage that is equal part by part stands for the same
stands-as : (one two : Scene) (pairs : Pairs) → two.core ≡ one.core → two.out.store ≡ one.out.store → two.lent.items ≡ one.lent.items → two.pool ≡ one.pool → StageStands one pairs → StageStands two pairs
stands-as one two pairs core store items pool s =
    record {
      stands = subst (λ (p : PoolLine). StandsFor two.core (marks_of p pairs)) (sym pool) (subst (λ (n : Core Link). StandsFor n (marks_of one.pool pairs)) (sym core) s.stands);
      set_up = subst (λ (p : PoolLine). IsSetUp p two.core.options) (sym pool) (subst (λ (n : Core Link). IsSetUp one.pool n.options) (sym core) s.set_up);
      places = ap (λ (n : Core Link). n.places) core ∙ s.places;
      tried = subst (λ (n : Core Link). All (IsTried pairs) n.tickets) (sym core) s.tried;
      untried = λ t h. s.untried t (subst (λ (n : Core Link). n.next_ticket ≤ t) core h);
      links = subst (λ (p : PoolLine). LinksStand two.core two.out.store two.lent.items (history_of p pairs)) (sym pool)
          (links-as one.core two.core one.out.store two.out.store one.lent.items two.lent.items (history_of one.pool pairs) core store items s.links);
    }

same-reply : (a b : Reply) → Some a ≡ Some b → a ≡ b
same-reply a b e = cc

no-reply : (b : Reply) → None ≡ Some b → ⊥
no-reply b e = cc

-- the first of those that may be tested
first-of : (n : ℕ) → 1 ≤ n → (first : IdleEntry) (rest : List IdleEntry) → conn_at 0 (take n (first ∷ rest)) ≡ Some first.conn
first-of zero some first rest = absurd (omega (arith, some))
first-of (suc n) some first rest = refl

-- behind a refused test the letters refuse one less
fewer : (passes : Bool) (j : ℕ) → (cond {A = ℕ} passes 0 j == 0) ≡ false → cond {A = ℕ} passes 0 j ≡ suc (cond {A = ℕ} passes 0 (j - 1))
fewer true j e = absurd cc
fewer false zero e = absurd cc
fewer false (suc j) e = omega arith

closed-marks : (front : List Mark) (c : ℕ) (later : List Mark) → (front ++ mark.Taken c ∷ []) ++ (mark.Closed c ∷ later) ≡ (front ++ mark.Taken c ∷ mark.Closed c ∷ []) ++ later
closed-marks front c later = append_assoc front (mark.Taken c ∷ []) (mark.Closed c ∷ later) ∙ sym (append_assoc front (mark.Taken c ∷ mark.Closed c ∷ []) later)

next-marks : (front : List Mark) (c d : ℕ) (later : List Mark)
    → (front ++ mark.Taken c ∷ []) ++ (mark.Closed c ∷ mark.Taken d ∷ later) ≡ ((front ++ mark.Taken c ∷ mark.Closed c ∷ []) ++ mark.Taken d ∷ []) ++ later
next-marks front c d later = closed-marks front c (mark.Taken d ∷ later) ∙ sym (append_assoc (front ++ mark.Taken c ∷ mark.Closed c ∷ []) (mark.Taken d ∷ []) later)

module _ (stage new : Scene) (moment : Moment) (k t : ℕ) (answers : PollAnswers) (out : ScriptOutside) (few : stage.core.next_conn ≤ 2 ^ 63) (sound : IsNumbered stage.core)
    (letters : poll_letters out ≡ answers) (none : out.opens ≡ 0) (left : out.left_open ≡ None) (store : out.store ≡ stage.out.store) (pool : new.pool ≡ stage.pool)
    (got : Polled Link) (r : Reply) (replied : reply_of got ≡ Some r) (owned : new.lent.items ≡ owned_after got stage.lent.items) (pairs : Pairs) (s : StageStands stage pairs) where
  marks : List Mark
  marks = marks_of stage.pool pairs

  -- the reply is the answer, and the stage stands for the pair
  abbrev Is : Reply → Type 0
  Is x = (x ≡ poll_reply stage.pool answers (marks_of stage.pool pairs) moment.0 (tries_of t pairs) (asked_in k t (tickets_of (marks_of stage.pool pairs)))) × StageStands new (pairs ++ pair_of moment k t answers x ∷ [])

  abbrev Made : List Mark → Type 0
  Made l = Makes stage.core.options.max_connections (marks_of stage.pool pairs) l new.core

  told : (a : Polled Link) (x : Reply) → got ≡ a → reply_of a ≡ Some x → Is x → Is r
  told a x is by = subst Is (same-reply x r (sym by ∙ sym (ap reply_of is) ∙ replied))

  plain : (a : Polled Link) (x : Reply) → got ≡ a → owned_after a stage.lent.items ≡ stage.lent.items → new.out ≡ out → StageStands (record stage { core = new.core }) (pairs ++ pair_of moment k t answers x ∷ []) → StageStands new (pairs ++ pair_of moment k t answers x ∷ [])
  plain a x is kept same =
      stands-as (record stage { core = new.core }) new _ refl (ap (λ (o : ScriptOutside). o.store) same ∙ store) (owned ∙ ap (λ (p : Polled Link). owned_after p stage.lent.items) is ∙ kept) pool

  -- ---- a connect

  module _ (mid : Core Link) (midout : ScriptOutside) (made : List Mark) (c : Connecting stage (record stage { core = mid; out = midout }) pairs k t moment.0 made)
      (calls : connecting stage pairs s k t moment.0 answers few (ticket_of k t stage.core.tickets) ≡ poll_reply stage.pool answers (marks_of stage.pool pairs) moment.0 (tries_of t pairs) (asked_in k t (tickets_of (marks_of stage.pool pairs)))) where
    abbrev until : ℕ
    until = moment.0 + wait_of c.y

    abbrev past : History
    past = gone_by made (history_of stage.pool pairs)

    connect_is : connect_reply stage.pool answers mid.next_conn until answers.connect ≡ connecting stage pairs s k t moment.0 answers few (ticket_of k t stage.core.tickets)
    connect_is =
        (λ i. connect_reply stage.pool answers (c.next_conn i) (sym c.trying.until i) answers.connect)
        ∙ sym (ap (connecting stage pairs s k t moment.0 answers few) c.found)

    -- the event, by the reply
    replies : (a : Polled Link) (x : Reply) → got ≡ a → reply_of a ≡ Some x → x ≡ connect_reply stage.pool answers mid.next_conn until answers.connect
        → Made (made ++ connect_marks k t moment.0 x) → new.core ≡ after_connect k t moment x mid → LinksStand new.core new.out.store new.lent.items past → Is r
    replies a x polled_is by is makes becomes links =
        told a x polled_is by (is ∙ connect_is ∙ calls, connect-stands stage (record stage { core = mid; out = midout }) new pairs moment k t answers made s sound c x is makes becomes links pool)

    by_letter : (l : ConnectAnswer) → answers.connect ≡ l → connect_reply stage.pool answers mid.next_conn until answers.connect ≡ connect_reply stage.pool answers mid.next_conn until l
    by_letter l e = ap (connect_reply stage.pool answers mid.next_conn until) e

    ready : (b : Bool) → is_ready mid.options.after_connect answers ≡ b → cond b (reply.Ready mid.next_conn) (reply.Backoff until) ≡ connect_reply stage.pool answers mid.next_conn until letter.Connected
    ready b e = ap (λ (d : Bool). cond d (reply.Ready mid.next_conn) (reply.Backoff until)) (sym e ∙ (λ i. is_ready (hook i) answers))
      where
        hook : mid.options.after_connect ≡ stage.pool.after_connect
        hook = ap (λ (o : PoolOptions). o.after_connect) c.options ∙ s.set_up.after_connect

    abbrev Ended : Opening Link → List Mark → Type 0
    Ended o later = (got ≡ last (tells moment.0 c.y mid o) o) × (new.core ≡ steps.after_connect k t moment.0 (tells moment.0 c.y mid o) mid) × (later ≡ steps.connect_marks k t moment.0 (tells moment.0 c.y mid o))

    kept_links : (core : Core Link) → new.core ≡ core → core.held ≡ mid.held → core.idle ≡ mid.idle → core.next_conn ≡ mid.next_conn → new.out.store ≡ midout.store → new.lent.items ≡ stage.lent.items → LinksStand new.core new.out.store new.lent.items past
    kept_links core becomes held idle next same items = links-as core new.core midout.store new.out.store stage.lent.items new.lent.items past becomes same items (links-same mid core midout.store stage.lent.items past c.links held idle next)

    failed_by : (e : Error) (l : ConnectAnswer) (o : Option ConnectAnswer) (later : List Mark) → answers.connect ≡ l → is_passing l ≡ false → refused_by e ≡ o → o ≡ refusal_of l → new.out.store ≡ midout.store → Made (made ++ later) → Ended (opening.Failed e) later → Is r
    failed_by e letter.Connected o later is p refused by same makes end = absurd (no-reply r (sym (ap refusal_reply (refused ∙ by)) ∙ sym (ap reply_of end.0) ∙ replied))
    failed_by e letter.Transient o later is p refused by same makes end = absurd cc
    failed_by e letter.ConnectIo o later is p refused by same makes end =
        replies (polled.Refused e) reply.Io end.0 (ap refusal_reply (refused ∙ by)) (sym (by_letter letter.ConnectIo is)) (subst (λ (l : List Mark). Made (made ++ l)) end.2 makes) end.1
        (kept_links _ end.1 refl refl refl same (owned ∙ ap (λ (p : Polled Link). owned_after p stage.lent.items) end.0))
    failed_by e letter.ConnectDatabase o later is p refused by same makes end =
        replies (polled.Refused e) reply.DatabaseRefused end.0 (ap refusal_reply (refused ∙ by)) (sym (by_letter letter.ConnectDatabase is)) (subst (λ (l : List Mark). Made (made ++ l)) end.2 makes) end.1
        (kept_links _ end.1 refl refl refl same (owned ∙ ap (λ (p : Polled Link). owned_after p stage.lent.items) end.0))

    by_opening : (o : Opening Link) (later : List Mark) → Tried mid.options.after_connect answers midout new.out o → Made (made ++ later) → Ended o later → Is r
    by_opening o later (opened connects good same) makes end =
        replies _ (reply.Ready mid.next_conn) end.0 refl (ready true good ∙ sym (by_letter letter.Connected connects)) (subst (λ (l : List Mark). Made (made ++ l)) end.2 makes) end.1
        (links-as _ new.core _ new.out.store _ new.lent.items past end.1 same (owned ∙ ap (λ (p : Polled Link). owned_after p stage.lent.items) end.0)
        (links-same _ _ _ _ past (links-opened mid midout.store stage.lent.items past c.links k moment) refl refl refl))
    by_opening o later (refused_hook connects bad same) makes end =
        replies _ (reply.Backoff until) end.0 refl (ready false bad ∙ sym (by_letter letter.Connected connects)) (subst (λ (l : List Mark). Made (made ++ l)) end.2 makes) end.1
        (links-as _ new.core _ new.out.store _ new.lent.items past end.1 same (owned ∙ ap (λ (p : Polled Link). owned_after p stage.lent.items) end.0)
        (links-same _ _ _ _ past (links-rejected mid midout.store stage.lent.items past c.links) refl refl refl))
    by_opening o later (passing connects same) makes end =
        replies _ (reply.Backoff until) end.0 refl (sym (by_letter letter.Transient connects)) (subst (λ (l : List Mark). Made (made ++ l)) end.2 makes) end.1
        (kept_links _ end.1 refl refl refl same (owned ∙ ap (λ (p : Polled Link). owned_after p stage.lent.items) end.0))
    by_opening o later (failed e is never same) makes end = failed_by e answers.connect (refused_by e) later refl never refl is same makes end

    -- the event, where a connect follows
    connects-so : (j : ℕ) (later : List Mark) → poll_letters midout ≡ answering answers j → midout.opens ≡ 0 → Connects {O = Unit {0}} Does depth_of tt k t moment.0 mid new.core midout new.out got later → Made (made ++ later) → Is r
    connects-so j later letters_now none_now n makes =
        let same : n.x ≡ c.y = one_ticket n.x c.y (sym n.found ∙ c.found_now) in
        by_opening n.opening later (tried-answering mid.options.after_connect answers j midout new.out n.opening (tried-told (answering answers j) mid.options.after_connect n.opening midout new.out letters_now none_now n.tries)) makes
        (subst (λ (x : Ticket). (got ≡ last (tells moment.0 x mid n.opening) n.opening) × (new.core ≡ steps.after_connect k t moment.0 (tells moment.0 x mid n.opening) mid) × (later ≡ steps.connect_marks k t moment.0 (tells moment.0 x mid n.opening))) same (n.answer, n.becomes, n.marks))
      where
        one_ticket : (a b : Ticket) → Some a ≡ Some b → a ≡ b
        one_ticket a b e = cc

  -- ---- tests, one behind another

  abbrev passes_now : Option ℕ
  passes_now = passing_of stage.pool answers (map resting stage.core.idle)

  abbrev otherwise : Reply
  otherwise = connecting stage pairs s k t moment.0 answers few (ticket_of k t stage.core.tickets)

  abbrev told_reply : Reply
  told_reply = poll_reply stage.pool answers (marks_of stage.pool pairs) moment.0 (tries_of t pairs) (asked_in k t (tickets_of (marks_of stage.pool pairs)))

  -- the last test that may be was refused
  refused-so : idle_reply passes_now otherwise ≡ told_reply → (vs : List (Verdict Link)) (n j j' : ℕ) (i : Idle Link) (rest : List (Idle Link)) (core : Core Link) (old between : ScriptOutside) (front later : List Mark)
      → Testing stage pairs k t moment.0 answers core old.store i rest front n j
      → refusing (take n (map resting (i ∷ rest))) ≡ mark.Taken i.lent.id ∷ mark.Closed i.lent.id ∷ [] → passes_now ≡ None
      → between.store ≡ closed_at i.lent.raw.depth old.store → poll_letters between ≡ answering answers j' → between.opens ≡ 0
      → Goes {O = Unit {0}} Does depth_of tt k t moment.0 vs Connect (record core { tickets = with_ticket t to_connect core.tickets }) new.core between new.out got later
      → Made ((front ++ mark.Taken i.lent.id ∷ mark.Closed i.lent.id ∷ []) ++ later) → Is r
  refused-so calls (v ∷ vs) n j j' i rest core old between front later tests all none_passes closed letters_now none_now g makes = absurd g
  refused-so calls [] n j j' i rest core old between front later tests all none_passes closed letters_now none_now g makes =
      let mid : Core Link = record core { tickets = with_ticket t to_connect core.tickets } in
      connects-so mid between (front ++ mark.Taken i.lent.id ∷ mark.Closed i.lent.id ∷ [])
      (refused-connects stage pairs k t moment.0 answers s core old.store i front rest n j tests sound all (record stage { core = mid; out = between }) refl closed refl refl)
      (ap (λ (o : Option ℕ). idle_reply o otherwise) (sym none_passes) ∙ calls) j' later letters_now none_now g makes

  module _ (n j : ℕ) (i : Idle Link) (rest : List (Idle Link)) (core : Core Link) (old : ScriptOutside) (front : List Mark) (tests : Testing stage pairs k t moment.0 answers core old.store i rest front n j) where
    set : IsSetUp stage.pool core.options
    set = subst (IsSetUp stage.pool) (sym (ap (λ (c : Core Link). c.options) tests.core_is)) s.set_up

    resting_link : i.lent.raw.depth ≡ 0
    resting_link = (All-head (λ (h : Idle Link). IsRestingLink (linked_after (gone_by front (history_of stage.pool pairs))) h.lent.id h.lent.raw) i rest tests.links.idle_links).rests

    phase_now : phase_for k t core.tickets ≡ Some (phase.Testing i.lent.id i.lent.created tests.before)
    phase_now =
        ap (λ (c : Core Link). phase_for k t c.tickets) tests.core_is
        ∙ ap (option_map (λ (x : Ticket). x.phase)) (ticket-changed k t tests.change stage.core.tickets tests.x tests.keeps tests.found)
        ∙ ap Some tests.phase_is

    -- what the pool does behind a refused test
    judged : (c : ℕ) (b : Bool) → nat_lt (tests.before + 1) stage.pool.tries ≡ b → judges k t core i (verdict.Refused c) ≡ after_refusal b rest
    judged c b e =
        (λ h. after_refusal (may_test_next (set.tries h) (phase_now h)) (ap (λ (d : Core Link). d.idle) tests.core_is h))
        ∙ ap (λ (d : Bool). after_refusal d rest) e

    -- the connection passes
    accepted-so : idle_reply passes_now otherwise ≡ told_reply → (lent : Lent Link) (between : ScriptOutside) (later later' : List Mark) → poll_letters old ≡ answering answers j → old.left_open ≡ None
        → Tests {O = Unit {0}} Does depth_of core.options moment.0 i (verdict.Accepted lent) old between → later ≡ mark.Lent k i.lent.id ∷ mark.Ended t ∷ later'
        → (got ≡ polled.Ready (lent_since i.lent.created lent)) × (later' ≡ []) × (new.core ≡ core_without_ticket t (lent_to k lent.id i.lent.created core)) × (new.out ≡ between)
        → Made ((front ++ mark.Taken i.lent.id ∷ []) ++ later) → Is r
    accepted-so calls lent between later later' letters_now left_now chain is end makes =
        let told_is = tested-told (answering answers j) core.options moment.0 i (verdict.Accepted lent) old between letters_now chain in
        let given : got ≡ polled.Ready i.lent = end.0 ∙ ap (λ (l : Lent Link). polled.Ready (lent_since i.lent.created l)) told_is.lent in
        let zero_refused : refused_tests stage.pool (answering answers j) ≡ 0 = eqb-true (refused_tests stage.pool (answering answers j)) 0 (sym (told_is.passes left_now stage.pool set resting_link)) in
        let passes : passes_now ≡ Some i.lent.id = tests.place ∙ ap (λ (q : ℕ). conn_at q (take n (map resting (i ∷ rest)))) zero_refused ∙ first-of n tests.some (resting i) (map resting rest) in
        told (polled.Ready i.lent) (reply.Ready i.lent.id) given refl (
          ap (λ (o : Option ℕ). idle_reply o otherwise) (sym passes) ∙ calls,
          tested-stands stage new pairs moment k t answers s core old.store i rest front n j tests
              (end.2 ∙ ap (λ (l : Lent Link). core_without_ticket t (lent_to k l.id i.lent.created core)) told_is.lent)
              (ap (λ (o : ScriptOutside). o.store) end.3 ∙ told_is.store) (owned ∙ ap (λ (p : Polled Link). owned_after p stage.lent.items) given) pool
              (subst (λ (l : List Mark). Made ((front ++ mark.Taken i.lent.id ∷ []) ++ l)) (is ∙ ap (λ (l : List Mark). mark.Lent k i.lent.id ∷ mark.Ended t ∷ l) end.1) makes),
        )

  tests-so : idle_reply passes_now otherwise ≡ told_reply → (vs : List (Verdict Link)) (n j : ℕ) (i : Idle Link) (rest : List (Idle Link)) (core : Core Link) (old : ScriptOutside) (front later : List Mark)
      → Testing stage pairs k t moment.0 answers core old.store i rest front n j → poll_letters old ≡ answering answers j → old.opens ≡ 0 → old.left_open ≡ None
      → Goes {O = Unit {0}} Does depth_of tt k t moment.0 vs (Test i) core new.core old new.out got later → Made ((front ++ mark.Taken i.lent.id ∷ []) ++ later) → Is r
  tests-so calls [] n j i rest core old front later tests letters_now none_now left_now g makes = absurd g
  tests-so calls (verdict.Accepted lent ∷ []) n j i rest core old front later tests letters_now none_now left_now g makes =
      accepted-so n j i rest core old front tests calls lent g.0 later g.1.0 letters_now left_now g.1.1.0 g.1.1.1 g.1.1.2 makes
  tests-so calls (verdict.Accepted lent ∷ v ∷ vs) n j i rest core old front later tests letters_now none_now left_now g makes = absurd g.1.1.2
  tests-so calls (verdict.Refused c ∷ vs) zero j i rest core old front later tests letters_now none_now left_now g makes = absurd (let some = tests.some in omega (arith, some))
  tests-so calls (verdict.Refused c ∷ vs) (suc zero) j i rest core old front later tests letters_now none_now left_now g makes =
      let told_is = tested-told (answering answers j) core.options moment.0 i (verdict.Refused c) old g.0 letters_now g.1.1.0 in
      let less = fewer (passes_test stage.pool answers) j (sym (told_is.passes left_now stage.pool (set (suc zero) j i rest core old front tests) (resting_link (suc zero) j i rest core old front tests))) in
      let over : judges k t core i (verdict.Refused c) ≡ tested.Connect = judged (suc zero) j i rest core old front tests c false (let all = tests.tries in le-ltb (tests.before + 1) stage.pool.tries (omega (arith, all))) in
      refused-so calls vs (suc zero) j (j - 1) i rest core old g.0 front g.1.0 tests refl
      (tests.place ∙ ap (λ (q : ℕ). conn_at q (take (suc zero) (map resting (i ∷ rest)))) less)
      told_is.store told_is.letters (told_is.opens ∙ none_now)
      (subst (λ (a : AfterTest Link). Goes {O = Unit {0}} Does depth_of tt k t moment.0 vs (then_by a) (after_test k t a core) new.core g.0 new.out got g.1.0) over g.1.1.2)
      (subst Made (ap (λ (l : List Mark). (front ++ mark.Taken i.lent.id ∷ []) ++ l) (g.1.1.1 ∙ ap (λ (a : AfterTest Link). test_marks k t i.lent.id a ++ g.1.0) over) ∙ closed-marks front i.lent.id g.1.0) makes)
  tests-so calls (verdict.Refused c ∷ vs) (suc (suc n)) j i [] core old front later tests letters_now none_now left_now g makes =
      let told_is = tested-told (answering answers j) core.options moment.0 i (verdict.Refused c) old g.0 letters_now g.1.1.0 in
      let less = fewer (passes_test stage.pool answers) j (sym (told_is.passes left_now stage.pool (set (suc (suc n)) j i [] core old front tests) (resting_link (suc (suc n)) j i [] core old front tests))) in
      let over : judges k t core i (verdict.Refused c) ≡ tested.Connect = judged (suc (suc n)) j i [] core old front tests c true (let all = tests.tries in lt-ltb (tests.before + 1) stage.pool.tries (omega (arith, all))) in
      refused-so calls vs (suc (suc n)) j (j - 1) i [] core old g.0 front g.1.0 tests refl
      (tests.place ∙ ap (λ (q : ℕ). conn_at q (take (suc (suc n)) (map resting (i ∷ [])))) less)
      told_is.store told_is.letters (told_is.opens ∙ none_now)
      (subst (λ (a : AfterTest Link). Goes {O = Unit {0}} Does depth_of tt k t moment.0 vs (then_by a) (after_test k t a core) new.core g.0 new.out got g.1.0) over g.1.1.2)
      (subst Made (ap (λ (l : List Mark). (front ++ mark.Taken i.lent.id ∷ []) ++ l) (g.1.1.1 ∙ ap (λ (a : AfterTest Link). test_marks k t i.lent.id a ++ g.1.0) over) ∙ closed-marks front i.lent.id g.1.0) makes)
  tests-so calls (verdict.Refused c ∷ vs) (suc (suc n)) j i (h ∷ rest) core old front later tests letters_now none_now left_now g makes =
      let told_is = tested-told (answering answers j) core.options moment.0 i (verdict.Refused c) old g.0 letters_now g.1.1.0 in
      let less = fewer (passes_test stage.pool answers) j (sym (told_is.passes left_now stage.pool (set (suc (suc n)) j i (h ∷ rest) core old front tests) (resting_link (suc (suc n)) j i (h ∷ rest) core old front tests))) in
      let goes_on : judges k t core i (verdict.Refused c) ≡ tested.Test h = judged (suc (suc n)) j i (h ∷ rest) core old front tests c true (let all = tests.tries in lt-ltb (tests.before + 1) stage.pool.tries (omega (arith, all))) in
      tests-so calls vs (suc n) (j - 1) h rest (after_test k t (tested.Test h) core) g.0 (front ++ mark.Taken i.lent.id ∷ mark.Closed i.lent.id ∷ []) g.1.0
      (next-test stage pairs k t moment.0 answers s core old.store i front h rest n j (j - 1) tests less g.0.store told_is.store)
      told_is.letters (told_is.opens ∙ none_now) (told_is.left refl left_now)
      (subst (λ (a : AfterTest Link). Goes {O = Unit {0}} Does depth_of tt k t moment.0 vs (then_by a) (after_test k t a core) new.core g.0 new.out got g.1.0) goes_on g.1.1.2)
      (subst Made (ap (λ (l : List Mark). (front ++ mark.Taken i.lent.id ∷ []) ++ l) (g.1.1.1 ∙ ap (λ (a : AfterTest Link). test_marks k t i.lent.id a ++ g.1.0) goes_on) ∙ next-marks front i.lent.id h.lent.id g.1.0) makes)

  -- ---- the whole poll

  by : (begun : Start Link) → begun ≡ start_answer (core_turn stage.core k t moment.0) stage.core.idle → (verdicts : List (Verdict Link)) (later : List Mark)
      → Goes {O = Unit {0}} Does depth_of tt k t moment.0 verdicts (first begun) (started t moment.0 begun stage.core) new.core out new.out got later
      → Made (start_marks t (phase_for k t stage.core.tickets) begun ++ later) → Is r
  by start.NotHeld own [] later g makes =
      told polled.NotHeld reply.NotHeld g.0 refl (
        poll-reply stage pairs s k t moment.0 answers few start.NotHeld own,
        plain polled.NotHeld reply.NotHeld g.0 refl g.3 (stays-standing stage pairs (pair_of moment k t answers reply.NotHeld) s (λ u. tries_of-push u pairs (pair_of moment k t answers reply.NotHeld)) refl new.core g.2 refl),
      )
  by start.Waiting own [] later g makes =
      told polled.Waiting reply.Waiting g.0 refl (
        poll-reply stage pairs s k t moment.0 answers few start.Waiting own,
        plain polled.Waiting reply.Waiting g.0 refl g.3 (stays-standing stage pairs (pair_of moment k t answers reply.Waiting) s (λ u. tries_of-push u pairs (pair_of moment k t answers reply.Waiting)) refl new.core g.2 refl),
      )
  by start.Closed own [] later g makes =
      told polled.Closed reply.PoolClosed g.0 refl (
        poll-reply stage pairs s k t moment.0 answers few start.Closed own,
        plain polled.Closed reply.PoolClosed g.0 refl g.3 (ends-standing stage pairs (pair_of moment k t answers reply.PoolClosed) s (λ u. tries_of-push u pairs (pair_of moment k t answers reply.PoolClosed)) refl new.core t moment.0 g.2 refl
            (subst (λ (l : List Mark). Made (mark.Ended t ∷ l)) g.1 makes)),
      )
  by start.TimedOut own [] later g makes =
      told polled.TimedOut reply.PoolTimedOut g.0 refl (
        poll-reply stage pairs s k t moment.0 answers few start.TimedOut own,
        plain polled.TimedOut reply.PoolTimedOut g.0 refl g.3 (ends-standing stage pairs (pair_of moment k t answers reply.PoolTimedOut) s (λ u. tries_of-push u pairs (pair_of moment k t answers reply.PoolTimedOut)) refl new.core t moment.0 g.2 refl
            (subst (λ (l : List Mark). Made (mark.Ended t ∷ l)) g.1 makes)),
      )
  by (start.Backoff due) own [] later g makes =
      told (polled.Backoff due) (reply.Backoff due) g.0 refl (
        poll-reply stage pairs s k t moment.0 answers few (start.Backoff due) own,
        plain (polled.Backoff due) (reply.Backoff due) g.0 refl g.3 (early-stands stage new.core pairs moment k t due answers s (at-backoff stage.core k t moment.0 due own) g.2),
      )
  by start.Exhausted own [] later g makes = absurd (no-reply r (sym (ap reply_of g.0) ∙ replied))
  by start.Connect own [] later g makes =
      let a = at-connect stage.core k t moment.0 own in
      connects-so (started t moment.0 start.Connect stage.core) out (leaving t (waits k t (marks_of stage.pool pairs)))
      (at-connect-connects stage (record stage { core = started t moment.0 start.Connect stage.core; out = out }) pairs k t moment.0 s sound a refl store refl refl)
      (poll-reply stage pairs s k t moment.0 answers few start.Connect own) answers.tests later letters none g
      (subst (λ (l : List Mark). Made (l ++ later)) (leaving-connect stage.core (marks_of stage.pool pairs) k t s.stands moment.0 a) makes)
  by (start.Test i) own vs later g makes =
      let a = at-test stage.core k t moment.0 i own in
      let many : 1 ≤ stage.pool.tries = subst (λ (n : ℕ). 1 ≤ n) s.set_up.tries sound.tries in
      tests-so (poll-reply stage pairs s k t moment.0 answers few (start.Test i) own) vs stage.pool.tries answers.tests i a.rest (started t moment.0 (start.Test i) stage.core) out (mark.Left t ∷ []) later
      (subst (λ (x : Store). Testing stage pairs k t moment.0 answers (started t moment.0 (start.Test i) stage.core) x i a.rest (mark.Left t ∷ []) stage.pool.tries answers.tests) (sym store)
      (first-test stage pairs k t moment.0 answers s sound many i a)) letters none left g makes
  by start.NotHeld own (v ∷ vs) later g makes = absurd g
  by start.Waiting own (v ∷ vs) later g makes = absurd g
  by start.Closed own (v ∷ vs) later g makes = absurd g
  by start.TimedOut own (v ∷ vs) later g makes = absurd g
  by (start.Backoff until) own (v ∷ vs) later g makes = absurd g
  by start.Exhausted own (v ∷ vs) later g makes = absurd g
  by start.Connect own (v ∷ vs) later g makes = absurd g

-- a poll of the pool over the outside of a script plays the event
pub polled-plays : (stage new : Scene) (moment : Moment) (k t m : ℕ) (answers : PollAnswers) (out : ScriptOutside) → stage.core.next_conn ≤ 2 ^ 63 → IsNumbered stage.core
    → poll_letters out ≡ answers → out.opens ≡ 0 → out.left_open ≡ None → out.store ≡ stage.out.store → new.pool ≡ stage.pool → m ≡ moment.0
    → (got : Polled Link) → Polls {O = Unit {0}} Does depth_of tt k t m stage.core new.core out new.out got
    → (r : Result Reply OutOfMemory) → IfOk r (λ x. reply_of got ≡ Some x) → OnOk r (new.lent.items ≡ owned_after got stage.lent.items)
    → IfOk r (PlaysEvent stage new (record { moment = moment; step = Poll k t answers }))
unfolding answer
polled-plays stage new moment k t m answers out few sound letters none left store pool at got p (Ok r) replied owned = λ pairs s.
    let w = subst (λ (n : ℕ). Polls {O = Unit {0}} Does depth_of tt k t n stage.core new.core out new.out got) at p in
    by stage new moment k t answers out few sound letters none left store pool got r replied owned pairs s w.begun w.step w.verdicts w.later w.goes (w.makes (marks_of stage.pool pairs) s.stands)
polled-plays stage new moment k t m answers out few sound letters none left store pool at got p (Err e) replied owned = tt
