-- A poll that tests idle connections, from one test to the next.
use Rattle.std.proofs.Common.{◌≡◌, ℕ, suc, ◌+◌, ◌≤◌, ◌==◌, ◌||◌, Bool, true, false, cond, List, [], ◌∷◌, ◌++◌, drop, map, take, count_by, Some, None, All, refl, sym, ap, subst, ◌∙◌, arith, append_assoc}
use Rattle.sqlx_text.specs.declared.Moment.{Moment}
use Rattle.sqlx_pool_marks.specs.declared.mark.Mark.{Mark}
use Rattle.sqlx_pool_marks.specs.declared.mark.Mark.TheVariants as mark
use Rattle.sqlx_pool_marks.specs.Marks.{IdleEntry}
use Rattle.sqlx_pool_marks.proofs.ListFacts.{same_number, list_any-map, count_by-cons, or-true}
use Rattle.sqlx_pool_marks.proofs.SoundViews.{any-counts}
use Rattle.sqlx_pool_lists.specs.declared.ticket.Ticket.{Ticket}
use Rattle.sqlx_pool_lists.specs.declared.ticket.Phase.{Phase}
use Rattle.sqlx_pool_lists.specs.declared.ticket.Phase.TheVariants as phase
use Rattle.sqlx_pool_lists.specs.declared.steps.Idle.{Idle}
use Rattle.sqlx_pool_lists.specs.declared.steps.Start.TheVariants as start
use Rattle.sqlx_pool_lists.specs.declared.steps.AfterTest.TheVariants as tested
use Rattle.sqlx_pool_lists.specs.Core.{Core, resting, ticket_of}
use Rattle.sqlx_pool_lists.specs.Edits.{core_without_ticket, lent_to, core_without_first, with_ticket, to_test, to_next, tested_so_far, to_connect, at_moment}
use Rattle.sqlx_pool_lists.specs.Sound.{IsNumbered, holds, rests}
use Rattle.sqlx_pool_lists.specs.PollSteps.{started, after_test}
use Rattle.sqlx_pool_lists.specs.Makes.{Makes}
use Rattle.sqlx_pool_core.proofs.Known.{KeepsOwner, ticket-changed, ticket-number, gone-changed}
use Rattle.mem_store.specs.Store.{Link, Store, closed_at}
use Rattle.sqlx_script.specs.declared.answers.PollAnswers.{PollAnswers}
use Rattle.sqlx_script.specs.declared.reply.Reply.{Reply}
use Rattle.sqlx_script.specs.declared.reply.Reply.TheVariants as reply
use Rattle.sqlx_script.specs.declared.step.Event.{Event}
use Rattle.sqlx_script.specs.Letters.{answering}
use Rattle.sqlx_savepoints.specs.Changes.{History, leaves}
use Rattle.sqlx_script_rules.specs.Answer.{refused_tests, conn_at, passing_of}
use Rattle.sqlx_script_rules.specs.ScriptMarks.{marks_of, is_among, refusing, reaching, polled}
use Rattle.sqlx_script_rules.specs.ScriptLevels.{gone_by, history_of}
use Rattle.sqlx_script_rules.specs.Tries.{tries_of}
use Rattle.sqlx_script_rules.specs.Pairs.{Pairs}
use Rattle.sqlx_script_rules.proofs.Pairs.{tries_of-push}
use Rattle.sqlx_play.specs.stage.Scene.{Scene}
use Rattle.sqlx_play.specs.stage.LinksStand.{LinksStand}
use Rattle.sqlx_play.specs.stage.StageStands.{IsTried, IsTriedAt, StageStands}
use Rattle.sqlx_play.specs.events.ConnectByReply.{connect_marks}
use Rattle.sqlx_play.proofs.links.LinksSame.{links-same, links-as}
use Rattle.sqlx_play.proofs.links.LinksMoves.{links-lent, links-closed}
use Rattle.sqlx_play.proofs.events.StageAfter.{stage-after}
use Rattle.sqlx_play.proofs.polls.PollTurns.{AtTest}
use Rattle.sqlx_play.proofs.polls.PollReplies.{tried-of}
use Rattle.sqlx_play.proofs.polls.PollTries.{trying-first, tried-without, with-with}
use Rattle.sqlx_play.proofs.polls.PollMarks.{gone-append, waits_true, reply_by, refused-marks}
use Rattle.sqlx_play.proofs.polls.Polls.{pair_of, polled_by, Connecting, unused}

-- A poll between two steps: this idle connection is under test for the ticket, and these are idle behind it. The front
-- are the marks before it was taken; with it n tests are left to the poll, of which the letters answer j.
pub record Testing (stage : Scene) (pairs : Pairs) (k t m : ℕ) (answers : PollAnswers) (core : Core Link) (store : Store) (i : Idle Link) (rest : List (Idle Link)) (front : List Mark) (n j : ℕ) : Type 0 where
  pub x : Ticket
  pub change : Ticket → Ticket
  pub before : ℕ
  pub found : ticket_of k t stage.core.tickets ≡ Some x
  pub waiting : x.phase ≡ phase.Waiting
  pub keeps : KeepsOwner change
  pub phase_is : (change x).phase ≡ phase.Testing i.lent.id i.lent.created before
  pub deadline : (change x).deadline ≡ x.deadline
  pub first_try : (change x).first_try.0 ≡ m
  pub last_wait : (change x).last_wait ≡ None
  pub core_is : core ≡ at_moment m (record stage.core { tickets = with_ticket t change stage.core.tickets; idle = rest })
  pub tries : before + n ≡ stage.pool.tries
  pub some : 1 ≤ n
  pub alone : (c : ℕ) → count_by (holds c) stage.core.held + count_by (rests c) (i ∷ rest) ≤ 1
  pub links : LinksStand (record stage.core { idle = i ∷ rest }) store stage.lent.items (gone_by front (history_of stage.pool pairs))
  pub place : passing_of stage.pool answers (map resting stage.core.idle) ≡ conn_at (refused_tests stage.pool (answering answers j)) (take n (map resting (i ∷ rest)))
  pub refuses : mark.Left t ∷ refusing (take stage.pool.tries (map resting stage.core.idle)) ≡ front ++ refusing (take n (map resting (i ∷ rest)))
  pub reaches : (c : ℕ) → is_among c (map resting (i ∷ rest)) ≡ true
      → (is_among c (map resting stage.core.idle) ≡ true) × (mark.Left t ∷ reaching c (map resting stage.core.idle) ≡ front ++ reaching c (map resting (i ∷ rest)))

module _ (stage : Scene) (pairs : Pairs) (k t m : ℕ) (answers : PollAnswers) (s : StageStands stage pairs) where
  -- the first test
  pub first-test : IsNumbered stage.core → 1 ≤ stage.pool.tries → (i : Idle Link) (a : AtTest stage.core k t i)
      → Testing stage pairs k t m answers (started t m (start.Test i) stage.core) stage.out.store i a.rest (mark.Left t ∷ []) stage.pool.tries answers.tests
  first-test sound many i a = record {
    x = a.x;
    change = to_test m i;
    before = 0;
    found = a.found;
    waiting = a.waits;
    keeps = λ z. (refl, refl);
    phase_is = refl;
    deadline = refl;
    first_try = refl;
    last_wait = refl;
    core_is = ap (λ (l : List (Idle Link)). at_moment m (record stage.core { tickets = with_ticket t (to_test m i) stage.core.tickets; idle = drop 1 l })) a.idle;
    tries = omega arith;
    some = many;
    alone = λ c. let once = sound.once c in let same = ap (count_by (rests c)) a.idle in omega (arith, once, same);
    links = subst (λ (l : List (Idle Link)). LinksStand (record stage.core { idle = l }) stage.out.store stage.lent.items (history_of stage.pool pairs)) a.idle s.links;
    place = ap (λ (l : List (Idle Link)). passing_of stage.pool answers (map resting l)) a.idle;
    refuses = ap (λ (l : List (Idle Link)). mark.Left t ∷ refusing (take stage.pool.tries (map resting l))) a.idle;
    reaches = λ c among. (ap (λ (l : List (Idle Link)). is_among c (map resting l)) a.idle ∙ among, ap (λ (l : List (Idle Link)). mark.Left t ∷ reaching c (map resting l)) a.idle);
  }

  module _ (core : Core Link) (store : Store) (i : Idle Link) (front : List Mark) where
    abbrev past : History
    past = gone_by front (history_of stage.pool pairs)

    abbrev two : List Mark
    two = mark.Taken i.lent.id ∷ mark.Closed i.lent.id ∷ []

    gone-two : leaves i.lent.id ∷ past ≡ gone_by (front ++ two) (history_of stage.pool pairs)
    gone-two = sym (gone-append front two (history_of stage.pool pairs))

    -- the next test, behind a refused one
    pub next-test : (h : Idle Link) (rest : List (Idle Link)) (n j j' : ℕ) → Testing stage pairs k t m answers core store i (h ∷ rest) front (suc (suc n)) j
        → refused_tests stage.pool (answering answers j) ≡ suc (refused_tests stage.pool (answering answers j'))
        → (store' : Store) → store' ≡ closed_at i.lent.raw.depth store
        → Testing stage pairs k t m answers (after_test k t (tested.Test h) core) store' h rest (front ++ two) (suc n) j'
    next-test h rest n j j' v less store' closed = record {
      x = v.x;
      change = λ (z : Ticket). to_next h (v.change z);
      before = v.before + 1;
      found = v.found;
      waiting = v.waiting;
      keeps = v.keeps;
      phase_is = ap (λ (p : Phase). phase.Testing h.lent.id h.lent.created (tested_so_far p)) v.phase_is;
      deadline = v.deadline;
      first_try = v.first_try;
      last_wait = v.last_wait;
      core_is =
          ap (λ (c : Core Link). core_without_first (record c { tickets = with_ticket t (to_next h) c.tickets })) v.core_is
          ∙ ap (λ (l : List Ticket). at_moment m (record stage.core { tickets = l; idle = rest })) (with-with t v.change (to_next h) stage.core.tickets (λ z. (v.keeps z).0));
      tries = let all = v.tries in omega (arith, all);
      some = omega arith;
      alone = λ c. let one = v.alone c in let cons = count_by-cons (rests c) i (h ∷ rest) in omega (arith, one, cons);
      links = subst (λ (x : Store). LinksStand (record stage.core { idle = h ∷ rest }) x stage.lent.items (gone_by (front ++ two) (history_of stage.pool pairs))) (sym closed)
          (subst (LinksStand (record stage.core { idle = h ∷ rest }) (closed_at i.lent.raw.depth store) stage.lent.items) gone-two
          (links-closed (record stage.core { idle = i ∷ h ∷ rest }) store stage.lent.items past v.links i (h ∷ rest) refl v.alone));
      place = v.place ∙ ap (λ (q : ℕ). conn_at q (take (suc (suc n)) (map resting (i ∷ h ∷ rest)))) less;
      refuses = v.refuses ∙ sym (append_assoc front two (refusing (take (suc n) (map resting (h ∷ rest)))));
      reaches = λ c among.
          let both = v.reaches c (ap (λ (b : Bool). (c == i.lent.id) || b) among ∙ or-true (c == i.lent.id)) in (
            both.0,
            both.1
                ∙ ap (λ (b : Bool). front ++ cond b (mark.Taken i.lent.id ∷ []) (mark.Taken i.lent.id ∷ mark.Closed i.lent.id ∷ reaching c (map resting (h ∷ rest)))) (another c among (c == i.lent.id) refl)
                ∙ sym (append_assoc front two (reaching c (map resting (h ∷ rest)))),
          );
    }
      where
        another : (c : ℕ) → is_among c (map resting (h ∷ rest)) ≡ true → (b : Bool) → (c == i.lent.id) ≡ b → (c == i.lent.id) ≡ false
        another c among false e = e
        another c among true e =
            let one = v.alone c in
            let cons = count_by-cons (rests c) i (h ∷ rest) ∙ ap (λ (b : Bool). cond {A = ℕ} b 1 0 + count_by (rests c) (h ∷ rest)) e in
            let more = any-counts (rests c) (h ∷ rest) (sym (list_any-map resting (λ (r : IdleEntry). c == r.conn) (h ∷ rest)) ∙ among) in
            absurd (omega (arith, one, cons, more))

    -- the ticket connects, where the poll may test no further connection
    pub refused-connects : (rest : List (Idle Link)) (n j : ℕ) → Testing stage pairs k t m answers core store i rest front n j → IsNumbered stage.core
        → refusing (take n (map resting (i ∷ rest))) ≡ two
        → (mid : Scene) → mid.core ≡ record core { tickets = with_ticket t to_connect core.tickets }
        → mid.out.store ≡ closed_at i.lent.raw.depth store → mid.lent.items ≡ stage.lent.items → mid.pool ≡ stage.pool
        → Connecting stage mid pairs k t m (front ++ two)
    refused-connects rest n j v sound all mid becomes closed owned pool = record {
      x = v.x;
      y = to_connect (v.change v.x);
      change = λ (z : Ticket). to_connect (v.change z);
      found = v.found;
      found_now = ap (λ (c : Core Link). ticket_of k t c.tickets) whole ∙ ticket-changed k t (λ (z : Ticket). to_connect (v.change z)) stage.core.tickets v.x v.keeps v.found;
      keeps = λ z. (v.keeps z).0;
      is = refl;
      tickets = ap (λ (c : Core Link). c.tickets) whole;
      trying = trying-first m (tries_of t pairs) v.x (to_connect (v.change v.x))
          (ap (λ (u : ℕ). tries_of u pairs) (ticket-number k t stage.core.tickets v.x v.found) ∙ subst (IsTriedAt pairs v.x) v.waiting (tried-of k t pairs stage.core.tickets v.x s.tried v.found))
          (v.keeps v.x).0 v.deadline v.first_try v.last_wait;
      options = ap (λ (c : Core Link). c.options) whole;
      places = ap (λ (c : Core Link). c.places) whole;
      next_ticket = ap (λ (c : Core Link). c.next_ticket) whole;
      next_conn = ap (λ (c : Core Link). c.next_conn) whole;
      pool = pool;
      links = subst (LinksStand mid.core mid.out.store mid.lent.items) gone-two
          (links-as mid.core mid.core (closed_at i.lent.raw.depth store) mid.out.store stage.lent.items mid.lent.items (leaves i.lent.id ∷ past) refl closed owned
          (links-same (record stage.core { idle = rest }) mid.core (closed_at i.lent.raw.depth store) stage.lent.items (leaves i.lent.id ∷ past)
          (links-closed (record stage.core { idle = i ∷ rest }) store stage.lent.items past v.links i rest refl v.alone)
          (ap (λ (c : Core Link). c.held) whole) (ap (λ (c : Core Link). c.idle) whole) (ap (λ (c : Core Link). c.next_conn) whole)));
      marks = λ o.
          ap (λ (l : List Mark). l ++ connect_marks k t m (reply_by stage.core.next_conn o)) (sym (v.refuses ∙ ap (λ (l : List Mark). front ++ l) all))
          ∙ refused-marks stage.pool.tries m k t stage.core.next_conn (map resting stage.core.idle) o (unused stage.core sound)
          ∙ (λ h. polled stage.pool.tries m k t (sym (waits_true stage.core (marks_of stage.pool pairs) k t s.stands v.x v.found v.waiting) h) (s.stands.idle h) (reply_by stage.core.next_conn o));
    }
      where
        whole : mid.core ≡ at_moment m (record stage.core { tickets = with_ticket t (λ (z : Ticket). to_connect (v.change z)) stage.core.tickets; idle = rest })
        whole = becomes ∙ ap (λ (c : Core Link). record c { tickets = with_ticket t to_connect c.tickets }) v.core_is
            ∙ ap (λ (l : List Ticket). at_moment m (record stage.core { tickets = l; idle = rest })) (with-with t v.change to_connect stage.core.tickets (λ z. (v.keeps z).0))

-- the connection that passed its test is lent
pub tested-stands : (stage new : Scene) (pairs : Pairs) (moment : Moment) (k t : ℕ) (answers : PollAnswers) (s : StageStands stage pairs) (core : Core Link) (store : Store) (i : Idle Link) (rest : List (Idle Link)) (front : List Mark) (n j : ℕ)
    → Testing stage pairs k t moment.0 answers core store i rest front n j
    → new.core ≡ core_without_ticket t (lent_to k i.lent.id i.lent.created core) → new.out.store ≡ store → new.lent.items ≡ stage.lent.items ++ i.lent ∷ [] → new.pool ≡ stage.pool
    → Makes stage.core.options.max_connections (marks_of stage.pool pairs) ((front ++ mark.Taken i.lent.id ∷ []) ++ mark.Lent k i.lent.id ∷ mark.Ended t ∷ []) new.core
    → StageStands new (pairs ++ pair_of moment k t answers (reply.Ready i.lent.id) ∷ [])
tested-stands stage new pairs moment k t answers s core store i rest front n j v becomes same owned pool makes =
    stage-after stage new pairs pair s (record {
      pool = pool;
      makes = subst (λ (l : List Mark). Makes stage.core.options.max_connections (marks_of stage.pool pairs) l new.core) made makes;
      options = ap (λ (c : Core Link). c.options) whole;
      places = ap (λ (c : Core Link). c.places) whole ∙ s.places;
      tried = subst (All (IsTried (pairs ++ pair ∷ []))) (sym (ap (λ (c : Core Link). c.tickets) whole ∙ gone-changed t v.change stage.core.tickets (λ z. (v.keeps z).0)))
          (tried-without pairs (pairs ++ pair ∷ []) t stage.core.tickets (λ u. tries_of-push u pairs pair) s.tried);
      untried = λ u h. tries_of-push u pairs pair ∙ s.untried u (subst (λ (z : ℕ). z ≤ u) (ap (λ (c : Core Link). c.next_ticket) whole) h);
      links = subst (LinksStand new.core new.out.store new.lent.items) gone
          (links-as new.core new.core store new.out.store (stage.lent.items ++ i.lent ∷ []) new.lent.items before refl same owned
          (links-same (lent_to k i.lent.id i.lent.created (record stage.core { idle = rest })) new.core store (stage.lent.items ++ i.lent ∷ []) before
          (links-lent (record stage.core { idle = i ∷ rest }) store stage.lent.items before v.links i rest refl k i.lent.created)
          (ap (λ (c : Core Link). c.held) whole) (ap (λ (c : Core Link). c.idle) whole) (ap (λ (c : Core Link). c.next_conn) whole)));
    })
  where
    pair : Event × Reply
    pair = pair_of moment k t answers (reply.Ready i.lent.id)

    before : History
    before = gone_by front (history_of stage.pool pairs)

    whole : new.core ≡ core_without_ticket t (lent_to k i.lent.id i.lent.created (at_moment moment.0 (record stage.core { tickets = with_ticket t v.change stage.core.tickets; idle = rest })))
    whole = becomes ∙ ap (λ (o : Core Link). core_without_ticket t (lent_to k i.lent.id i.lent.created o)) v.core_is

    both : (is_among i.lent.id (map resting stage.core.idle) ≡ true) × (mark.Left t ∷ reaching i.lent.id (map resting stage.core.idle) ≡ front ++ reaching i.lent.id (map resting (i ∷ rest)))
    both = v.reaches i.lent.id (ap (λ (b : Bool). b || is_among i.lent.id (map resting rest)) (same_number i.lent.id))

    reached : front ++ mark.Taken i.lent.id ∷ [] ≡ mark.Left t ∷ reaching i.lent.id (map resting stage.core.idle)
    reached = sym (both.1 ∙ ap (λ (b : Bool). front ++ cond b (mark.Taken i.lent.id ∷ []) (mark.Taken i.lent.id ∷ mark.Closed i.lent.id ∷ reaching i.lent.id (map resting rest))) (same_number i.lent.id))

    made : (front ++ mark.Taken i.lent.id ∷ []) ++ mark.Lent k i.lent.id ∷ mark.Ended t ∷ [] ≡ polled_by stage pairs k t moment.0 (reply.Ready i.lent.id)
    made =
        ap (λ (l : List Mark). l ++ mark.Lent k i.lent.id ∷ mark.Ended t ∷ []) reached
        ∙ (λ h. (mark.Left t ∷ cond (sym both.0 h) (reaching i.lent.id (map resting stage.core.idle)) (refusing (take stage.pool.tries (map resting stage.core.idle))))
        ++ (cond (sym both.0 h) [] (mark.Opened i.lent.id moment.0 ∷ []) ++ (mark.Lent k i.lent.id ∷ mark.Ended t ∷ [])))
        ∙ (λ h. polled stage.pool.tries moment.0 k t (sym (waits_true stage.core (marks_of stage.pool pairs) k t s.stands v.x v.found v.waiting) h) (s.stands.idle h) (reply.Ready i.lent.id))

    gone : gone_by front (history_of stage.pool pairs) ≡ gone_by (polled_by stage pairs k t moment.0 (reply.Ready i.lent.id)) (history_of stage.pool pairs)
    gone =
        sym (gone-append (front ++ mark.Taken i.lent.id ∷ []) (mark.Lent k i.lent.id ∷ mark.Ended t ∷ []) (history_of stage.pool pairs) ∙ gone-append front (mark.Taken i.lent.id ∷ []) (history_of stage.pool pairs))
        ∙ ap (λ (l : List Mark). gone_by l (history_of stage.pool pairs)) made
