-- What an ask makes of a stage.
use Rattle.std.proofs.Common.{◌≡◌, ℕ, ◌+◌, ◌≤◌, Bool, true, not, cond, List, [], ◌∷◌, ◌++◌, max, All, ◌↔◌, ◌⊎◌, Option, Some, None, Result, Ok, Err, IfOk, IfErr, OnOk, OnErr, refl, sym, ap, subst, ◌∙◌, append-nil, inl, inr, arith}
use Rattle.std.specs.List.{list_any}
use Rattle.std.proofs.Math.Nat.{max-eq_right}
use Rattle.std.proofs.lemmas.Bool.{cases_Bool, cond-true, cond-false}
use Rattle.std.proofs.lemmas.List.Elements.{All-push}
use Rattle.sqlx_text.specs.declared.error.Error.{Error}
use Rattle.sqlx_text.specs.declared.error.Error.TheVariants as failed
use Rattle.sqlx_text.specs.declared.Moment.{Moment}
use Rattle.sqlx_pool_marks.specs.declared.mark.Mark.{Mark}
use Rattle.sqlx_pool_marks.specs.declared.mark.Mark.TheVariants as mark
use Rattle.sqlx_pool_marks.specs.Marks.{is_shut, is_open, next_ticket}
use Rattle.sqlx_pool_lists.specs.Core.{Core}
use Rattle.sqlx_pool_lists.specs.Edits.{at_moment, asked}
use Rattle.sqlx_pool_lists.specs.StandsFor.{StandsFor}
use Rattle.sqlx_pool_lists.specs.Makes.{Makes}
use Rattle.sqlx_script.specs.declared.step.Event.{Event}
use Rattle.sqlx_script.specs.declared.step.Step.TheVariants.{Ask}
use Rattle.sqlx_script.specs.declared.reply.Reply.{Reply}
use Rattle.sqlx_script.specs.declared.reply.Reply.TheVariants.{Ticket, PoolClosed}
use Rattle.sqlx_play.specs.stage.Scene.{Scene}
use Rattle.sqlx_play.specs.stage.StageStands.{IsSetUp, IsTried, StageStands}
use Rattle.sqlx_play.specs.stage.LinksStand.{LinksStand}
use Rattle.sqlx_script_rules.specs.ScriptLevels.{history_of}
use Rattle.sqlx_script_rules.specs.Tries.{tries_of}
use Rattle.sqlx_script.specs.declared.pool_line.PoolLine.{PoolLine}
use Rattle.sqlx_pool_lists.specs.declared.options.PoolOptions.{PoolOptions}
use Rattle.mem_store.specs.Store.{Link}
use Rattle.sqlx_script_rules.specs.ScriptMarks.{marks_of}
use Rattle.sqlx_script_rules.proofs.Pairs.{marks_of-push, tries_of-push, history_of-push}
use Rattle.sqlx_play.proofs.events.TriesSame.{tried-same}
use Rattle.sqlx_play.proofs.links.LinksSame.{links-same}
use Rattle.sqlx_script_rules.specs.Pairs.{Pairs}

-- an open pool draws the next ticket
pub open_reply : (marks : List Mark) (shut : Bool) (n next : ℕ) → shut ≡ list_any is_shut marks → (shut ≡ true → ⊥) → n ≡ next → next ≡ next_ticket marks
    → Ticket n ≡ cond (is_open marks) (Ticket (next_ticket marks)) PoolClosed
open_reply marks shut n next e is_closed number is_next = elim (cases_Bool (list_any is_shut marks)) [
  | inl yes' ↦ absurd (is_closed (e ∙ yes'))
  | inr no' ↦ ap Ticket (number ∙ is_next) ∙ sym (cond-true (is_open marks) _ _ (ap not no'))
]

-- a closed pool draws none
pub closed_reply : (marks : List Mark) (shut : Bool) → shut ≡ list_any is_shut marks → shut ≡ true → PoolClosed ≡ cond (is_open marks) (Ticket (next_ticket marks)) PoolClosed
closed_reply marks shut e is_closed = sym (cond-false (is_open marks) _ _ (ap not (sym e ∙ is_closed)))

-- no ask is a backoff
ask_tries : (pairs : Pairs) (moment : Moment) (client : ℕ) (r : Reply) (t : ℕ) → tries_of t (pairs ++ (record { moment = moment; step = Ask client }, r) ∷ []) ≡ tries_of t pairs
ask_tries pairs moment client r t = tries_of-push t pairs (record { moment = moment; step = Ask client }, r)

-- no ask changes a bracket
asked_history : (pool : PoolLine) (pairs : Pairs) (moment : Moment) (client n : ℕ)
    → history_of pool (pairs ++ (record { moment = moment; step = Ask client }, Ticket n) ∷ []) ≡ history_of pool pairs
asked_history pool pairs moment client n = history_of-push pool pairs (record { moment = moment; step = Ask client }, Ticket n)

refused_history : (pool : PoolLine) (pairs : Pairs) (moment : Moment) (client : ℕ)
    → history_of pool (pairs ++ (record { moment = moment; step = Ask client }, PoolClosed) ∷ []) ≡ history_of pool pairs
refused_history pool pairs moment client = history_of-push pool pairs (record { moment = moment; step = Ask client }, PoolClosed)

-- the options stay those of the first line
pub set_up-same : (pool : PoolLine) (options new : PoolOptions) → new ≡ options → IsSetUp pool options → IsSetUp pool new
set_up-same pool options new e s = subst (IsSetUp pool) (sym e) s

-- the stage after an ask that drew a ticket
pub asked_stands : (stage : Scene) (core : Core Link) (pairs : Pairs) (moment : Moment) (client n deadline : ℕ)
    → StageStands stage pairs → stage.core.last ≤ moment.0 → n ≡ stage.core.next_ticket
    → Makes stage.core.options.max_connections (marks_of stage.pool pairs) (mark.Asked n client (max stage.core.last moment.0 + stage.core.options.acquire_timeout) ∷ []) core
    → core ≡ at_moment (max stage.core.last moment.0) (asked client deadline stage.core)
    → StageStands (record stage { core = core }) (pairs ++ (record { moment = moment; step = Ask client }, Ticket n) ∷ [])
asked_stands stage core pairs moment client n deadline s late number makes becomes =
    let pair : Event × Reply = (record { moment = moment; step = Ask client }, Ticket n) in
    let marks = marks_of stage.pool pairs in
    let tries = ask_tries pairs moment client (Ticket n) in
    let due : max stage.core.last moment.0 + stage.core.options.acquire_timeout ≡ moment.0 + stage.pool.timeout = λ i. max-eq_right late i + s.set_up.timeout i in
    let made : mark.Asked n client (max stage.core.last moment.0 + stage.core.options.acquire_timeout) ∷ [] ≡ mark.Asked n client (moment.0 + stage.pool.timeout) ∷ [] = ap (λ d. mark.Asked n client d ∷ []) due in
    let same : marks ++ mark.Asked n client (moment.0 + stage.pool.timeout) ∷ [] ≡ marks_of stage.pool (pairs ++ pair ∷ []) = sym (marks_of-push stage.pool pairs pair) in
    let next : core.next_ticket ≡ stage.core.next_ticket + 1 = ap (λ (c : Core Link). c.next_ticket) becomes in
    record {
      stands = subst (StandsFor core) same (subst (λ (l : List Mark). StandsFor core (marks ++ l)) made makes.stands);
      set_up = set_up-same stage.pool stage.core.options core.options (ap (λ (c : Core Link). c.options) becomes) s.set_up;
      places = ap (λ (c : Core Link). c.places) becomes ∙ s.places;
      tried = subst (λ (c : Core Link). All (IsTried (pairs ++ pair ∷ [])) c.tickets) (sym becomes)
          (All-push (IsTried (pairs ++ pair ∷ [])) stage.core.tickets _ (tried-same pairs pair stage.core.tickets tries s.tried) (tries stage.core.next_ticket ∙ s.untried stage.core.next_ticket (omega arith)));
      untried = λ t h. tries t ∙ s.untried t (omega (arith, h, next));
      links = subst (LinksStand core stage.out.store stage.lent.items) (sym (asked_history stage.pool pairs moment client n))
          (links-same stage.core core stage.out.store stage.lent.items (history_of stage.pool pairs) s.links (ap (λ (c : Core Link). c.held) becomes) (ap (λ (c : Core Link). c.idle) becomes) (ap (λ (c : Core Link). c.next_conn) becomes));
    }

-- the stage after an ask of a closed pool
pub refused_stands : (stage : Scene) (core : Core Link) (pairs : Pairs) (moment : Moment) (client : ℕ)
    → StageStands stage pairs → core ≡ stage.core → StageStands (record stage { core = core }) (pairs ++ (record { moment = moment; step = Ask client }, PoolClosed) ∷ [])
refused_stands stage core pairs moment client s becomes =
    let pair : Event × Reply = (record { moment = moment; step = Ask client }, PoolClosed) in
    let tries = ask_tries pairs moment client PoolClosed in
    let same : marks_of stage.pool pairs ≡ marks_of stage.pool (pairs ++ pair ∷ []) = sym (append-nil (marks_of stage.pool pairs)) ∙ sym (marks_of-push stage.pool pairs pair) in
    let stays : StageStands stage (pairs ++ pair ∷ []) = record {
      stands = subst (StandsFor stage.core) same s.stands;
      set_up = s.set_up;
      places = s.places;
      tried = tried-same pairs pair stage.core.tickets tries s.tried;
      untried = λ t h. tries t ∙ s.untried t h;
      links = subst (LinksStand stage.core stage.out.store stage.lent.items) (sym (refused_history stage.pool pairs moment client)) s.links;
    } in
    subst (λ (c : Core Link). StageStands (record stage { core = c }) (pairs ++ pair ∷ [])) (sym becomes) stays

-- What an ask came to, by the reply to it.
pub data AskCame (r : Result ℕ Error) (told : Reply) : Type 0 where
  drew : (n : ℕ) → r ≡ Ok n → told ≡ Ticket n → AskCame r told
  was_closed : r ≡ Err failed.PoolClosed → told ≡ PoolClosed → AskCame r told

pub ask-came : (r : Result ℕ Error) (o : Option Reply) (told : Reply) → o ≡ Some told
    → ((n : ℕ) → r ≡ Ok n → o ≡ Some (Ticket n)) → (r ≡ Err failed.PoolClosed → o ≡ Some PoolClosed) → (r ≡ Err failed.OutOfMemory → o ≡ None) → (r ≡ Err failed.Exhausted → ⊥)
    → IfErr r (λ e. (e ≡ failed.PoolClosed) ⊎ ((e ≡ failed.Exhausted) ⊎ (e ≡ failed.OutOfMemory))) → AskCame r told
ask-came (Ok n) o told is drawn closed memory exhausted causes = drew n refl (let h : Some told ≡ Some (Ticket n) = sym is ∙ drawn n refl in cc)
ask-came (Err e) o told is drawn closed memory exhausted (inl c) = was_closed (ap Err c) (let h : Some told ≡ Some PoolClosed = sym is ∙ closed (ap Err c) in cc)
ask-came (Err e) o told is drawn closed memory exhausted (inr (inl c)) = absurd (exhausted (ap Err c))
ask-came (Err e) o told is drawn closed memory exhausted (inr (inr c)) = absurd (let h : Some told ≡ None = sym is ∙ memory (ap Err c) in cc)

-- the reply to an ask and the stage after it
pub ask-plays : (stage : Scene) (core : Core Link) (pairs : Pairs) (moment : Moment) (client : ℕ) (r : Result ℕ Error) (told : Reply) → StageStands stage pairs → stage.core.last ≤ moment.0 → AskCame r told
    → IfOk r (λ n. n ≡ stage.core.next_ticket) → ((r ≡ Err failed.PoolClosed) ↔ (stage.core.shut ≡ true))
    → IfOk r (λ n. Makes stage.core.options.max_connections (marks_of stage.pool pairs) (mark.Asked n client (max stage.core.last moment.0 + stage.core.options.acquire_timeout) ∷ []) core)
    → OnOk r (core ≡ at_moment (max stage.core.last moment.0) (asked client (max stage.core.last moment.0 + stage.core.options.acquire_timeout) stage.core)) → OnErr r (core ≡ stage.core)
    → (told ≡ cond (is_open (marks_of stage.pool pairs)) (Ticket (next_ticket (marks_of stage.pool pairs))) PoolClosed)
    × StageStands (record stage { core = core }) (pairs ++ (record { moment = moment; step = Ask client }, told) ∷ [])
ask-plays stage core pairs moment client (Ok n) told s late came numbered closed makes becomes err = by came
  where
    by : AskCame (Ok n) told → (told ≡ cond (is_open (marks_of stage.pool pairs)) (Ticket (next_ticket (marks_of stage.pool pairs))) PoolClosed)
        × StageStands (record stage { core = core }) (pairs ++ (record { moment = moment; step = Ask client }, told) ∷ [])
    by (drew m is said) =
        let same : told ≡ Ticket n = said ∙ ap Ticket (let h : m ≡ n = cc in h) in (
          same ∙ open_reply (marks_of stage.pool pairs) stage.core.shut n stage.core.next_ticket s.stands.shut (λ shut. let other = closed.1 shut in cc) numbered s.stands.ticket_number,
          subst (λ (r : Reply). StageStands (record stage { core = core }) (pairs ++ (record { moment = moment; step = Ask client }, r) ∷ [])) (sym same)
              (asked_stands stage core pairs moment client n _ s late numbered makes becomes),
        )
    by (was_closed is said) = absurd cc
ask-plays stage core pairs moment client (Err e) told s late came numbered closed makes becomes err = by came
  where
    by : AskCame (Err e) told → (told ≡ cond (is_open (marks_of stage.pool pairs)) (Ticket (next_ticket (marks_of stage.pool pairs))) PoolClosed)
        × StageStands (record stage { core = core }) (pairs ++ (record { moment = moment; step = Ask client }, told) ∷ [])
    by (drew m is said) = absurd cc
    by (was_closed is said) = (
      said ∙ closed_reply (marks_of stage.pool pairs) stage.core.shut s.stands.shut (closed.0 is),
      subst (λ (r : Reply). StageStands (record stage { core = core }) (pairs ++ (record { moment = moment; step = Ask client }, r) ∷ [])) (sym said) (refused_stands stage core pairs moment client s err),
    )
