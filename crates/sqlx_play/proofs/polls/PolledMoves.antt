-- What a poll of the pool leaves as it was, over the outside of a script.
use Rattle.std.proofs.Common.{◌≡◌, Bool, ℕ, ◌+◌, ◌≤◌, List, [], ◌∷◌, refl, sym, ap, subst, ◌∙◌, arith}
use Rattle.sqlx_pool_marks.specs.declared.mark.Mark.{Mark}
use Rattle.sqlx_pool_lists.specs.declared.ticket.Ticket.{Ticket}
use Rattle.sqlx_pool_lists.specs.declared.steps.Start.{Start}
use Rattle.sqlx_pool_lists.specs.declared.steps.Start.TheVariants as start
use Rattle.sqlx_pool_lists.specs.declared.steps.Verdict.{Verdict}
use Rattle.sqlx_pool_lists.specs.declared.steps.Verdict.TheVariants as verdict
use Rattle.sqlx_pool_lists.specs.declared.steps.AfterTest.{AfterTest}
use Rattle.sqlx_pool_lists.specs.declared.steps.AfterTest.TheVariants as tested
use Rattle.sqlx_pool_lists.specs.declared.steps.Polled.{Polled}
use Rattle.sqlx_pool_lists.specs.Core.{Core}
use Rattle.sqlx_pool_lists.specs.PollSteps.{started, after_test, after_connect}
use Rattle.sqlx_pool_core.specs.declared.idle_check.Opening.{Opening}
use Rattle.sqlx_pool_core.specs.Walk.{Next, Test, Connect, Answer, first, then_by, judges, tells, Connects, Goes, Polls}
use Rattle.sqlx_script.specs.declared.answers.PollAnswers.{PollAnswers}
use Rattle.mem_store.specs.Store.{Link, Store}
use Rattle.sqlx_play.specs.declared.outside.ScriptOutside.{ScriptOutside}
use Rattle.sqlx_play.specs.outside.ScriptCalls.{Does}
use Rattle.sqlx_play.specs.outside.ScriptOutside.{depth_of, poll_letters}
use Rattle.sqlx_play.proofs.polls.ScriptChain.{tested_store, letters_after, Tried, opened, refused_hook, passing, failed, tested-told, tried-told}

pub record Moved (m : ℕ) (core new : Core Link) (old now : ScriptOutside) : Type 0 where
  pub runs : now.store.runs ≡ old.store.runs
  pub last : core.last ≤ m → new.last ≤ m
  pub ticket : new.next_ticket ≡ core.next_ticket
  pub conn : new.next_conn ≤ core.next_conn + 1

at-last : (a m n : ℕ) → a ≡ m → n ≤ m → a ≤ m
at-last a m n e h = omega arith

-- what the steps of the pool move
pub moved-by : (m : ℕ) (core new : Core Link) (old now : ScriptOutside) → now.store.runs ≡ old.store.runs → new.last ≡ m → new.next_ticket ≡ core.next_ticket → new.next_conn ≤ core.next_conn + 1 → Moved m core new old now
moved-by m core new old now runs at ticket conn = record { runs = runs; last = λ h. at-last new.last m core.last at h; ticket = ticket; conn = conn }

self : (n : ℕ) → n ≤ n
self n = omega arith

one-more : (n : ℕ) → n ≤ n + 1
one-more n = omega arith

at-most : (n : ℕ) → n + 1 ≤ n + 1
at-most n = omega arith

module _ (k t m : ℕ) (core new mid : Core Link) (out midout now : ScriptOutside) (runs : midout.store.runs ≡ out.store.runs) (ticket : mid.next_ticket ≡ core.next_ticket) (conn : mid.next_conn ≡ core.next_conn) where
  by_opening : (hook : Bool) (answers : PollAnswers) (x : Ticket) (o : Opening Link) → Tried hook answers midout now o → new ≡ after_connect k t m (tells m x mid o) mid → Moved m core new out now
  by_opening hook answers x o (opened is good store) becomes =
      moved-by m core new out now (ap (λ (s : Store). s.runs) store ∙ runs) (ap (λ (c : Core Link). c.last) becomes) (ap (λ (c : Core Link). c.next_ticket) becomes ∙ ticket)
      (subst (λ (n : ℕ). n ≤ core.next_conn + 1) (sym (ap (λ (c : Core Link). c.next_conn) becomes ∙ ap (λ (n : ℕ). n + 1) conn)) (at-most core.next_conn))
  by_opening hook answers x o (refused_hook is bad store) becomes =
      moved-by m core new out now (ap (λ (s : Store). s.runs) store ∙ runs) (ap (λ (c : Core Link). c.last) becomes) (ap (λ (c : Core Link). c.next_ticket) becomes ∙ ticket)
      (subst (λ (n : ℕ). n ≤ core.next_conn + 1) (sym (ap (λ (c : Core Link). c.next_conn) becomes ∙ conn)) (one-more core.next_conn))
  by_opening hook answers x o (passing is store) becomes =
      moved-by m core new out now (ap (λ (s : Store). s.runs) store ∙ runs) (ap (λ (c : Core Link). c.last) becomes) (ap (λ (c : Core Link). c.next_ticket) becomes ∙ ticket)
      (subst (λ (n : ℕ). n ≤ core.next_conn + 1) (sym (ap (λ (c : Core Link). c.next_conn) becomes ∙ conn)) (one-more core.next_conn))
  by_opening hook answers x o (failed e by is store) becomes =
      moved-by m core new out now (ap (λ (s : Store). s.runs) store ∙ runs) (ap (λ (c : Core Link). c.last) becomes) (ap (λ (c : Core Link). c.next_ticket) becomes ∙ ticket)
      (subst (λ (n : ℕ). n ≤ core.next_conn + 1) (sym (ap (λ (c : Core Link). c.next_conn) becomes ∙ conn)) (one-more core.next_conn))

  by_connect : (answers : PollAnswers) (got : Polled Link) (later : List Mark) → poll_letters midout ≡ answers → midout.opens ≡ 0
      → Connects {O = Unit {0}} Does depth_of tt k t m mid new midout now got later → Moved m core new out now
  by_connect answers got later letters none c = by_opening mid.options.after_connect answers c.x c.opening (tried-told answers mid.options.after_connect c.opening midout now letters none c.tries) c.becomes

same_runs : (old now : ScriptOutside) → now ≡ old → now.store.runs ≡ old.store.runs
same_runs old now e = ap (λ (o : ScriptOutside). o.store.runs) e

-- one step behind another, of which the first opens nothing
then-moved : (m : ℕ) (core mid new : Core Link) (old between now : ScriptOutside) → between.store.runs ≡ old.store.runs → mid.last ≡ core.last → mid.next_ticket ≡ core.next_ticket → mid.next_conn ≡ core.next_conn
    → Moved m mid new between now → Moved m core new old now
then-moved m core mid new old between now runs last ticket conn moved = record {
  runs = moved.runs ∙ runs;
  last = λ h. moved.last (subst (λ (n : ℕ). n ≤ m) (sym last) h);
  ticket = moved.ticket ∙ ticket;
  conn = subst (λ (n : ℕ). new.next_conn ≤ n + 1) conn moved.conn;
}

-- a test opens nothing
test-last : (k t : ℕ) (a : AfterTest Link) (core : Core Link) → (after_test k t a core).last ≡ core.last
test-last k t (tested.NotHeld verdict) core = refl
test-last k t (tested.Closed raw) core = refl
test-last k t (tested.Ready lent) core = refl
test-last k t (tested.Test i) core = refl
test-last k t tested.Connect core = refl

test-ticket : (k t : ℕ) (a : AfterTest Link) (core : Core Link) → (after_test k t a core).next_ticket ≡ core.next_ticket
test-ticket k t (tested.NotHeld verdict) core = refl
test-ticket k t (tested.Closed raw) core = refl
test-ticket k t (tested.Ready lent) core = refl
test-ticket k t (tested.Test i) core = refl
test-ticket k t tested.Connect core = refl

test-conn : (k t : ℕ) (a : AfterTest Link) (core : Core Link) → (after_test k t a core).next_conn ≡ core.next_conn
test-conn k t (tested.NotHeld verdict) core = refl
test-conn k t (tested.Closed raw) core = refl
test-conn k t (tested.Ready lent) core = refl
test-conn k t (tested.Test i) core = refl
test-conn k t tested.Connect core = refl

tested-runs : (v : Verdict Link) (raw : Link) (store : Store) → (tested_store v raw store).runs ≡ store.runs
tested-runs (verdict.Accepted lent) raw store = refl
tested-runs (verdict.Refused c) raw store = refl

module _ (k t m : ℕ) where
  same_core : (core new : Core Link) (old now : ScriptOutside) → new ≡ core → now ≡ old → Moved m core new old now
  same_core core new old now is e = record {
    runs = same_runs old now e;
    last = subst (λ (n : Core Link). core.last ≤ m → n.last ≤ m) (sym is) (λ h. h);
    ticket = ap (λ (c : Core Link). c.next_ticket) is;
    conn = subst (λ (n : Core Link). n.next_conn ≤ core.next_conn + 1) (sym is) (one-more core.next_conn);
  }

  goes-moves : (answers : PollAnswers) (verdicts : List (Verdict Link)) (next : Next Link) (core new : Core Link) (old now : ScriptOutside) (got : Polled Link) (later : List Mark) → poll_letters old ≡ answers → old.opens ≡ 0
      → Goes {O = Unit {0}} Does depth_of tt k t m verdicts next core new old now got later → Moved m core new old now
  goes-moves answers [] (Answer a) core new old now got later letters none g = same_core core new old now g.2 g.3
  goes-moves answers [] Connect core new old now got later letters none g = by_connect k t m core new core old old now refl refl refl answers got later letters none g
  goes-moves answers [] (Test i) core new old now got later letters none g = absurd g
  goes-moves answers (v ∷ vs) (Test i) core new old now got later letters none g =
      let t_is = tested-told answers core.options m i v old g.0 letters g.1.1.0 in
      then-moved m core (after_test k t (judges k t core i v) core) new old g.0 now (ap (λ (s : Store). s.runs) t_is.store ∙ tested-runs v i.lent.raw old.store)
      (test-last k t (judges k t core i v) core) (test-ticket k t (judges k t core i v) core) (test-conn k t (judges k t core i v) core)
      (goes-moves (letters_after v answers) vs (then_by (judges k t core i v)) (after_test k t (judges k t core i v) core) new g.0 now got g.1.0 t_is.letters (t_is.opens ∙ none) g.1.1.2)
  goes-moves answers (v ∷ vs) (Answer a) core new old now got later letters none g = absurd g
  goes-moves answers (v ∷ vs) Connect core new old now got later letters none g = absurd g

  -- the core's last moment is that of the poll, where its first step is no answer that changes nothing
  begun-moves : (begun : Start Link) (core new : Core Link) (old now : ScriptOutside) → Moved m (started t m begun core) new old now → Moved m core new old now
  begun-moves start.NotHeld core new old now moved = moved
  begun-moves start.Waiting core new old now moved = moved
  begun-moves (start.Backoff u) core new old now moved = moved
  begun-moves start.Closed core new old now moved = record { runs = moved.runs; last = λ h. moved.last (self m); ticket = moved.ticket; conn = moved.conn }
  begun-moves start.TimedOut core new old now moved = record { runs = moved.runs; last = λ h. moved.last (self m); ticket = moved.ticket; conn = moved.conn }
  begun-moves start.Exhausted core new old now moved = record { runs = moved.runs; last = λ h. moved.last (self m); ticket = moved.ticket; conn = moved.conn }
  begun-moves start.Connect core new old now moved = record { runs = moved.runs; last = λ h. moved.last (self m); ticket = moved.ticket; conn = moved.conn }
  begun-moves (start.Test i) core new old now moved = record { runs = moved.runs; last = λ h. moved.last (self m); ticket = moved.ticket; conn = moved.conn }

pub polled-moves : (k t m n : ℕ) (answers : PollAnswers) (core new : Core Link) (out now : ScriptOutside) → poll_letters out ≡ answers → out.opens ≡ 0 → m ≡ n → (got : Polled Link)
    → Polls {O = Unit {0}} Does depth_of tt k t m core new out now got → Moved n core new out now
polled-moves k t m n answers core new out now letters none at got p =
    let w = subst (λ (j : ℕ). Polls {O = Unit {0}} Does depth_of tt k t j core new out now got) at p in
    begun-moves k t n w.begun core new out now (goes-moves k t n answers w.verdicts (first w.begun) (started t n w.begun core) new out now got w.later letters none w.goes)
