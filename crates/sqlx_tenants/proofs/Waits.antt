-- A poll of a ticket that waits, or that the client hasn't.
use Rattle.std.proofs.Common.{◌≡◌, ℕ, ◌<◌, ◌≤◌, List, [], ◌∷◌, Bool, true, false, cond, length, count_by, find, max, sym, ap, refl, ◌∙◌, subst, arith, Option, Some, None, option_map}
use Rattle.sqlx_pool_marks.specs.Marks.{PendingTicket, tickets_of}
use Rattle.sqlx_pool_marks.specs.Counts.{asked_in, is_asked_by}
use Rattle.sqlx_pool_marks.proofs.ListFacts.{count_by-cons, find-map}
use Rattle.sqlx_pool_lists.specs.declared.ticket.Ticket.{Ticket}
use Rattle.sqlx_pool_lists.specs.declared.ticket.Phase.{Phase}
use Rattle.sqlx_pool_lists.specs.declared.ticket.Phase.TheVariants as phase
use Rattle.sqlx_pool_lists.specs.declared.steps.Start.{Start}
use Rattle.sqlx_pool_lists.specs.declared.steps.Start.TheVariants as start
use Rattle.sqlx_pool_lists.specs.Core.{asking, is_of, is_out, has_gone, ticket_of}
use Rattle.sqlx_pool_lists.specs.CoreTurn.{turn_of}
use Rattle.sqlx_pool_lists.specs.PollSteps.{phase_for, is_in_line, start_answer, start_marks, started, verdict_answer, test_marks, after_test, connect_answer, connect_marks, after_connect}
use Rattle.sqlx_family.specs.Pools.{pool_in}
use Rattle.sqlx_family.specs.RootLine as line
use Rattle.sqlx_family.specs.Permits as permits
use Rattle.sqlx_family.specs.FamilyLogs.{FamilyLogs}
use Rattle.sqlx_lines.specs.Numbers.{nanos}
use Rattle.sqlx_tenants_rules.specs.declared.event.Opening.{Opening}
use Rattle.sqlx_tenants_rules.specs.declared.reply.Reply.{Reply}
use Rattle.sqlx_tenants_rules.specs.declared.reply.Reply.TheVariants as reply
use Rattle.sqlx_tenants_rules.specs.Book.{Book, account}
use Rattle.sqlx_tenants_rules.specs.Rules.{poll_reply, poll_if, after_poll}
use Rattle.sqlx_tenants.specs.Keeps.{Keeps}
use Rattle.sqlx_tenants.specs.Answers.{HasNumbers, tested_reply, connected_reply, opening}
use Rattle.sqlx_pool_lists.specs.declared.steps.Idle.{Idle}
use Rattle.sqlx_pool_lists.specs.declared.steps.Verdict.TheVariants as verdict
use Rattle.sqlx_pool_lists.specs.declared.steps.AfterTest.{AfterTest}
use Rattle.sqlx_pool_lists.specs.declared.steps.AfterConnect.{AfterConnect}
use Rattle.sqlx_pool_lists.specs.declared.steps.Tried.{Tried}
use Rattle.sqlx_tenants.proofs.Alike.{Family}
use Rattle.sqlx_tenants.proofs.Reading.{is, stands}
use Rattle.sqlx_tenants.proofs.AskLemmas.{moment-later}
use Rattle.sqlx_tenants.proofs.Begun.{Began, began}

found-one : {X : Type 0} (p q : X → Bool) (xs : List X) (y : X) → find p xs ≡ Some y → q y ≡ true → 1 ≤ count_by q xs
found-one p q [] y e is = absurd cc
found-one p q (x ∷ xs) y e is = by (λ h. found-one p q xs y h is) (p x) e
  where
    by : (find p xs ≡ Some y → 1 ≤ count_by q xs) → (b : Bool) → cond b (Some x) (find p xs) ≡ Some y → 1 ≤ count_by q (x ∷ xs)
    by rest true h = let same : x ≡ y = ap (λ o. elim o [ Some z ↦ z | None ↦ x ]) h in let here = ap (λ (b : Bool). cond {A = ℕ} b 1 0) (ap q same ∙ is) in let c = count_by-cons q x xs in omega (arith, here, c)
    by rest false h = let some = rest h in let c = count_by-cons q x xs in omega (arith, some, c)

-- a ticket in the line
pub record IsInLine (k t : ℕ) (tickets : List Ticket) : Type 0 where
  pub x : Ticket
  pub found : ticket_of k t tickets ≡ Some x
  pub waits : x.phase ≡ phase.Waiting

waiting-phase : (p : Phase) → is_in_line (Some p) ≡ true → p ≡ phase.Waiting
waiting-phase phase.Waiting e = refl
waiting-phase (phase.Testing c created before) e = absurd cc
waiting-phase phase.Connecting e = absurd cc
waiting-phase (phase.Backoff until) e = absurd cc

out-phase : (p : Phase) → is_in_line (Some p) ≡ false → is_out p ≡ true
out-phase phase.Waiting e = absurd cc
out-phase (phase.Testing c created before) e = refl
out-phase phase.Connecting e = refl
out-phase (phase.Backoff until) e = refl

in-line : (k t : ℕ) (tickets : List Ticket) (o : Option Ticket) → ticket_of k t tickets ≡ o → is_in_line (option_map (λ (x : Ticket). x.phase) o) ≡ true → IsInLine k t tickets
in-line k t tickets None e is = absurd cc
in-line k t tickets (Some x) e is = record { x = x; found = e; waits = waiting-phase x.phase is }

pub is-in-line : (k t : ℕ) (tickets : List Ticket) → is_in_line (phase_for k t tickets) ≡ true → IsInLine k t tickets
is-in-line k t tickets is = in-line k t tickets (ticket_of k t tickets) refl is

not-there : (k t : ℕ) (tickets : List Ticket) (o : Option Ticket) → ticket_of k t tickets ≡ o → count_by has_gone tickets ≡ 0 → is_in_line (option_map (λ (x : Ticket). x.phase) o) ≡ false → ticket_of k t tickets ≡ None
not-there k t tickets None e none is = e
not-there k t tickets (Some x) e none is = absurd (let some = found-one (is_of k t) has_gone tickets x e (out-phase x.phase is) in omega (arith, some, none))

module _ (first : Opening) (f : Family) (book : Book) (m now client t q : ℕ) (opens : Bool) (k : Keeps first f book m) (le : m ≤ nanos now) (child : 1 ≤ q) (lt : q < length f.pools) where
  -- the client has no such ticket
  pub polled-none : is_in_line (phase_for client t (pool_in q f).tickets) ≡ false
      → (reply.NotHeld ≡ poll_reply now client q t opens book) × Keeps first f (after_poll now client q t (poll_reply now client q t opens book) book) (nanos now)
  polled-none none =
      let gone = not-there client t (pool_in q f).tickets (ticket_of client t (pool_in q f).tickets) refl (is first f book m k q lt).rests.gone none in
      let asked : asked_in client t (tickets_of (account q book).marks) ≡ None =
      ap (asked_in client t) (sym (stands first f book m k q lt).tickets) ∙ find-map asking (is_asked_by client t) (pool_in q f).tickets ∙ ap (option_map asking) gone in
      let answer : reply.NotHeld ≡ poll_reply now client q t opens book = sym (ap (λ (o : Option PendingTicket). poll_if now q opens o book) asked) in
      (answer, subst (λ (r : Reply). Keeps first f (after_poll now client q t r book) (nanos now)) answer (moment-later first f book m (nanos now) k le))

  -- what the first call of a poll comes to
  pub polled-began : (few : HasNumbers book) (r : Start (Unit {0})) (f1 : Family) (mo : ℕ) → is_in_line (phase_for client t (pool_in q f).tickets) ≡ true → mo ≡ nanos now
      → r ≡ start_answer (turn_of (line.is_entitled q t f) (pool_in q f).closed mo (pool_in q f) (ticket_of client t (pool_in q f).tickets)) (pool_in q f).idle
      → FamilyLogs f q (start_marks t (phase_for client t (pool_in q f).tickets) r) f1
      → f1 ≡ permits.stepped q (started t mo r (pool_in q (line.granting q client t mo f))) (line.granting q client t mo f)
      → (x : IsInLine client t (pool_in q f).tickets) × Began first f book m now client t q opens k le child lt x.x x.found x.waits few f1 r
  polled-began few r f1 mo is_in at answer logs becomes =
      let x = is-in-line client t (pool_in q f).tickets is_in in
      (x, began first f book m now client t q opens k le child lt x.x x.found x.waits few r f1 logs mo at answer becomes)

-- ---- the arms of a poll, at a ticket's number that was cast

-- the reply is this, and the family keeps the book after it
abbrev pub Polled : Opening → Book → ℕ → ℕ → ℕ → Bool → ℕ → Reply → Family → Type 0
Polled first book now client q opens t word g = (word ≡ poll_reply now client q t opens book) × Keeps first g (after_poll now client q t (poll_reply now client q t opens book) book) (nanos now)

module _ (first : Opening) (f : Family) (book : Book) (m now client t q : ℕ) (opens : Bool) (k : Keeps first f book m) (le : m ≤ nanos now) (child : 1 ≤ q) (lt : q < length f.pools) (few : HasNumbers book) (r : Start (Unit {0})) (f1 : Family) (mo : ℕ)
    (is_in : is_in_line (phase_for client t (pool_in q f).tickets) ≡ true) (at : mo ≡ nanos now)
    (answer : r ≡ start_answer (turn_of (line.is_entitled q t f) (pool_in q f).closed mo (pool_in q f) (ticket_of client t (pool_in q f).tickets)) (pool_in q f).idle)
    (logs : FamilyLogs f q (start_marks t (phase_for client t (pool_in q f).tickets) r) f1)
    (becomes : f1 ≡ permits.stepped q (started t mo r (pool_in q (line.granting q client t mo f))) (line.granting q client t mo f)) where
  abbrev it : (x : IsInLine client t (pool_in q f).tickets) × Began first f book m now client t q opens k le child lt x.x x.found x.waits few f1 r
  it = polled-began first f book m now client t q opens k le child lt few r f1 mo is_in at answer logs becomes

  came-to : (s : Start (Unit {0})) → r ≡ s → Began first f book m now client t q opens k le child lt it.0.x it.0.found it.0.waits few f1 s
  came-to s e = subst (λ (y : Start (Unit {0})). Began first f book m now client t q opens k le child lt it.0.x it.0.found it.0.waits few f1 y) e it.1

  pub came-closed : (n : ℕ) → t ≡ n → r ≡ start.Closed → Polled first book now client q opens n reply.PoolClosed f1
  came-closed n same e = subst (λ a. Polled first book now client q opens a reply.PoolClosed f1) same (came-to start.Closed e)

  pub came-late : (n : ℕ) → t ≡ n → r ≡ start.TimedOut → Polled first book now client q opens n reply.PoolTimedOut f1
  came-late n same e = subst (λ a. Polled first book now client q opens a reply.PoolTimedOut f1) same (came-to start.TimedOut e)

  pub came-waiting : (n : ℕ) → t ≡ n → r ≡ start.Waiting → Polled first book now client q opens n reply.Waiting f1
  came-waiting n same e = subst (λ a. Polled first book now client q opens a reply.Waiting f1) same (came-to start.Waiting e)

  pub never-held : r ≡ start.NotHeld → ⊥
  never-held e = came-to start.NotHeld e

  pub never-exhausted : r ≡ start.Exhausted → ⊥
  never-exhausted e = came-to start.Exhausted e

  pub never-backs_off : (until : ℕ) → r ≡ start.Backoff until → ⊥
  never-backs_off until e = came-to (start.Backoff until) e

  pub came-tested : (n : ℕ) → t ≡ n → (i : Idle (Unit {0})) → r ≡ start.Test i → (new : Family) (after : AfterTest (Unit {0}))
      → after ≡ verdict_answer client t (pool_in q f1).closed (pool_in q f1) (verdict.Accepted i.lent)
      → FamilyLogs f1 q (test_marks client t i.lent.id after) new → new ≡ permits.stepped q (after_test client t after (pool_in q f1)) f1
      → (word : Reply) → word ≡ tested_reply after → Polled first book now client q opens n word new
  came-tested n same i e new after answer2 logs2 becomes2 word said =
      subst (λ (w : Reply). Polled first book now client q opens n w new) (sym said)
      (subst (λ a. Polled first book now client q opens a (tested_reply after) new) same (came-to (start.Test i) e new after answer2 logs2 becomes2))

  pub came-connected : (n : ℕ) → t ≡ n → r ≡ start.Connect → (new : Family) (mo2 : ℕ) (after : AfterConnect (Unit {0})) (o : Tried (Unit {0})) → o ≡ opening opens → mo2 ≡ max f1.shared.last.0 (nanos now)
      → after ≡ connect_answer (ticket_of client t (pool_in q f1).tickets) (pool_in q f1).closed (pool_in q f1).next_conn mo2 o
      → FamilyLogs f1 q (connect_marks client t mo2 after) new → new ≡ permits.stepped q (after_connect client t mo2 after (pool_in q f1)) f1
      → (word : Reply) → word ≡ connected_reply after → Polled first book now client q opens n word new
  came-connected n same e new mo2 after o is_o at2 answer2 logs2 becomes2 word said =
      subst (λ (w : Reply). Polled first book now client q opens n w new) (sym said)
      (subst (λ a. Polled first book now client q opens a (connected_reply after) new) same
      (came-to start.Connect e new mo2 after at2 (answer2 ∙ ap (connect_answer (ticket_of client t (pool_in q f1).tickets) (pool_in q f1).closed (pool_in q f1).next_conn mo2) is_o) logs2 becomes2))
