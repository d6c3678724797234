-- The tries of every ticket behind a poll.
use Rattle.std.proofs.Common.{◌≡◌, ℕ, ◌+◌, ◌-◌, ◌==◌, Bool, true, false, not, cond, List, [], ◌∷◌, Option, Some, None, nat_lt, All, refl, sym, ap, subst, ◌∙◌, inl, inr, ◌⊎◌, arith}
use Rattle.std.proofs.lemmas.List.Elements.{All-nil, All-cons, All-head, All-tail}
use Rattle.sqlx_pool_lists.specs.declared.ticket.Ticket.{Ticket}
use Rattle.sqlx_pool_lists.specs.declared.ticket.Phase.{Phase}
use Rattle.sqlx_pool_lists.specs.declared.ticket.Phase.TheVariants as phase
use Rattle.sqlx_pool_lists.specs.declared.steps.Idle.{Idle}
use Rattle.sqlx_pool_marks.specs.Backoff.{cap, next_wait}
use Rattle.sqlx_pool_lists.specs.Edits.{with_ticket, without_ticket, to_test, to_try, to_try_at, to_connect}
use Rattle.sqlx_pool_lists.specs.PollSteps.{wait_of}
use Rattle.sqlx_pool_core.proofs.Known.{IsOnly, KeepsNumber}
use Rattle.sqlx_script_rules.specs.Tries.{Tries, tries_of, first_try, last_wait, backed_off, until_after}
use Rattle.sqlx_play.specs.stage.StageStands.{IsTried, IsTriedAt}
use Rattle.sqlx_play.proofs.events.TriesSame.{tried-alike}
use Rattle.sqlx_play.proofs.polls.PollTurns.{IsDue}
use Rattle.sqlx_script_rules.specs.Pairs.{Pairs}

-- A ticket y that connects at m for the ticket x: its next refused try brings it the wait that the tries say.
pub record Trying (m : ℕ) (tries : Option Tries) (x y : Ticket) : Type 0 where
  pub number : y.number ≡ x.number
  pub until : until_after m x.deadline tries ≡ m + wait_of y
  pub tried : backed_off m (m + wait_of y) tries ≡ Some (record { first = y.first_try.0; wait = wait_of y; until = m + wait_of y })

first_of_none : (m w : ℕ) (tries : Option Tries) → tries ≡ None → backed_off m (m + w) tries ≡ Some (record { first = m; wait = w; until = m + w })
first_of_none m w tries none = ap (backed_off m (m + w)) none ∙ ap (λ (n : ℕ). Some (record { first = m; wait = n; until = m + w })) (omega arith)

-- a ticket that left the line at m
pub trying-first : (m : ℕ) (tries : Option Tries) (x y : Ticket) → tries ≡ None → y.number ≡ x.number → y.deadline ≡ x.deadline → y.first_try.0 ≡ m → y.last_wait ≡ None → Trying m tries x y
trying-first m tries x y none number deadline first wait = record {
  number = number;
  until = λ i. m + next_wait (cap (sym deadline i) (((ap (first_try m) none) ∙ sym first) i)) ((ap last_wait none ∙ sym wait) i);
  tried = first_of_none m (wait_of y) tries none ∙ ap (λ (n : ℕ). Some (record { first = n; wait = wait_of y; until = m + wait_of y })) (sym first);
}

-- a ticket whose next try is due at m
pub trying-again : (m until wait : ℕ) (tries : Option Tries) (x y : Ticket) → tries ≡ Some (record { first = x.first_try.0; wait = wait; until = until }) → nat_lt m until ≡ false → x.last_wait ≡ Some wait
    → y ≡ to_connect x → Trying m tries x y
trying-again m until wait tries x y is due last same = subst (Trying m tries x) (sym same) (record {
  number = refl;
  until = λ i. m + next_wait (cap x.deadline (ap (first_try m) is i)) ((ap last_wait is ∙ sym last) i);
  tried = ap (backed_off m (m + wait_of x)) is
      ∙ ap (λ (b : Bool). cond b (Some (record { first = x.first_try.0; wait = wait; until = until })) (Some (record { first = x.first_try.0; wait = (m + wait_of x) - m; until = m + wait_of x }))) due
      ∙ ap (λ (n : ℕ). Some (record { first = x.first_try.0; wait = n; until = m + wait_of x })) (omega arith);
})

try_at_waiting : (m : ℕ) (x : Ticket) (p : Phase) → p ≡ phase.Waiting → to_try_at m p x ≡ record x { phase = phase.Connecting; first_try = record { 0 = m }; last_wait = None }
try_at_waiting m x p e = ap (λ (q : Phase). to_try_at m q x) e

try_at_backoff : (m until : ℕ) (x : Ticket) (p : Phase) → p ≡ phase.Backoff until → to_try_at m p x ≡ to_connect x
try_at_backoff m until x p e = ap (λ (q : Phase). to_try_at m q x) e

-- the ticket after the first idle connection was refused
pub trying-refused : {C : Type 0} (m t : ℕ) (i : Idle C) (pairs : Pairs) (x : Ticket) → t ≡ x.number → x.phase ≡ phase.Waiting → IsTried pairs x → Trying m (tries_of t pairs) x (to_connect (to_test m i x))
trying-refused m t i pairs x number waits tried =
    trying-first m (tries_of t pairs) x (to_connect (to_test m i x)) (ap (λ (n : ℕ). tries_of n pairs) number ∙ subst (IsTriedAt pairs x) waits tried) refl refl refl refl

-- the ticket where no connection was idle, or its next try is due
pub trying-connect : (m t : ℕ) (pairs : Pairs) (x : Ticket) (P : Type 0) → t ≡ x.number → ((x.phase ≡ phase.Waiting) × P) ⊎ IsDue m x → IsTried pairs x → Trying m (tries_of t pairs) x (to_try m x)
trying-connect m t pairs x P number (inl first) tried =
    subst (Trying m (tries_of t pairs) x) (sym (try_at_waiting m x x.phase first.0))
    (trying-first m (tries_of t pairs) x _ (ap (λ (n : ℕ). tries_of n pairs) number ∙ subst (IsTriedAt pairs x) first.0 tried) refl refl refl refl)
trying-connect m t pairs x P number (inr due) tried =
    let known = subst (IsTriedAt pairs x) due.backs_off tried in
    trying-again m due.until known.0 (tries_of t pairs) x (to_try m x) (ap (λ (n : ℕ). tries_of n pairs) number ∙ known.2) due.due known.1 (try_at_backoff m due.until x x.phase due.backs_off)

-- ---- the tickets behind a poll

-- only the tries of one ticket change
pub tried-without : (one two : Pairs) (t : ℕ) (tickets : List Ticket) → ((u : ℕ) → tries_of u two ≡ tries_of u one) → All (IsTried one) tickets → All (IsTried two) (without_ticket t tickets)
tried-without one two t [] same h = All-nil (IsTried two)
tried-without one two t (x ∷ tickets) same h = by (tried-without one two t tickets same (All-tail (IsTried one) x tickets h)) (not (t == x.number))
  where
    by : All (IsTried two) (without_ticket t tickets) → (b : Bool) → All (IsTried two) (cond b (x ∷ without_ticket t tickets) (without_ticket t tickets))
    by rest true = All-cons (IsTried two) x (without_ticket t tickets) (tried-alike one two x (same x.number) (All-head (IsTried one) x tickets h)) rest
    by rest false = rest

pub tried-changed : (one two : Pairs) (t : ℕ) (f : Ticket → Ticket) (x : Ticket) (tickets : List Ticket) → IsOnly t x tickets
    → ((u : ℕ) → (t == u) ≡ false → tries_of u two ≡ tries_of u one) → IsTried two (f x) → All (IsTried one) tickets → All (IsTried two) (with_ticket t f tickets)
tried-changed one two t f x [] only others mine h = All-nil (IsTried two)
tried-changed one two t f x (y ∷ tickets) only others mine h =
    All-cons (IsTried two) (cond (t == y.number) (f y) y) (with_ticket t f tickets)
    (by (t == y.number) refl (All-head (λ (z : Ticket). (t == z.number) ≡ true → z ≡ x) y tickets only))
    (tried-changed one two t f x tickets (All-tail (λ (z : Ticket). (t == z.number) ≡ true → z ≡ x) y tickets only) others mine (All-tail (IsTried one) y tickets h))
  where
    by : (b : Bool) → (t == y.number) ≡ b → ((t == y.number) ≡ true → y ≡ x) → IsTried two (cond b (f y) y)
    by true e only' = subst (λ (z : Ticket). IsTried two (f z)) (sym (only' e)) mine
    by false e only' = tried-alike one two y (others y.number e) (All-head (IsTried one) y tickets h)

-- one change after another
pub with-with : (t : ℕ) (f g : Ticket → Ticket) (tickets : List Ticket) → KeepsNumber f → with_ticket t g (with_ticket t f tickets) ≡ with_ticket t (λ (x : Ticket). g (f x)) tickets
with-with t f g [] keeps = refl
with-with t f g (y ∷ tickets) keeps = λ i. by (t == y.number) refl i ∷ with-with t f g tickets keeps i
  where
    by : (b : Bool) → (t == y.number) ≡ b → cond (t == (cond b (f y) y).number) (g (cond b (f y) y)) (cond b (f y) y) ≡ cond b (g (f y)) y
    by true e = ap (λ (b : Bool). cond b (g (f y)) (f y)) (ap (λ (n : ℕ). t == n) (keeps y) ∙ e)
    by false e = ap (λ (b : Bool). cond b (g y) y) e
