-- What is known of a ticket, a loan and an idle connection that a sound core has.
use Rattle.std.proofs.Common.{◌≡◌, ℕ, ◌+◌, ◌≤◌, ◌<◌, Bool, true, false, cond, not, ◌&&◌, ◌==◌, List, [], ◌∷◌, map, count_by, All, Some, refl, sym, ap, ap₂, ◌∙◌, subst, inl, inr, ◌⊎◌, arith}
use Rattle.std.proofs.lemmas.Bool.{eqb-true, and_parts, cases_lt, ne_eqb}
use Rattle.std.proofs.lemmas.List.Elements.{All-nil, All-cons, All-head, All-tail, All-weaker}
use Rattle.sqlx_pool_lists.specs.declared.ticket.Ticket.{Ticket}
use Rattle.sqlx_pool_lists.specs.declared.ticket.OwnedConn.{OwnedConn}
use Rattle.sqlx_pool_lists.specs.declared.steps.Idle.{Idle}
use Rattle.sqlx_pool_lists.specs.Core.{Core, is_out, is_of, ticket_of, is_held_by, loan_of, asking, gone, has_gone}
use Rattle.sqlx_pool_lists.specs.Sound.{IsSound, IsRising, number_of, holds, rests, tests, places_of}
use Rattle.sqlx_pool_lists.specs.Edits.{without_ticket, with_ticket}
use Rattle.sqlx_pool_marks.proofs.ListFacts.{found_passes, found_All, found_counts, same_number, count_by-cons, count_by-filter_parts}

-- ---- rising numbers

rising_le : (low : ℕ) (ns : List ℕ) (high : ℕ) → IsRising low ns high → low ≤ high
rising_le low [] high h = h
rising_le low (n ∷ ns) high h = let rest = rising_le (n + 1) ns high h.1 in let first = h.0 in omega (arith, rest, first)

pub rising_below : (low : ℕ) (tickets : List Ticket) (high : ℕ) → IsRising low (map number_of tickets) high → All (λ (x : Ticket). x.number < high) tickets
rising_below low [] high h = All-nil (λ (x : Ticket). x.number < high)
rising_below low (x ∷ xs) high h =
    let rest = rising_le (x.number + 1) (map number_of xs) high h.1 in
    All-cons (λ (x : Ticket). x.number < high) x xs (omega (arith, rest)) (rising_below (x.number + 1) xs high h.1)

rising_above : (low : ℕ) (tickets : List Ticket) (high : ℕ) → IsRising low (map number_of tickets) high → All (λ (x : Ticket). low ≤ x.number) tickets
rising_above low [] high h = All-nil (λ (x : Ticket). low ≤ x.number)
rising_above low (x ∷ xs) high h =
    All-cons (λ (x : Ticket). low ≤ x.number) x xs h.0
    (All-weaker (λ (y : Ticket). x.number + 1 ≤ y.number) (λ (y : Ticket). low ≤ y.number) (λ y le. let first = h.0 in omega (arith, le, first)) xs (rising_above (x.number + 1) xs high h.1))

-- ---- a ticket

pub ticket-number : (k t : ℕ) (tickets : List Ticket) (x : Ticket) → ticket_of k t tickets ≡ Some x → t ≡ x.number
ticket-number k t tickets x e = eqb-true t x.number (and_parts (t == x.number) (k == x.client) (found_passes (is_of k t) tickets x e)).0

pub ticket-client : (k t : ℕ) (tickets : List Ticket) (x : Ticket) → ticket_of k t tickets ≡ Some x → k ≡ x.client
ticket-client k t tickets x e = eqb-true k x.client (and_parts (t == x.number) (k == x.client) (found_passes (is_of k t) tickets x e)).1

-- the ticket of a number is the only one
abbrev pub IsOnly : ℕ → Ticket → List Ticket → Type 0
IsOnly t x tickets = All (λ (y : Ticket). (t == y.number) ≡ true → y ≡ x) tickets

pub ticket-only : (low high k t : ℕ) (tickets : List Ticket) (x : Ticket) → IsRising low (map number_of tickets) high → ticket_of k t tickets ≡ Some x → IsOnly t x tickets
ticket-only low high k t [] x r e = absurd (cc)
ticket-only low high k t (w ∷ xs) x r e = by (λ k'. ticket-only (w.number + 1) high k t xs x r.1 k') (is_of k t w) refl e
  where
    above : All (λ (y : Ticket). w.number + 1 ≤ y.number) xs
    above = rising_above (w.number + 1) xs high r.1

    by : (ticket_of k t xs ≡ Some x → IsOnly t x xs) → (b : Bool) → is_of k t w ≡ b → cond b (Some w) (ticket_of k t xs) ≡ Some x → IsOnly t x (w ∷ xs)
    by rest true is k' =
        let same : w ≡ x = cc in
        let mine : t ≡ w.number = eqb-true t w.number (and_parts (t == w.number) (k == w.client) is).0 in
        All-cons (λ (y : Ticket). (t == y.number) ≡ true → y ≡ x) w xs (λ _. same)
        (All-weaker (λ (y : Ticket). w.number + 1 ≤ y.number) (λ (y : Ticket). (t == y.number) ≡ true → y ≡ x) (λ y le e'. let his : t ≡ y.number = eqb-true t y.number e' in absurd (omega arith)) xs above)
    by rest false is k' =
        let his : t ≡ x.number = ticket-number k t xs x k' in
        let later : w.number + 1 ≤ x.number = found_All (is_of k t) (λ (y : Ticket). w.number + 1 ≤ y.number) xs x k' above in
        All-cons (λ (y : Ticket). (t == y.number) ≡ true → y ≡ x) w xs (λ e'. let mine : t ≡ w.number = eqb-true t w.number e' in absurd (omega arith)) (rest k')

module _ {C : Type 0} (core : Core C) (sound : IsSound core) where
  pub ticket-below : (k t : ℕ) (x : Ticket) → ticket_of k t core.tickets ≡ Some x → t < core.next_ticket
  ticket-below k t x e =
      let lt : x.number < core.next_ticket = found_All (is_of k t) (λ (y : Ticket). y.number < core.next_ticket) core.tickets x e (rising_below 1 core.tickets core.next_ticket sound.rising) in
      let same : t ≡ x.number = ticket-number k t core.tickets x e in
      omega arith

  pub ticket-is_only : (k t : ℕ) (x : Ticket) → ticket_of k t core.tickets ≡ Some x → IsOnly t x core.tickets
  ticket-is_only k t x e = ticket-only 1 core.next_ticket k t core.tickets x sound.rising e

  -- ---- a connection

  -- a connection that is somewhere has a number below the next
  pub conn-below : (c : ℕ) → 1 ≤ places_of c core.tickets core.held core.idle → c < core.next_conn
  conn-below c some = below (cases_lt c core.next_conn)
    where
      below : (c < core.next_conn) ⊎ (core.next_conn ≤ c) → c < core.next_conn
      below (inl lt) = lt
      below (inr le) = let none = sound.opened c le in absurd (omega (arith, none))

  -- what is owned is neither under test nor idle
  pub record IsOwned (k c : ℕ) (h : OwnedConn) : Type 0 where
    pub conn : c ≡ h.conn
    pub client : k ≡ h.client
    pub owned : count_by (holds c) core.held ≡ 1
    pub untested : count_by (tests c) core.tickets ≡ 0
    pub restless : count_by (rests c) core.idle ≡ 0
    pub below : c < core.next_conn

  pub loan-found : (k c : ℕ) (h : OwnedConn) → loan_of k c core.held ≡ Some h → IsOwned k c h
  loan-found k c h e =
      let both = and_parts (c == h.conn) (k == h.client) (found_passes (is_held_by k c) core.held h e) in
      let some : 1 ≤ count_by (holds c) core.held = found_counts (is_held_by k c) (holds c) core.held h e both.0 in
      let once = sound.once c in
      record {
        conn = eqb-true c h.conn both.0;
        client = eqb-true k h.client both.1;
        owned = omega (arith, once, some);
        untested = omega (arith, once, some);
        restless = omega (arith, once, some);
        below = conn-below c (omega (arith, some));
      }

  -- what is idle is neither owned nor under test
  pub record IsIdle (c : ℕ) : Type 0 where
    pub idle : count_by (rests c) core.idle ≡ 1
    pub untested : count_by (tests c) core.tickets ≡ 0
    pub unowned : count_by (holds c) core.held ≡ 0
    pub below : c < core.next_conn

  pub idle-found : (c : ℕ) → 1 ≤ count_by (rests c) core.idle → IsIdle c
  idle-found c some =
      let once = sound.once c in
      record {
        idle = omega (arith, once, some);
        untested = omega (arith, once, some);
        unowned = omega (arith, once, some);
        below = conn-below c (omega (arith, some));
      }

  pub idle-first : (i : Idle C) (rest : List (Idle C)) → core.idle ≡ i ∷ rest → IsIdle i.lent.id
  idle-first i rest e =
      let first : cond {A = ℕ} (i.lent.id == i.lent.id) 1 0 ≡ 1 = ap (λ (b : Bool). cond {A = ℕ} b 1 0) (same_number i.lent.id) in
      let whole : count_by (rests i.lent.id) core.idle ≡ cond {A = ℕ} (i.lent.id == i.lent.id) 1 0 + count_by (rests i.lent.id) rest
      = ap (count_by (rests i.lent.id)) e ∙ count_by-cons (rests i.lent.id) i rest in
      idle-found i.lent.id (omega (arith, first, whole))

  -- what is under test is neither owned nor idle
  pub record IsUnderTest (c : ℕ) : Type 0 where
    pub tested : count_by (tests c) core.tickets ≡ 1
    pub unowned : count_by (holds c) core.held ≡ 0
    pub restless : count_by (rests c) core.idle ≡ 0
    pub below : c < core.next_conn

  pub test-found : (k t c : ℕ) (x : Ticket) → ticket_of k t core.tickets ≡ Some x → tests c x ≡ true → IsUnderTest c
  test-found k t c x e is =
      let some : 1 ≤ count_by (tests c) core.tickets = found_counts (is_of k t) (tests c) core.tickets x e is in
      let once = sound.once c in
      record {
        tested = omega (arith, once, some);
        unowned = omega (arith, once, some);
        restless = omega (arith, once, some);
        below = conn-below c (omega (arith, some));
      }

-- ---- tickets that are changed or gone

-- what is told of a changed ticket alone is told of the list
pub alike-changed : (t : ℕ) (f : Ticket → Ticket) (x : Ticket) (tickets : List Ticket) → IsOnly t x tickets → asking (f x) ≡ asking x → map asking (with_ticket t f tickets) ≡ map asking tickets
alike-changed t f x [] only same = refl
alike-changed t f x (y ∷ ys) only same =
    λ i. one (t == y.number) (All-head (λ (y : Ticket). (t == y.number) ≡ true → y ≡ x) y ys only) i
    ∷ alike-changed t f x ys (All-tail (λ (y : Ticket). (t == y.number) ≡ true → y ≡ x) y ys only) same i
  where
    one : (b : Bool) → (b ≡ true → y ≡ x) → asking (cond b (f y) y) ≡ asking y
    one true h = let is : y ≡ x = h refl in ap (λ (z : Ticket). asking (f z)) is ∙ same ∙ ap asking (sym is)
    one false h = refl

abbrev pub KeepsNumber : (Ticket → Ticket) → Type 0
KeepsNumber f = (x : Ticket) → (f x).number ≡ x.number

-- a ticket that is gone need not be changed before
pub gone-changed : (t : ℕ) (f : Ticket → Ticket) (tickets : List Ticket) → KeepsNumber f → without_ticket t (with_ticket t f tickets) ≡ without_ticket t tickets
gone-changed t f [] keeps = refl
gone-changed t f (y ∷ ys) keeps = ap (λ l. cond (not (t == (cond (t == y.number) (f y) y).number)) (cond (t == y.number) (f y) y ∷ l) l) (gone-changed t f ys keeps) ∙ one (t == y.number) refl
  where
    one : (b : Bool) → (t == y.number) ≡ b → cond (not (t == (cond b (f y) y).number)) (cond b (f y) y ∷ without_ticket t ys) (without_ticket t ys) ≡ cond (not b) (y ∷ without_ticket t ys) (without_ticket t ys)
    one true e = ap (λ (b : Bool). cond (not b) (f y ∷ without_ticket t ys) (without_ticket t ys)) (ap (λ n. t == n) (keeps y) ∙ e)
    one false e = ap (λ (b : Bool). cond (not b) (y ∷ without_ticket t ys) (without_ticket t ys)) e

-- what a change of a ticket makes of a count that the changed one doesn't pass
pub count-changed : (p : Ticket → Bool) (t : ℕ) (f : Ticket → Ticket) (tickets : List Ticket) → ((x : Ticket) → p (f x) ≡ false)
    → count_by p (with_ticket t f tickets) + count_by (λ (x : Ticket). (t == x.number) && p x) tickets ≡ count_by p tickets
count-changed p t f [] h = refl
count-changed p t f (y ∷ ys) h =
    ap₂ ◌+◌ (count_by-cons p (cond (t == y.number) (f y) y) (with_ticket t f ys)) (count_by-cons (λ (x : Ticket). (t == x.number) && p x) y ys)
    ∙ one (count-changed p t f ys h) (t == y.number)
    ∙ sym (count_by-cons p y ys)
  where
    one : count_by p (with_ticket t f ys) + count_by (λ (x : Ticket). (t == x.number) && p x) ys ≡ count_by p ys → (b : Bool)
        → (cond (p (cond b (f y) y)) 1 0 + count_by p (with_ticket t f ys)) + (cond (b && p y) 1 0 + count_by (λ (x : Ticket). (t == x.number) && p x) ys) ≡ cond (p y) 1 0 + count_by p ys
    one rest true = let none : cond {A = ℕ} (p (f y)) 1 0 ≡ 0 = ap (λ (b : Bool). cond {A = ℕ} b 1 0) (h y) in omega (arith, rest, none)
    one rest false = omega (arith, rest)

-- a ticket that has left the line counts once at least
pub gone-ended : (k t : ℕ) (tickets : List Ticket) (x : Ticket) → ticket_of k t tickets ≡ Some x → is_out x.phase ≡ true → gone (without_ticket t tickets) + 1 ≤ gone tickets
gone-ended k t tickets x e out =
    let mine : (t == x.number) ≡ true = (and_parts (t == x.number) (k == x.client) (found_passes (is_of k t) tickets x e)).0 in
    let one : 1 ≤ count_by (λ (y : Ticket). (t == y.number) && has_gone y) tickets
    = found_counts (is_of k t) (λ (y : Ticket). (t == y.number) && has_gone y) tickets x e (ap₂ ◌&&◌ mine out) in
    omega (arith, one, count_by-filter_parts has_gone (λ (y : Ticket). t == y.number) tickets)

pub gone-ended_le : (t : ℕ) (tickets : List Ticket) → gone (without_ticket t tickets) ≤ gone tickets
gone-ended_le t tickets = omega (arith, count_by-filter_parts has_gone (λ (y : Ticket). t == y.number) tickets)

-- a number is that of one ticket at most
number-above : (t low : ℕ) (tickets : List Ticket) → t < low → All (λ (x : Ticket). low ≤ x.number) tickets → count_by (λ (x : Ticket). t == x.number) tickets ≡ 0
number-above t low [] lt all = refl
number-above t low (y ∷ ys) lt all =
    let first : low ≤ y.number = All-head (λ (x : Ticket). low ≤ x.number) y ys all in
    let not_it : (t == y.number) ≡ false = ne_eqb t y.number (λ e. absurd (omega arith)) in
    let none : cond {A = ℕ} (t == y.number) 1 0 ≡ 0 = ap (λ (b : Bool). cond {A = ℕ} b 1 0) not_it in
    let rest = number-above t low ys lt (All-tail (λ (x : Ticket). low ≤ x.number) y ys all) in
    omega (arith, none, rest, count_by-cons (λ (x : Ticket). t == x.number) y ys)

pub number-once : (low high t : ℕ) (tickets : List Ticket) → IsRising low (map number_of tickets) high → count_by (λ (x : Ticket). t == x.number) tickets ≤ 1
number-once low high t [] r = omega arith
number-once low high t (y ∷ ys) r = subst (λ n. n ≤ 1) (sym (count_by-cons (λ (x : Ticket). t == x.number) y ys)) (by (number-once (y.number + 1) high t ys r.1) (t == y.number) refl)
  where
    above : All (λ (x : Ticket). y.number + 1 ≤ x.number) ys
    above = rising_above (y.number + 1) ys high r.1

    by : count_by (λ (x : Ticket). t == x.number) ys ≤ 1 → (b : Bool) → (t == y.number) ≡ b → cond b 1 0 + count_by (λ (x : Ticket). t == x.number) ys ≤ 1
    by rest true e = let mine : t ≡ y.number = eqb-true t y.number e in let none = number-above t (y.number + 1) ys (omega arith) above in omega (arith, none)
    by rest false e = omega (arith, rest)

gone-changed_le : (t : ℕ) (f : Ticket → Ticket) (tickets : List Ticket) → gone (with_ticket t f tickets) ≤ gone tickets + count_by (λ (x : Ticket). t == x.number) tickets
gone-changed_le t f [] = omega arith
gone-changed_le t f (y ∷ ys) =
    let rest = gone-changed_le t f ys in
    let a = count_by-cons has_gone (cond (t == y.number) (f y) y) (with_ticket t f ys) in
    let b = count_by-cons has_gone y ys in
    let c = count_by-cons (λ (x : Ticket). t == x.number) y ys in
    let d = one (t == y.number) in
    omega (arith, rest, a, b, c, d)
  where
    one : (b : Bool) → cond {A = ℕ} (has_gone (cond b (f y) y)) 1 0 ≤ cond {A = ℕ} (has_gone y) 1 0 + cond {A = ℕ} b 1 0
    one true = small (has_gone (f y))
      where
        small : (b : Bool) → cond {A = ℕ} b 1 0 ≤ cond {A = ℕ} (has_gone y) 1 0 + 1
        small true = omega arith
        small false = omega arith
    one false = omega arith

-- a ticket that leaves the line counts once at most
pub gone-left_le : {C : Type 0} (core : Core C) → IsSound core → (t : ℕ) (f : Ticket → Ticket) → gone (with_ticket t f core.tickets) ≤ gone core.tickets + 1
gone-left_le core sound t f = omega (arith, gone-changed_le t f core.tickets, number-once 1 core.next_ticket t core.tickets sound.rising)

-- under test no more, where its ticket has another phase
pub tested-changed : {C : Type 0} (core : Core C) → IsSound core → (k t c : ℕ) (f : Ticket → Ticket) (x : Ticket) → ticket_of k t core.tickets ≡ Some x → tests c x ≡ true → ((y : Ticket) → tests c (f y) ≡ false)
    → count_by (tests c) (with_ticket t f core.tickets) ≡ 0
tested-changed core sound k t c f x e is other =
    let mine : (t == x.number) ≡ true = (and_parts (t == x.number) (k == x.client) (found_passes (is_of k t) core.tickets x e)).0 in
    let one : 1 ≤ count_by (λ (y : Ticket). (t == y.number) && tests c y) core.tickets
    = found_counts (is_of k t) (λ (y : Ticket). (t == y.number) && tests c y) core.tickets x e (ap₂ ◌&&◌ mine is) in
    let once = sound.once c in
    omega (arith, one, once, count-changed (tests c) t f core.tickets other)

abbrev pub KeepsOwner : (Ticket → Ticket) → Type 0
KeepsOwner f = (x : Ticket) → ((f x).number ≡ x.number) × ((f x).client ≡ x.client)

-- a changed ticket is found as the other was
pub ticket-changed : (k t : ℕ) (f : Ticket → Ticket) (tickets : List Ticket) (x : Ticket) → KeepsOwner f → ticket_of k t tickets ≡ Some x → ticket_of k t (with_ticket t f tickets) ≡ Some (f x)
ticket-changed k t f [] x keeps e = absurd (cc)
ticket-changed k t f (y ∷ ys) x keeps e = by (ticket-changed k t f ys x keeps) (t == y.number) (k == y.client) refl refl e
  where
    by : (ticket_of k t ys ≡ Some x → ticket_of k t (with_ticket t f ys) ≡ Some (f x)) → (a b : Bool) → (t == y.number) ≡ a → (k == y.client) ≡ b
        → cond (a && b) (Some y) (ticket_of k t ys) ≡ Some x
        → cond (is_of k t (cond a (f y) y)) (Some (cond a (f y) y)) (ticket_of k t (with_ticket t f ys)) ≡ Some (f x)
    by rest true true p q h =
        let number : (t == (f y).number) ≡ true = ap (λ n. t == n) (keeps y).0 ∙ p in
        let client : (k == (f y).client) ≡ true = ap (λ n. k == n) (keeps y).1 ∙ q in
        let same : y ≡ x = cc in
        ap (λ (b : Bool). cond b (Some (f y)) (ticket_of k t (with_ticket t f ys))) (ap₂ ◌&&◌ number client) ∙ ap (λ (z : Ticket). Some (f z)) same
    by rest true false p q h =
        let number : (t == (f y).number) ≡ true = ap (λ n. t == n) (keeps y).0 ∙ p in
        let client : (k == (f y).client) ≡ false = ap (λ n. k == n) (keeps y).1 ∙ q in
        ap (λ (b : Bool). cond b (Some (f y)) (ticket_of k t (with_ticket t f ys))) (ap₂ ◌&&◌ number client) ∙ rest h
    by rest false b p q h = ap (λ (b : Bool). cond (b && (k == y.client)) (Some y) (ticket_of k t (with_ticket t f ys))) p ∙ rest h
