-- A pool of a family stands for its log where that is cut by the family's numbers. Each mark that would draw the last of these numbers is put behind the log, so that the cut is that of a pool that is alone, and taken away again.
use Rattle.std.proofs.Common.{◌≡◌, ℕ, ◌+◌, ◌-◌, ◌<◌, ◌≤◌, ◌||◌, ◌==◌, not, Bool, true, false, cond, Option, Some, None, option_map, unwrap_or, find, List, [], ◌∷◌, ◌++◌, All, length, refl, sym, ap, ◌∙◌, subst, append_assoc, arith}
use Rattle.std.specs.List.{list_any}
use Rattle.std.proofs.lemmas.Bool.{eq-eqb}
use Rattle.std.proofs.lemmas.List.{append_cancel_right}
use Rattle.std.proofs.lemmas.List.Elements.{All-head, All-tail, All-weaker}
use Rattle.sqlx_pool_marks.specs.declared.mark.Mark.{Mark}
use Rattle.sqlx_pool_marks.specs.declared.mark.Mark.TheVariants.{Asked, Left, Taken, Reaped, Opened, Lent, Kept, Closed, Detached, Leaked, Ended, Shut}
use Rattle.sqlx_pool_marks.specs.Standing.{still, standing, next_after, next_number}
use Rattle.sqlx_pool_marks.specs.Marks.{PendingTicket, LiveConn, tickets_of, loans_of, idle_of, live_of, leaked_of, is_shut, is_leak, is_ended, is_left, unended, asks, lends, ends_loan, keeps, ends_rest, opens, ends_conn, ends_life, is_live_conn, asked_number, opened_number, next_conn}
use Rattle.sqlx_pool_marks.specs.View.{View, view_of}
use Rattle.sqlx_pool_marks.specs.Born.{IsBorn, IsNamedBelow}
use Rattle.sqlx_pool_marks.specs.Cut.{is_last, is_needed, needed_of, cut_of}
use Rattle.sqlx_pool_marks.proofs.ListFacts.{same_number}
use Rattle.sqlx_pool_marks.proofs.Counting.{count-append}
use Rattle.sqlx_pool_marks.proofs.CutLemmas.{view-cut, all-needed}
use Rattle.sqlx_pool_lists.specs.declared.steps.Idle.{Idle}
use Rattle.sqlx_pool_lists.specs.declared.ticket.Ticket.{Ticket}
use Rattle.sqlx_pool_lists.specs.declared.ticket.OwnedConn.{OwnedConn}
use Rattle.sqlx_pool_lists.specs.declared.ticket.Phase.{Phase}
use Rattle.sqlx_pool_lists.specs.declared.ticket.Phase.TheVariants as phase
use Rattle.sqlx_pool_lists.specs.Core.{Core}
use Rattle.sqlx_pool_lists.specs.StandsFor.{StandsIn, IsTestedBorn}
use Rattle.sqlx_family.specs.Pools.{Pools, pool_in}
use Rattle.sqlx_family.specs.IsFamily.{IsFamily}
use Rattle.sqlx_family.specs.FamilyLogs.{StandTogether, IsNext, Numbered}
use Rattle.sqlx_family.proofs.LogLemmas.{numbered-of, numbered-by}
use Rattle.sqlx_family_steps.specs.FamilyCut.{FamilyCuts, cut_in, with_cut}

-- ---- two marks that draw the last numbers, behind others

module _ (t c : ℕ) where
  abbrev drawn : List Mark
  drawn = Asked t 0 0 ∷ Opened c 0 ∷ []

  any-drawn : (q : Mark → Bool) → q (Asked t 0 0) ≡ false → q (Opened c 0) ≡ false → (marks : List Mark) → list_any q (marks ++ drawn) ≡ list_any q marks
  any-drawn q a o [] = ap (λ (b : Bool). b || (q (Opened c 0) || false)) a ∙ ap (λ (b : Bool). b || false) o
  any-drawn q a o (m ∷ later) = ap (λ (b : Bool). q m || b) (any-drawn q a o later)

  asked-drawn : (n : ℕ) (marks : List Mark) → next_number asked_number n (marks ++ drawn) ≡ t + 1
  asked-drawn n [] = refl
  asked-drawn n (m ∷ later) = asked-drawn (next_after (asked_number m) n) later

  opened-drawn : (n : ℕ) (marks : List Mark) → next_number opened_number n (marks ++ drawn) ≡ c + 1
  opened-drawn n [] = refl
  opened-drawn n (m ∷ later) = opened-drawn (next_after (opened_number m) n) later

  needs-drawn : (m : Mark) (later : List Mark) → is_needed (t + 1) (c + 1) m (later ++ drawn) ≡ is_needed (t + 1) (c + 1) m later
  needs-drawn (Asked u k d) later = ap (λ (b : Bool). is_last (t + 1) u || not b) (any-drawn (is_ended u) refl refl later)
  needs-drawn (Left u) later = ap not (any-drawn (is_ended u) refl refl later)
  needs-drawn (Taken d) later = refl
  needs-drawn (Reaped d) later = refl
  needs-drawn (Opened d m) later = ap (λ (b : Bool). is_last (c + 1) d || not b) (any-drawn (ends_conn d) refl refl later)
  needs-drawn (Lent k d) later = ap not (any-drawn (ends_loan (record { client = k; conn = d })) refl refl later)
  needs-drawn (Kept d m) later = ap not (any-drawn (ends_rest (record { conn = d; since = m })) refl refl later)
  needs-drawn (Closed d) later = refl
  needs-drawn (Detached d) later = refl
  needs-drawn (Leaked d) later = refl
  needs-drawn (Ended u) later = refl
  needs-drawn Shut later = refl

  needed-drawn : (marks : List Mark) → needed_of (t + 1) (c + 1) (marks ++ drawn) ≡ needed_of (t + 1) (c + 1) marks ++ drawn
  needed-drawn [] = both (t + 1 == t + 1) (c + 1 == c + 1) (same_number (t + 1)) (same_number (c + 1))
    where
      both : (a o : Bool) → a ≡ true → o ≡ true → cond (a || true) (Asked t 0 0 ∷ cond (o || true) (Opened c 0 ∷ []) []) (cond (o || true) (Opened c 0 ∷ []) []) ≡ drawn
      both true true a o = refl
      both true false a o = absurd cc
      both false o a b = absurd cc
  needed-drawn (m ∷ later) = by (is_needed (t + 1) (c + 1) m (later ++ drawn)) (is_needed (t + 1) (c + 1) m later) (needs-drawn m later) (needed-drawn later)
    where
      by : (a b : Bool) → a ≡ b → needed_of (t + 1) (c + 1) (later ++ drawn) ≡ needed_of (t + 1) (c + 1) later ++ drawn
          → cond a (m ∷ needed_of (t + 1) (c + 1) (later ++ drawn)) (needed_of (t + 1) (c + 1) (later ++ drawn)) ≡ cond b (m ∷ needed_of (t + 1) (c + 1) later) (needed_of (t + 1) (c + 1) later) ++ drawn
      by true true e rest = ap (λ (l : List Mark). m ∷ l) rest
      by false false e rest = rest
      by true false e rest = absurd cc
      by false true e rest = absurd cc

  cut-drawn : (marks : List Mark) → cut_of (marks ++ drawn) ≡ needed_of (t + 1) (c + 1) marks ++ drawn
  cut-drawn marks =
      ap (λ (n : ℕ). needed_of n (next_conn (marks ++ drawn)) (marks ++ drawn)) (asked-drawn 1 marks)
      ∙ ap (λ (n : ℕ). needed_of (t + 1) n (marks ++ drawn)) (opened-drawn 1 marks)
      ∙ needed-drawn marks

  -- what stands, with what those two begin
  standing-drawn : {X : Type 0} (begins : Mark → Option X) (ends : X → Mark → Bool) → ((x : X) → ends x (Asked t 0 0) ≡ false) → ((x : X) → ends x (Opened c 0) ≡ false)
      → (marks : List Mark) → standing begins ends (marks ++ drawn) ≡ standing begins ends marks ++ standing begins ends drawn
  standing-drawn begins ends a o [] = refl
  standing-drawn {X} begins ends a o (m ∷ later) = by (standing-drawn begins ends a o later) (begins m) ∙ sym (append_assoc (still ends (begins m) later) (standing begins ends later) (standing begins ends drawn))
    where
      by : standing begins ends (later ++ drawn) ≡ standing begins ends later ++ standing begins ends drawn → (x : Option X)
          → still ends x (later ++ drawn) ++ standing begins ends (later ++ drawn) ≡ still ends x later ++ (standing begins ends later ++ standing begins ends drawn)
      by rest None = rest
      by rest (Some x) =
          ap (λ (b : Bool). cond b [] (x ∷ []) ++ standing begins ends (later ++ drawn)) (any-drawn (ends x) (a x) (o x) later)
          ∙ ap (λ (l : List X). still ends (Some x) later ++ l) rest

  tickets-drawn : (marks : List Mark) → tickets_of (marks ++ drawn) ≡ tickets_of marks ++ tickets_of drawn
  tickets-drawn [] = refl
  tickets-drawn (m ∷ later) = by (tickets-drawn later) (asks m) ∙ sym (append_assoc (unended (asks m) later) (tickets_of later) (tickets_of drawn))
    where
      by : tickets_of (later ++ drawn) ≡ tickets_of later ++ tickets_of drawn → (x : Option PendingTicket) → unended x (later ++ drawn) ++ tickets_of (later ++ drawn) ≡ unended x later ++ (tickets_of later ++ tickets_of drawn)
      by rest None = rest
      by rest (Some a) =
          ap (λ (b : Bool). cond b [] ((record a { left = list_any (is_left a.ticket) (later ++ drawn) }) ∷ []) ++ tickets_of (later ++ drawn)) (any-drawn (is_ended a.ticket) refl refl later)
          ∙ ap (λ (b : Bool). cond (list_any (is_ended a.ticket) later) [] ((record a { left = b }) ∷ []) ++ tickets_of (later ++ drawn)) (any-drawn (is_left a.ticket) refl refl later)
          ∙ ap (λ (l : List PendingTicket). unended (Some a) later ++ l) rest

-- ---- a cut by numbers that come next in more logs than this one

-- no number is told that is still to come
asked-below : (n tickets conns : ℕ) (marks : List Mark) → n ≤ tickets → All (IsNamedBelow tickets conns) marks → next_number asked_number n marks ≤ tickets
asked-below n tickets conns [] first all = first
asked-below n tickets conns (m ∷ later) first all = asked-below (next_after (asked_number m) n) tickets conns later (by m (All-head (IsNamedBelow tickets conns) m later all)) (All-tail (IsNamedBelow tickets conns) m later all)
  where
    by : (m : Mark) → IsNamedBelow tickets conns m → next_after (asked_number m) n ≤ tickets
    by (Asked t k d) below = omega (arith, below)
    by m below = first

opened-below : (n tickets conns : ℕ) (marks : List Mark) → n ≤ conns → All (IsNamedBelow tickets conns) marks → next_number opened_number n marks ≤ conns
opened-below n tickets conns [] first all = first
opened-below n tickets conns (m ∷ later) first all = opened-below (next_after (opened_number m) n) tickets conns later (by m (All-head (IsNamedBelow tickets conns) m later all)) (All-tail (IsNamedBelow tickets conns) m later all)
  where
    by : (m : Mark) → IsNamedBelow tickets conns m → next_after (opened_number m) n ≤ conns
    by (Opened c d) below = omega (arith, below)
    by m below = first

-- what a cut by the last numbers leaves as it was
record Same (cut marks : List Mark) : Type 0 where
  pub tickets : tickets_of cut ≡ tickets_of marks
  pub loans : loans_of cut ≡ loans_of marks
  pub idle : idle_of cut ≡ idle_of marks
  pub live : live_of cut ≡ live_of marks
  pub leaked : leaked_of cut ≡ leaked_of marks
  pub shut : list_any is_shut cut ≡ list_any is_shut marks

same-needed : (t c : ℕ) (marks : List Mark) → Same (needed_of (t + 1) (c + 1) marks) marks
same-needed t c marks =
    let cut = needed_of (t + 1) (c + 1) marks in
    let views = ap view_of (sym (cut-drawn t c marks)) ∙ view-cut (marks ++ drawn t c) in
    record {
      tickets = append_cancel_right (tickets_of cut) (tickets_of marks) (tickets_of (drawn t c)) (sym (tickets-drawn t c cut) ∙ ap (λ (v : View). v.tickets) views ∙ tickets-drawn t c marks);
      loans = append_cancel_right (loans_of cut) (loans_of marks) (loans_of (drawn t c)) (sym (standing-drawn t c lends ends_loan (λ x. refl) (λ x. refl) cut) ∙ ap (λ (v : View). v.loans) views ∙ standing-drawn t c lends ends_loan (λ x. refl) (λ x. refl) marks);
      idle = append_cancel_right (idle_of cut) (idle_of marks) (idle_of (drawn t c)) (sym (standing-drawn t c keeps ends_rest (λ x. refl) (λ x. refl) cut) ∙ ap (λ (v : View). v.idle) views ∙ standing-drawn t c keeps ends_rest (λ x. refl) (λ x. refl) marks);
      live = append_cancel_right (live_of cut) (live_of marks) (live_of (drawn t c)) (sym (standing-drawn t c opens ends_life (λ x. refl) (λ x. refl) cut) ∙ ap (λ (v : View). v.live) views ∙ standing-drawn t c opens ends_life (λ x. refl) (λ x. refl) marks);
      leaked = let a = count-append is_leak cut (drawn t c) in let b = count-append is_leak marks (drawn t c) in let e = ap (λ (v : View). v.leaked) views in omega (arith, a, b, e);
      shut = sym (any-drawn t c is_shut refl refl cut) ∙ ap (λ (v : View). v.shut) views ∙ any-drawn t c is_shut refl refl marks;
    }

-- a pool stands for its log where that is cut by the numbers that it knows to come next
pub stands-needed : {C : Type 0} (core : Core C) (marks : List Mark) → 1 ≤ core.next_ticket → 1 ≤ core.next_conn → StandsIn core marks → StandsIn core (needed_of core.next_ticket core.next_conn marks)
stands-needed {C} core marks ticket conn s =
    let e : core.next_ticket - 1 + 1 ≡ core.next_ticket = omega (arith, ticket) in
    let d : core.next_conn - 1 + 1 ≡ core.next_conn = omega (arith, conn) in
    let same : Same (needed_of core.next_ticket core.next_conn marks) marks =
    subst (λ (n : ℕ). Same (needed_of n core.next_conn marks) marks) e (subst (λ (n : ℕ). Same (needed_of (core.next_ticket - 1 + 1) n marks) marks) d (same-needed (core.next_ticket - 1) (core.next_conn - 1) marks)) in
    let named = all-needed core.next_ticket core.next_conn (IsNamedBelow core.next_ticket core.next_conn) marks s.named in
    let cut = needed_of core.next_ticket core.next_conn marks in
    let born : (c m : ℕ) → IsBorn marks c m → IsBorn cut c m = λ c m b. ap (λ (l : List LiveConn). option_map (λ (b : LiveConn). b.moment) (find (is_live_conn c) l)) same.live ∙ b in
    record {
      tickets = s.tickets ∙ sym same.tickets;
      loans = s.loans ∙ sym same.loans;
      idle = s.idle ∙ sym same.idle;
      leaked = s.leaked ∙ sym same.leaked;
      shut = s.shut ∙ sym same.shut;
      ticket_number = asked-below 1 core.next_ticket core.next_conn cut ticket named;
      conn_number = opened-below 1 core.next_ticket core.next_conn cut conn named;
      named = named;
      held_born = All-weaker (λ (h : OwnedConn). IsBorn marks h.conn h.created.0) (λ (h : OwnedConn). IsBorn cut h.conn h.created.0) (λ h. born h.conn h.created.0) core.held s.held_born;
      idle_born = All-weaker (λ (i : Idle C). IsBorn marks i.lent.id i.lent.created.0) (λ (i : Idle C). IsBorn cut i.lent.id i.lent.created.0) (λ i. born i.lent.id i.lent.created.0) core.idle s.idle_born;
      tested_born = All-weaker (λ (t : Ticket). IsTestedBorn marks t.phase) (λ (t : Ticket). IsTestedBorn cut t.phase) (λ t. tested cut born t.phase) core.tickets s.tested_born;
    }
  where
    tested : (cut : List Mark) → ((c m : ℕ) → IsBorn marks c m → IsBorn cut c m) → (p : Phase) → IsTestedBorn marks p → IsTestedBorn cut p
    tested cut born (phase.Testing c created before) b = born c created.0 b
    tested cut born phase.Waiting b = tt
    tested cut born phase.Connecting b = tt
    tested cut born (phase.Backoff until) b = tt

-- ---- the last numbers stay

-- a mark that tells the last number is needed
last-asked : (t c : ℕ) (m : Mark) (later : List Mark) (u : ℕ) → asked_number m ≡ Some u → u + 1 ≡ t → is_needed t c m later ≡ true
last-asked t c (Asked v k d) later u is e = ap (λ (b : Bool). b || not (list_any (is_ended v) later)) (eq-eqb (v + 1) t (ap (λ (o : Option ℕ). unwrap_or o v + 1) is ∙ e))
last-asked t c m later u is e = absurd cc

last-opened : (t c : ℕ) (m : Mark) (later : List Mark) (u : ℕ) → opened_number m ≡ Some u → u + 1 ≡ c → is_needed t c m later ≡ true
last-opened t c (Opened v d) later u is e = ap (λ (b : Bool). b || not (list_any (ends_conn v) later)) (eq-eqb (v + 1) c (ap (λ (o : Option ℕ). unwrap_or o v + 1) is ∙ e))
last-opened t c m later u is e = absurd cc

module _ (t c next : ℕ) (draws : Mark → Option ℕ) (last : (m : Mark) (later : List Mark) (u : ℕ) → draws m ≡ Some u → u + 1 ≡ next → is_needed t c m later ≡ true) where
  last-needed : (a b : ℕ) (marks : List Mark) → (a ≡ next → b ≡ next) → next_number draws a marks ≡ next → next_number draws b (needed_of t c marks) ≡ next
  last-needed a b [] same e = same e
  last-needed a b (m ∷ later) same e = by (λ x y. last-needed x y later) (draws m) refl e (is_needed t c m later) refl
    where
      by : ((x y : ℕ) → (x ≡ next → y ≡ next) → next_number draws x later ≡ next → next_number draws y (needed_of t c later) ≡ next)
          → (o : Option ℕ) → draws m ≡ o → next_number draws (next_after o a) later ≡ next → (n : Bool) → is_needed t c m later ≡ n → next_number draws b (cond n (m ∷ needed_of t c later) (needed_of t c later)) ≡ next
      by rest None is e true needs = ap (λ (o : Option ℕ). next_number draws (next_after o b) (needed_of t c later)) is ∙ rest a b same e
      by rest (Some u) is e true needs = ap (λ (o : Option ℕ). next_number draws (next_after o b) (needed_of t c later)) is ∙ rest (u + 1) (u + 1) (λ n. n) e
      by rest None is e false needs = rest a b same e
      by rest (Some u) is e false needs = rest (u + 1) b (λ n. absurd (let f = sym (last m later u is n) ∙ needs in cc)) e

-- the pools of a family stand for their logs where that of one of them is cut
module _ {C : Type 0} (f : Pools C) (q : ℕ) (is : IsFamily f) (logs : ℕ → List Mark) (s : StandTogether f logs) where
  stands-cut : StandTogether f (with_cut f.shared q logs)
  stands-cut p below = by (p == q)
    where
      by : (b : Bool) → StandsIn (pool_in p f) (cond b (cut_in f.shared (logs p)) (logs p))
      by true = stands-needed (pool_in p f) (logs p) is.first_ticket is.first_conn (s p below)
      by false = s p below

  -- the log that tells the last number of a kind tells it behind the cut
  next-cut : (draws : Mark → Option ℕ) (n : ℕ) → ((m : Mark) (later : List Mark) (u : ℕ) → draws m ≡ Some u → u + 1 ≡ n → is_needed f.shared.next_ticket f.shared.next_conn m later ≡ true)
      → ((p : ℕ) → p < length f.pools → next_number draws 1 (with_cut f.shared q logs p) ≤ n) → IsNext (next_number draws 1) logs (length f.pools) n → IsNext (next_number draws 1) (with_cut f.shared q logs) (length f.pools) n
  next-cut draws n last most known = record { most = most; one = (known.one.0, (known.one.1.0, by (known.one.0 == q))) }
    where
      by : (b : Bool) → next_number draws 1 (cond b (cut_in f.shared (logs known.one.0)) (logs known.one.0)) ≡ n
      by true = last-needed f.shared.next_ticket f.shared.next_conn n draws last 1 1 (logs known.one.0) (λ e. e) known.one.1.1
      by false = known.one.1.1

  family-cut : StandTogether f (with_cut f.shared q logs) × (Numbered f logs → Numbered f (with_cut f.shared q logs))
  family-cut = (
    stands-cut,
    λ known. numbered-of f (with_cut f.shared q logs) (
      next-cut asked_number f.shared.next_ticket (last-asked f.shared.next_ticket f.shared.next_conn) (λ p below. (stands-cut p below).ticket_number) (numbered-by f logs known).0,
      next-cut opened_number f.shared.next_conn (last-opened f.shared.next_ticket f.shared.next_conn) (λ p below. (stands-cut p below).conn_number) (numbered-by f logs known).1,
    ),
  )

pub family-cuts : {C : Type 0} (f : Pools C) (q : ℕ) → IsFamily f → FamilyCuts f q
family-cuts f q is logs s = family-cut f q is logs s
