-- A family goes on keeping its book after a step of a tenant.
use Rattle.std.proofs.Common.{◌≡◌, ℕ, ◌<◌, ◌≤◌, ◌+◌, ◌-◌, inl, inr, List, ◌++◌, Bool, true, false, cond, length, get_or, sym, ap, refl, ◌∙◌, subst, arith}
use Rattle.std.specs.Prelude.{slice_set}
use Rattle.std.specs.List.{list_any}
use Rattle.std.proofs.lemmas.Bool.Decides.{eqb_tells}
use Rattle.std.proofs.lemmas.List.{get_or-set_same, get_or-set_other, length-set}
use Rattle.sqlx_pool_marks.specs.declared.mark.Mark.{Mark}
use Rattle.sqlx_pool_marks.specs.Marks.{is_shut, idle_of, loans_of, live_of, next_ticket, next_conn}
use Rattle.sqlx_pool_lists.specs.Core.{Core, free}
use Rattle.sqlx_pool_lists.specs.Shared.{told, shared_of, with_permits}
use Rattle.sqlx_pool_lists.specs.StandsFor.{StandsIn}
use Rattle.sqlx_pool_core.proofs.TurnAtMarks.{gone-stands, owned-stands, idle-stands}
use Rattle.sqlx_family.specs.NoPool.{no_pool}
use Rattle.sqlx_family.specs.Pools.{entry_of, pool_in, counts_as_closed}
use Rattle.sqlx_family.specs.Permits as permits
use Rattle.sqlx_family.specs.FamilyLogs.{StandTogether, with_marks}
use Rattle.sqlx_family.proofs.BalanceLemmas.{pool-settled}
use Rattle.sqlx_family.proofs.LogLemmas as log
use Rattle.sqlx_lines.specs.Numbers.{nanos}
use Rattle.sqlx_tenants_rules.specs.declared.event.Opening.{Opening}
use Rattle.sqlx_tenants_rules.specs.Book.{Account, Book, nobody, account, is_retired, moved, logged, settled, stepped, greatest, ticket_due, conn_due}
use Rattle.sqlx_tenants_rules.specs.Book as book_of
use Rattle.sqlx_tenants.specs.Keeps.{IsAtRest, IsPool, AreAlike, Keeps, logs_of}
use Rattle.sqlx_tenants.proofs.Lists.{look-set}
use Rattle.sqlx_tenants.proofs.Books.{SameLogs, same-moved, same-as-it-is, greatest-kept, greatest-raised}
use Rattle.sqlx_tenants.proofs.Alike.{Family, Entry, alike-set, alike-moved}

-- ---- what a retired tenant frees

settled-alike_if : (timeout q n m : ℕ) (b c : Bool) (g : Family) (book : Book) → q < length book → AreAlike timeout g book → b ≡ c → n ≡ m
    → (b ≡ true → length (entry_of q g).core.idle + length (entry_of q g).core.held + n ≤ (entry_of q g).core.permits)
    → AreAlike timeout (cond b (permits.moved q 0 n g) g) (cond c (moved q 0 m book) book)
settled-alike_if timeout q n m true true g book lt k same count enough = alike-moved timeout q 0 n m g book lt (omega (arith, lt)) k count (enough refl)
settled-alike_if timeout q n m false false g book lt k same count enough = k
settled-alike_if timeout q n m true false g book lt k same count enough = absurd cc
settled-alike_if timeout q n m false true g book lt k same count enough = absurd cc

settled-as-if : (b : Bool) (q : ℕ) (g : Family) → cond b (permits.moved q 0 (free (entry_of q g).core) g) g ≡ permits.settled_if b q g
settled-as-if true q g = refl
settled-as-if false q g = refl

pub settled-alike : (timeout q : ℕ) (g : Family) (book : Book) → q < length book → AreAlike timeout g book → free (entry_of q g).core ≡ book_of.free (account q book) → AreAlike timeout (permits.settled q g) (settled q book)
settled-alike timeout q g book lt k count =
    subst (λ (h : Family). AreAlike timeout h (settled q book)) (settled-as-if (entry_of q g).retired q g)
    (settled-alike_if timeout q (free (entry_of q g).core) (book_of.free (account q book)) (entry_of q g).retired (is_retired (account q book)) g book lt k is.retired count
    (λ gone. let none = is.empty gone in let c = is.rests.covered in let p = is.rests.places in let l = is.rests.leaked in let t = is.rests.gone in omega (arith, none, c, p, l, t)))
  where
    is : IsPool timeout (entry_of q g) (account q book)
    is = k.each q lt

shared-settled_if : (b : Bool) (q : ℕ) (g : Family) → (permits.settled_if b q g).shared ≡ g.shared
shared-settled_if true q g = refl
shared-settled_if false q g = refl

same-settled_if : (c : Bool) (q n : ℕ) (book : Book) → q < length book → SameLogs (cond c (moved q 0 n book) book) book
same-settled_if true q n book lt = same-moved q 0 n book lt (omega (arith, lt))
same-settled_if false q n book lt = same-as-it-is book

pub same-settled : (q : ℕ) (book : Book) → q < length book → SameLogs (settled q book) book
same-settled q book lt = same-settled_if (is_retired (account q book)) q (book_of.free (account q book)) book lt

-- ---- a book with more marks

module _ (q : ℕ) (made : List Mark) (book : Book) (lt : q < length book) where
  abbrev longer : Account
  longer = record (account q book) { marks = (account q book).marks ++ made }

  pub length-logged : length (logged q made book) ≡ length book
  length-logged = length-set book q longer

  pub logged-marks : (r : ℕ) → (account r (logged q made book)).marks ≡ with_marks q made (logs_of book) r
  logged-marks r = elim (eqb_tells r q) [
    | inl is ↦ subst (λ (n : ℕ). (account n (logged q made book)).marks ≡ with_marks q made (logs_of book) n) (sym is.1)
        (ap (λ (a : Account). a.marks) (get_or-set_same book q longer nobody lt) ∙ sym (log.same q made (logs_of book)))
    | inr other ↦ ap (λ (a : Account). a.marks) (get_or-set_other book q r longer nobody other.1) ∙ sym (log.other q r made (logs_of book) other.1)
  ]

  pub logged-budget : (r : ℕ) → (account r (logged q made book)).budget ≡ (account r book).budget
  logged-budget r = look-set (λ (a : Account). a.budget) book q r longer nobody lt refl

  -- marks that draw no number
  pub logged-kept : (f : List Mark → ℕ) → f ((account q book).marks ++ made) ≡ f (account q book).marks → greatest (λ a. f a.marks) (logged q made book) ≡ greatest (λ a. f a.marks) book
  logged-kept f e = greatest-kept (λ a. f a.marks) book q longer nobody lt e

  -- marks that draw the next number
  pub logged-raised : (f : List Mark → ℕ) → f ((account q book).marks ++ made) ≡ greatest (λ a. f a.marks) book + 1 → greatest (λ a. f a.marks) (logged q made book) ≡ greatest (λ a. f a.marks) book + 1
  logged-raised f e = greatest-raised (λ a. f a.marks) book q longer lt (omega (arith, e)) ∙ e

-- One pool of a family changed, and the family goes on from its numbers.
pub record Changes (f : Family) (q : ℕ) (core : Core (Unit {0})) (gone : Bool) (g : Family) : Type 0 where
  pub pools : g.pools ≡ slice_set f.pools q (record { core = core; retired = gone })
  pub shared : g.shared ≡ shared_of core

-- What a step of a tenant leaves of its pool: the options and the permits that it had, nothing under way, and where the tenant is retired nothing idle; the numbers that come next are those of the book with the marks; and no more connections are open than there came to be idle or owned.
pub record Rested (f : Family) (book : Book) (q : ℕ) (core : Core (Unit {0})) (gone : Bool) (made : List Mark) (moment : ℕ) : Type 0 where
  pub options : core.options ≡ (entry_of q f).core.options
  pub permits : core.permits ≡ (entry_of q f).core.permits
  pub rests : IsAtRest core
  pub empty : gone ≡ true → length core.idle ≡ 0
  pub retired : gone ≡ list_any is_shut ((account q book).marks ++ made)
  pub tickets : core.next_ticket ≡ ticket_due (logged q made book)
  pub conns : core.next_conn ≡ conn_due (logged q made book)
  pub last : core.last ≤ moment
  pub lives : length (live_of ((account q book).marks ++ made)) + (length (entry_of q f).core.idle + length (entry_of q f).core.held) ≤ length (live_of (account q book).marks) + (length core.idle + length core.held)

module _ (first : Opening) (f g : Family) (book : Book) (m later q : ℕ) (core : Core (Unit {0})) (gone : Bool) (made : List Mark) (k : Keeps first f book m) (child : 1 ≤ q) (lt : q < length book) (c : Changes f q core gone g) (r : Rested f book q core gone made later) where
  abbrev p : Entry
  p = record { core = core; retired = gone }

  abbrev next : Book
  next = logged q made book

  is : IsPool (nanos first.timeout) (entry_of q f) (account q book)
  is = k.alike.each q lt

  inside : q < length f.pools
  inside = let e = k.alike.names in omega (arith, e, lt)

  below : q < length next
  below = let e = length-logged q made book lt in omega (arith, e, lt)

  alike : AreAlike (nanos first.timeout) g next
  alike = alike-set (nanos first.timeout) q f g book p (record (account q book) { marks = (account q book).marks ++ made }) lt k.alike
      (record {
        options = r.options ∙ is.options;
        owned = r.permits ∙ is.owned;
        retired = r.retired;
        rests = r.rests;
        empty = r.empty;
      }) c.pools

  here : entry_of q g ≡ p
  here = ap (λ (xs : List Entry). get_or xs q no_pool) c.pools ∙ get_or-set_same f.pools q p no_pool inside

  next_here : account q next ≡ record (account q book) { marks = (account q book).marks ++ made }
  next_here = get_or-set_same book q (record (account q book) { marks = (account q book).marks ++ made }) nobody lt

  within_g : q < length g.pools
  within_g = let e = length-set f.pools q p in let n = ap length c.pools in omega (arith, e, n, inside)

  length-settled_if : (b : Bool) → length (permits.settled_if b q g).pools ≡ length g.pools
  length-settled_if true =
      let less = permits.with_less q (free (entry_of q g).core) g in
      length-set less.pools 0 (record (entry_of 0 less) { core = with_permits ((entry_of 0 less).core.permits + free (entry_of q g).core) (entry_of 0 less).core })
      ∙ length-set g.pools q (record (entry_of q g) { core = with_permits ((entry_of q g).core.permits - free (entry_of q g).core) (entry_of q g).core })
  length-settled_if false = refl

  own : StandTogether (permits.settled q g) (with_marks q made (logs_of book)) → (n : ℕ) × StandsIn (with_permits n (told (counts_as_closed q g) g.shared core)) ((account q book).marks ++ made)
  own stand =
      let at = stand q (let e = length-settled_if (entry_of q g).retired in omega (arith, e, within_g)) in
      let so = pool-settled q g within_g in (
        so.0,
        subst (StandsIn (with_permits so.0 (told (counts_as_closed q g) g.shared core))) (log.same q made (logs_of book))
            (subst (λ (x : Core (Unit {0})). StandsIn x (with_marks q made (logs_of book) q)) (so.1 ∙ ap (λ (x : Entry). with_permits so.0 (told (counts_as_closed q g) g.shared x.core)) here) at),
      )

  free-same : StandTogether (permits.settled q g) (with_marks q made (logs_of book)) → free (entry_of q g).core ≡ book_of.free (account q next)
  free-same stand =
      let s = own stand in
      let x = with_permits s.0 (told (counts_as_closed q g) g.shared core) in
      let loans = owned-stands x ((account q book).marks ++ made) s.1 in
      let left = gone-stands x ((account q book).marks ++ made) s.1 in
      let leaked = s.1.leaked in
      let places = r.rests.places in
      let permits = r.permits ∙ is.owned in
      ap (λ (x : Entry). free x.core) here ∙ omega (arith, loans, left, leaked, places, permits) ∙ sym (ap book_of.free next_here)

  -- no more connections are open than are idle or owned
  abbrev AreFew : List Mark → Type 0
  AreFew marks = length (live_of marks) ≤ length (idle_of marks) + length (loans_of marks)

  few-own : StandTogether (permits.settled q g) (with_marks q made (logs_of book)) → AreFew ((account q book).marks ++ made)
  few-own stand =
      let s = own stand in
      let x = with_permits s.0 (told (counts_as_closed q g) g.shared core) in
      let old = k.logs q inside in
      let idle = idle-stands x ((account q book).marks ++ made) s.1 in
      let held = owned-stands x ((account q book).marks ++ made) s.1 in
      let idle_old = idle-stands (pool_in q f) (account q book).marks old in
      let held_old = owned-stands (pool_in q f) (account q book).marks old in
      let was = k.lives q lt in
      let more = r.lives in
      omega (arith, idle, held, idle_old, held_old, was, more)

  few-behind : StandTogether (permits.settled q g) (with_marks q made (logs_of book)) → (n : ℕ) → n < length book → AreFew (with_marks q made (logs_of book) n)
  few-behind stand n within = elim (eqb_tells n q) [
    | inl same ↦ subst (λ (z : ℕ). AreFew (with_marks q made (logs_of book) z)) (sym same.1) (subst AreFew (sym (log.same q made (logs_of book))) (few-own stand))
    | inr other ↦ subst AreFew (sym (log.other q n made (logs_of book) other.1)) (k.lives n within)
  ]

  pub keeps-stepped : (new : Family) → new ≡ permits.settled q g → StandTogether new (with_marks q made (logs_of book)) → Keeps first new (stepped q made book) later
  keeps-stepped new becomes stand = subst (λ (h : Family). StandTogether h (with_marks q made (logs_of book)) → Keeps first h (stepped q made book) later) (sym becomes) keeps stand
    where
      same : SameLogs (settled q next) next
      same = same-settled q next below

      shared : (permits.settled q g).shared ≡ shared_of core
      shared = shared-settled_if (entry_of q g).retired q g ∙ c.shared

      keeps : StandTogether (permits.settled q g) (with_marks q made (logs_of book)) → Keeps first (permits.settled q g) (stepped q made book) later
      keeps stands = record {
        alike = settled-alike (nanos first.timeout) q g next below alike (free-same stands);
        some = let a = same.names in let b = length-logged q made book lt in let e = k.some in omega (arith, a, b, e);
        few = let a = same.names in let b = length-logged q made book lt in let e = k.few in omega (arith, a, b, e);
        logs = λ n within. subst (StandsIn (pool_in n (permits.settled q g))) (sym (same.marks n ∙ logged-marks q made book lt n)) (stands n within);
        root = same.marks 0 ∙ logged-marks q made book lt 0 ∙ log.other q 0 made (logs_of book) (omega (arith, child)) ∙ k.root;
        limit = same.budgets 0 ∙ logged-budget q made book lt 0 ∙ k.limit;
        tickets = ap (λ h. h.next_ticket) shared ∙ r.tickets ∙ sym (same.greatest next_ticket);
        conns = ap (λ h. h.next_conn) shared ∙ r.conns ∙ sym (same.greatest next_conn);
        reached = let e = ap (λ h. h.last.0) shared in let l = r.last in omega (arith, e, l);
        lives = λ n within. subst AreFew (sym (same.marks n ∙ logged-marks q made book lt n)) (few-behind stands n (let a = same.names in let b = length-logged q made book lt in omega (arith, within, a, b)));
      }
