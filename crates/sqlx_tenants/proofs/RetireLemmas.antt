-- A family goes on keeping its book after a tenant is retired.
use Rattle.std.proofs.Common.{◌≡◌, ℕ, ◌<◌, ◌≤◌, List, [], ◌∷◌, ◌++◌, Bool, true, false, cond, length, map, sym, ap, refl, ◌∙◌, subst, arith, Option, append-nil}
use Rattle.std.specs.Prelude.{slice_set}
use Rattle.std.specs.List.{list_any}
use Rattle.std.proofs.lemmas.List.{get_or-set_same, set-set}
use Rattle.std.proofs.lemmas.List.Folds.{list_any-append}
use Rattle.sqlx_pool_marks.specs.declared.mark.Mark.{Mark}
use Rattle.sqlx_pool_marks.specs.declared.mark.Mark.TheVariants.{Shut, Closed}
use Rattle.sqlx_pool_marks.specs.Marks.{IdleEntry, is_shut, idle_of, next_ticket, next_conn, asked_number, opened_number}
use Rattle.sqlx_pool_marks.specs.Standing.{next_number, next_after}
use Rattle.sqlx_pool_marks.proofs.ListFacts.{or-true}
use Rattle.sqlx_pool_lists.specs.declared.steps.Idle.{Idle}
use Rattle.sqlx_pool_lists.specs.Core.{Core, resting}
use Rattle.sqlx_pool_lists.specs.MaintenanceSteps.{close_marks, close_answer, closed_from, closed, closed_idle}
use Rattle.sqlx_pool_core.proofs.TurnAtMarks.{idle-stands}
use Rattle.sqlx_family.specs.NoPool.{no_pool}
use Rattle.sqlx_family.specs.Pools.{entry_of, pool_in, with_pool}
use Rattle.sqlx_family.specs.Permits as permits
use Rattle.sqlx_family.specs.FamilyLogs.{FamilyLogs}
use Rattle.sqlx_lines.specs.Numbers.{nanos}
use Rattle.sqlx_tenants_rules.specs.declared.event.Opening.{Opening}
use Rattle.sqlx_tenants_rules.specs.declared.reply.Reply.TheVariants as reply
use Rattle.sqlx_tenants_rules.specs.Book.{Book, account, is_retired, stepped}
use Rattle.sqlx_tenants_rules.specs.Rules.{retire_reply, after_retire, closed_rest}
use Rattle.sqlx_tenants.specs.Keeps.{IsPool, Keeps, logs_of}
use Rattle.sqlx_tenants.proofs.Alike.{Family, Entry}
use Rattle.sqlx_tenants.proofs.Reading.{is, stands, named}
use Rattle.sqlx_tenants.proofs.Lives.{live-behind, live-shut}
use Rattle.sqlx_tenants.proofs.Stepping.{Changes, keeps-stepped, logged-kept}

-- ---- marks that draw no number

pub number-append : (draws : Mark → Option ℕ) (n : ℕ) (xs ys : List Mark) → next_number draws n (xs ++ ys) ≡ next_number draws (next_number draws n xs) ys
number-append draws n [] ys = refl
number-append draws n (x ∷ xs) ys = number-append draws (next_after (draws x) n) xs ys

tickets-of_closing : (n : ℕ) (rs : List IdleEntry) → next_number asked_number n (map closed_rest rs) ≡ n
tickets-of_closing n [] = refl
tickets-of_closing n (r ∷ rs) = tickets-of_closing n rs

conns-of_closing : (n : ℕ) (rs : List IdleEntry) → next_number opened_number n (map closed_rest rs) ≡ n
conns-of_closing n [] = refl
conns-of_closing n (r ∷ rs) = conns-of_closing n rs

map-both : {C : Type 0} (idle : List (Idle C)) → map closed_idle idle ≡ map closed_rest (map resting idle)
map-both [] = refl
map-both (i ∷ rest) = ap (λ l. Closed i.lent.id ∷ l) (map-both rest)

module _ (first : Opening) (f new : Family) (book : Book) (m now q : ℕ) (k : Keeps first f book m) (le : m ≤ nanos now) (child : 1 ≤ q) (lt : q < length f.pools) where
  here : q < length book
  here = named first f book m k q lt

  pool : IsPool (nanos first.timeout) (entry_of q f) (account q book)
  pool = is first f book m k q lt

  abbrev marks : List Mark
  marks = (account q book).marks

  idle-marks : map closed_idle (pool_in q f).idle ≡ map closed_rest (idle_of marks)
  idle-marks = map-both (pool_in q f).idle ∙ ap (map closed_rest) (stands first f book m k q lt).idle

  module _ (core : Core (Unit {0})) where
    changes : Changes f q core true (permits.retiring q (with_pool q core f))
    changes = record {
      pools = set-set f.pools q (record { core = core; retired = (entry_of q f).retired }) (record (entry_of q (with_pool q core f)) { retired = true })
          ∙ ap (λ (e : Entry). slice_set f.pools q (record e { retired = true })) (get_or-set_same f.pools q (record { core = core; retired = (entry_of q f).retired }) no_pool lt);
      shared = refl;
    }

  -- the first retiring
  fresh : (new : Family) → is_retired (account q book) ≡ false → FamilyLogs f q (Shut ∷ map closed_rest (idle_of marks)) new → new ≡ permits.settled q (permits.retiring q (with_pool q (closed (pool_in q f)) f))
      → Keeps first new (stepped q (Shut ∷ map closed_rest (idle_of marks)) book) (nanos now)
  fresh new open_is logs becomes =
      keeps-stepped first f (permits.retiring q (with_pool q core f)) book m (nanos now) q core true (Shut ∷ map closed_rest (idle_of marks)) k child here (changes core)
      (record {
        options = refl;
        permits = refl;
        rests = record { places = pool.rests.places; leaked = pool.rests.leaked; gone = pool.rests.gone; covered = let e = pool.rests.covered in omega (arith, e) };
        empty = λ e. refl;
        retired = sym (list_any-append is_shut marks (Shut ∷ map closed_rest (idle_of marks)) ∙ or-true (list_any is_shut marks));
        tickets = k.tickets ∙ sym (logged-kept q _ book here next_ticket (number-append asked_number 1 marks _ ∙ tickets-of_closing _ (idle_of marks)));
        conns = k.conns ∙ sym (logged-kept q _ book here next_conn (number-append opened_number 1 marks _ ∙ conns-of_closing _ (idle_of marks)));
        last = let e = k.reached in omega (arith, e, le);
        lives =
            let e = live-shut (pool_in q f).options.max_connections marks (idle_of marks) ((logs (logs_of book) k.logs).safe) in
            let n = idle-stands (pool_in q f) marks (stands first f book m k q lt) in
            omega (arith, e, n);
      }) new becomes ((logs (logs_of book) k.logs).stand)
    where
      core : Core (Unit {0})
      core = closed (pool_in q f)

  -- a later one
  again : (new : Family) → is_retired (account q book) ≡ true → FamilyLogs f q [] new → new ≡ permits.settled q (permits.retiring q (with_pool q (pool_in q f) f))
      → Keeps first new (stepped q [] book) (nanos now)
  again new shut_is logs becomes =
      keeps-stepped first f (permits.retiring q (with_pool q core f)) book m (nanos now) q core true [] k child here (changes core)
      (record {
        options = refl;
        permits = refl;
        rests = record { places = pool.rests.places; leaked = pool.rests.leaked; gone = pool.rests.gone; covered = pool.rests.covered };
        empty = λ e. pool.empty (pool.retired ∙ shut_is);
        retired = sym (ap (list_any is_shut) (append-nil marks) ∙ shut_is);
        tickets = k.tickets ∙ sym (logged-kept q _ book here next_ticket (ap next_ticket (append-nil marks)));
        conns = k.conns ∙ sym (logged-kept q _ book here next_conn (ap next_conn (append-nil marks)));
        last = let e = k.reached in omega (arith, e, le);
        lives = let e = live-behind marks [] in omega (arith, e);
      }) new becomes ((logs (logs_of book) k.logs).stand)
    where
      core : Core (Unit {0})
      core = pool_in q f

  by_shut : (b : Bool) → is_retired (account q book) ≡ b → (items : List (Idle (Unit {0}))) → items ≡ close_answer b (pool_in q f).idle → FamilyLogs f q (close_marks b items) new
      → new ≡ permits.settled q (permits.retiring q (with_pool q (closed_from b (pool_in q f)) f))
      → (reply.Retired (length items) ≡ reply.Retired (cond b 0 (length (idle_of marks)))) × Keeps first new (stepped q (cond b [] (Shut ∷ map closed_rest (idle_of marks))) book) (nanos now)
  by_shut true is_so items answer logs becomes = (ap (λ (l : List (Idle (Unit {0}))). reply.Retired (length l)) answer, again new is_so logs becomes)
  by_shut false is_so items answer logs becomes = (
    ap (λ (l : List (Idle (Unit {0}))). reply.Retired (length l)) answer ∙ ap reply.Retired (idle-stands (pool_in q f) marks (stands first f book m k q lt)),
    fresh new is_so (subst (λ (l : List Mark). FamilyLogs f q (Shut ∷ l) new) (ap (map closed_idle) answer ∙ idle-marks) logs) becomes,
  )

  retired-so : (items : List (Idle (Unit {0}))) → items ≡ close_answer (pool_in q f).shut (pool_in q f).idle → FamilyLogs f q (close_marks (pool_in q f).shut items) new
      → new ≡ permits.settled q (permits.retiring q (with_pool q (closed_from (pool_in q f).shut (pool_in q f)) f))
      → (reply.Retired (length items) ≡ retire_reply (account q book)) × Keeps first new (after_retire q (retire_reply (account q book)) book) (nanos now)
  retired-so items answer logs becomes =
      let shut : (pool_in q f).shut ≡ is_retired (account q book) = (stands first f book m k q lt).shut in
      by_shut (is_retired (account q book)) refl items (answer ∙ ap (λ (b : Bool). close_answer b (pool_in q f).idle) shut)
      (subst (λ (b : Bool). FamilyLogs f q (close_marks b items) new) shut logs)
      (becomes ∙ ap (λ (b : Bool). permits.settled q (permits.retiring q (with_pool q (closed_from b (pool_in q f)) f))) shut)

  -- a retiring
  pub retired-keeps : (n : ℕ) (items : List (Idle (Unit {0}))) → n ≡ length items → items ≡ close_answer (pool_in q f).shut (pool_in q f).idle → FamilyLogs f q (close_marks (pool_in q f).shut items) new
      → new ≡ permits.settled q (permits.retiring q (with_pool q (closed_from (pool_in q f).shut (pool_in q f)) f))
      → (reply.Retired n ≡ retire_reply (account q book)) × Keeps first new (after_retire q (retire_reply (account q book)) book) (nanos now)
  retired-keeps n items many answer logs becomes = let all = retired-so items answer logs becomes in (ap reply.Retired many ∙ all.0, all.1)
