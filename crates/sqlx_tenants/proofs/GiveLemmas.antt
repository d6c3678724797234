-- A family goes on keeping its book after a giving back.
use Rattle.std.proofs.Common.{◌≡◌, ℕ, ◌<◌, ◌≤◌, ◌||◌, List, [], ◌∷◌, Bool, true, false, cond, length, is_some, sym, ap, refl, ◌∙◌, subst, arith, Option, Some, None}
use Rattle.std.specs.Prelude.{slice_set}
use Rattle.sqlx_pool_marks.specs.declared.mark.Mark.{Mark}
use Rattle.sqlx_pool_marks.specs.declared.mark.Mark.TheVariants.{Kept, Closed}
use Rattle.sqlx_pool_marks.specs.Marks.{next_ticket, next_conn}
use Rattle.sqlx_pool_marks.proofs.ListFacts.{length-push}
use Rattle.sqlx_pool_marks.proofs.Pushed.{shut-push, next_ticket-push, next_conn-push}
use Rattle.sqlx_pool_lists.specs.declared.options.PoolOptions.{PoolOptions}
use Rattle.sqlx_pool_lists.specs.declared.steps.Lent.{Lent}
use Rattle.sqlx_pool_lists.specs.declared.steps.Given.{Given}
use Rattle.sqlx_pool_lists.specs.declared.steps.Given.TheVariants as given
use Rattle.sqlx_pool_lists.specs.declared.ticket.OwnedConn.{OwnedConn}
use Rattle.sqlx_pool_lists.specs.Core.{Core, loan_of}
use Rattle.sqlx_pool_lists.specs.PollSteps.{lent_since}
use Rattle.sqlx_pool_core.specs.ReturnSteps.{give_answer, give_marks, core_after_give}
use Rattle.sqlx_family.specs.Pools.{entry_of, pool_in, with_pool}
use Rattle.sqlx_family.specs.Permits as permits
use Rattle.sqlx_family.specs.FamilyLogs.{FamilyLogs}
use Rattle.sqlx_lines.specs.Numbers.{nanos}
use Rattle.sqlx_tenants_rules.specs.declared.event.Opening.{Opening}
use Rattle.sqlx_tenants_rules.specs.declared.reply.Reply.{Reply}
use Rattle.sqlx_tenants_rules.specs.declared.reply.Reply.TheVariants as reply
use Rattle.sqlx_tenants_rules.specs.Book.{Book, account, is_retired, stepped}
use Rattle.sqlx_tenants_rules.specs.Rules.{owns, give_reply, after_give}
use Rattle.sqlx_tenants.specs.Keeps.{IsPool, Keeps, logs_of, options_for}
use Rattle.sqlx_tenants.proofs.Alike.{Family}
use Rattle.sqlx_tenants.proofs.Reading.{is, stands, named, closed-is}
use Rattle.sqlx_tenants.proofs.Lives.{live-behind, live-closed, at-most-one-less}
use Rattle.sqlx_tenants.proofs.Stepping.{keeps-stepped, logged-kept}
use Rattle.sqlx_tenants.proofs.AskLemmas.{moment-later}
use Rattle.sqlx_tenants.proofs.Loans.{owns-stands, one-less}

-- what is answered for a connection of the client
abbrev taken_back : Bool → Given (Unit {0})
taken_back true = given.Closed tt
taken_back false = given.Kept

-- the reply for it
abbrev word : Bool → Reply
word true = reply.Closed
word false = reply.Kept

answer-is : (b t m : ℕ) (h : OwnedConn) (lent : Lent (Unit {0})) (closed : Bool) → give_answer (options_for b t) closed m true (Some h) lent ≡ taken_back closed
answer-is b t m h lent true = refl
answer-is b t m h lent false = refl

module _ (first : Opening) (f new : Family) (book : Book) (m now client c q : ℕ) (k : Keeps first f book m) (le : m ≤ nanos now) (child : 1 ≤ q) (lt : q < length f.pools) where
  here : q < length book
  here = named first f book m k q lt

  pool : IsPool (nanos first.timeout) (entry_of q f) (account q book)
  pool = is first f book m k q lt

  abbrev marks : List Mark
  marks = (account q book).marks

  -- a connection that the client doesn't own
  pub given-none : is_some (loan_of client c (pool_in q f).held) ≡ false → new ≡ f → (reply.NotHeld ≡ give_reply client q c book) × Keeps first new (after_give now q c (give_reply client q c book) book) (nanos now)
  given-none none stays =
      let not_his : owns client c (account q book) ≡ false = sym (owns-stands (pool_in q f) marks (stands first f book m k q lt) client c) ∙ none in
      let answer : reply.NotHeld ≡ give_reply client q c book = sym (ap (λ (b : Bool). cond b (cond (is_retired (account q book)) reply.Closed reply.Kept) reply.NotHeld) not_his) in (
        answer,
        subst (λ (r : Reply). Keeps first new (after_give now q c r book) (nanos now)) answer
            (subst (λ (g : Family). Keeps first g book (nanos now)) (sym stays) (moment-later first f book m (nanos now) k le)),
      )

  module _ (h : OwnedConn) (created : ℕ) (found : loan_of client c (pool_in q f).held ≡ Some h) where
    abbrev back : Lent (Unit {0})
    back = record { id = c; created = record { 0 = created }; raw = tt }

    kept-keeps : is_retired (account q book) ≡ false → FamilyLogs f q (Kept c (nanos now) ∷ []) new → new ≡ permits.stepped q (core_after_give (Some h) back (nanos now) given.Kept (pool_in q f)) f
        → Keeps first new (stepped q (Kept c (nanos now) ∷ []) book) (nanos now)
    kept-keeps open_is logs becomes =
        keeps-stepped first f (with_pool q core f) book m (nanos now) q core false (Kept c (nanos now) ∷ []) k child here
        (record { pools = ap (λ (b : Bool). slice_set f.pools q (record { core = core; retired = b })) (pool.retired ∙ open_is); shared = refl })
        (record {
          options = refl;
          permits = refl;
          rests = record {
            places = pool.rests.places;
            leaked = pool.rests.leaked;
            gone = pool.rests.gone;
            covered = let a = length-push (entry_of q f).core.idle (record { lent = lent_since h.created back; since = record { 0 = nanos now } }) in let b = one-less client c (entry_of q f).core.held h found in let e = pool.rests.covered in omega (arith, a, b, e);
          };
          empty = λ e. absurd (let no : false ≡ true = e in cc);
          retired = sym (shut-push marks _ ∙ ap (λ (b : Bool). b || false) open_is);
          tickets = k.tickets ∙ sym (logged-kept q _ book here next_ticket (next_ticket-push marks _));
          conns = k.conns ∙ sym (logged-kept q _ book here next_conn (next_conn-push marks _));
          last = omega arith;
          lives =
              let e = live-behind marks (Kept c (nanos now) ∷ []) in
              let a = length-push (entry_of q f).core.idle (record { lent = lent_since h.created back; since = record { 0 = nanos now } }) in
              let b = at-most-one-less (pool_in q f) marks (stands first f book m k q lt) c in
              omega (arith, e, a, b);
        }) new becomes ((logs (logs_of book) k.logs).stand)
      where
        core : Core (Unit {0})
        core = core_after_give (Some h) back (nanos now) given.Kept (pool_in q f)

    closed-keeps : is_retired (account q book) ≡ true → FamilyLogs f q (Closed c ∷ []) new → new ≡ permits.stepped q (core_after_give (Some h) back (nanos now) (given.Closed tt) (pool_in q f)) f
        → Keeps first new (stepped q (Closed c ∷ []) book) (nanos now)
    closed-keeps shut_is logs becomes =
        keeps-stepped first f (with_pool q core f) book m (nanos now) q core true (Closed c ∷ []) k child here
        (record { pools = ap (λ (b : Bool). slice_set f.pools q (record { core = core; retired = b })) (pool.retired ∙ shut_is); shared = refl })
        (record {
          options = refl;
          permits = refl;
          rests = record {
            places = pool.rests.places;
            leaked = pool.rests.leaked;
            gone = pool.rests.gone;
            covered = let b = one-less client c (entry_of q f).core.held h found in let e = pool.rests.covered in omega (arith, b, e);
          };
          empty = λ e. pool.empty (pool.retired ∙ shut_is);
          retired = sym (shut-push marks _ ∙ ap (λ (b : Bool). b || false) shut_is);
          tickets = k.tickets ∙ sym (logged-kept q _ book here next_ticket (next_ticket-push marks _));
          conns = k.conns ∙ sym (logged-kept q _ book here next_conn (next_conn-push marks _));
          last = omega arith;
          lives =
              let e = live-closed marks c (logs (logs_of book) k.logs).safe.0.finds in
              let b = at-most-one-less (pool_in q f) marks (stands first f book m k q lt) c in
              omega (arith, e, b);
        }) new becomes ((logs (logs_of book) k.logs).stand)
      where
        core : Core (Unit {0})
        core = core_after_give (Some h) back (nanos now) (given.Closed tt) (pool_in q f)

    by_closed : (closed : Bool) → is_retired (account q book) ≡ closed → FamilyLogs f q (give_marks c (nanos now) (taken_back closed)) new → new ≡ permits.stepped q (core_after_give (Some h) back (nanos now) (taken_back closed) (pool_in q f)) f
        → Keeps first new (after_give now q c (word closed) book) (nanos now)
    by_closed true is_so logs becomes = closed-keeps is_so logs becomes
    by_closed false is_so logs becomes = kept-keeps is_so logs becomes

    due : owns client c (account q book) ≡ true
    due = sym (owns-stands (pool_in q f) marks (stands first f book m k q lt) client c) ∙ ap is_some found

    word-is : (closed : Bool) → is_retired (account q book) ≡ closed → word closed ≡ give_reply client q c book
    word-is true is_so = sym (ap (λ (b : Bool). cond b (cond (is_retired (account q book)) reply.Closed reply.Kept) reply.NotHeld) due ∙ ap (λ (b : Bool). cond b reply.Closed reply.Kept) is_so)
    word-is false is_so = sym (ap (λ (b : Bool). cond b (cond (is_retired (account q book)) reply.Closed reply.Kept) reply.NotHeld) due ∙ ap (λ (b : Bool). cond b reply.Closed reply.Kept) is_so)

    -- what a giving back by the owner answers and leaves
    given-keeps : (mo : ℕ) (r : Given (Unit {0})) → mo ≡ nanos now
        → r ≡ give_answer (pool_in q f).options (pool_in q f).closed mo true (Some h) back
        → FamilyLogs f q (give_marks c mo r) new → new ≡ permits.stepped q (core_after_give (Some h) back mo r (pool_in q f)) f
        → (r ≡ taken_back (is_retired (account q book))) × ((word (is_retired (account q book)) ≡ give_reply client q c book) × Keeps first new (after_give now q c (give_reply client q c book) book) (nanos now))
    given-keeps mo r at answer logs becomes =
        let told : r ≡ taken_back (is_retired (account q book)) =
        answer ∙ ap (λ (o : PoolOptions). give_answer o (pool_in q f).closed mo true (Some h) back) pool.options
        ∙ answer-is (account q book).budget (nanos first.timeout) mo h back (pool_in q f).closed
        ∙ ap taken_back (closed-is first f book m k q lt) in
        let said = word-is (is_retired (account q book)) refl in (
          told,
          (
            said,
            subst (λ (w : Reply). Keeps first new (after_give now q c w book) (nanos now)) said
                (by_closed (is_retired (account q book)) refl
                (subst (λ (x : Given (Unit {0})). FamilyLogs f q (give_marks c (nanos now) x) new) told (subst (λ n. FamilyLogs f q (give_marks c n r) new) at logs))
                (becomes ∙ (λ i. permits.stepped q (core_after_give (Some h) back (at i) (told i) (pool_in q f)) f))),
          ),
        )

  given-found : (created mo : ℕ) (o : Option OwnedConn) (r : Given (Unit {0})) → loan_of client c (pool_in q f).held ≡ o → is_some o ≡ true → mo ≡ nanos now
      → r ≡ give_answer (pool_in q f).options (pool_in q f).closed mo true o (record { id = c; created = record { 0 = created }; raw = tt })
      → FamilyLogs f q (give_marks c mo r) new → new ≡ permits.stepped q (core_after_give o (record { id = c; created = record { 0 = created }; raw = tt }) mo r (pool_in q f)) f
      → (r ≡ taken_back (is_retired (account q book))) × ((word (is_retired (account q book)) ≡ give_reply client q c book) × Keeps first new (after_give now q c (give_reply client q c book) book) (nanos now))
  given-found created mo None r e some at answer logs becomes = absurd cc
  given-found created mo (Some h) r e some at answer logs becomes = given-keeps h created e mo r at answer logs becomes

-- the reply for what the pool answers
abbrev pub said : Given (Unit {0}) → Reply
said given.Kept = reply.Kept
said (given.Closed raw) = reply.Closed
said (given.NotHeld raw) = reply.NotHeld

said-back : (closed : Bool) → said (taken_back closed) ≡ word closed
said-back true = refl
said-back false = refl

-- a giving back by the owner
pub given-owned : (first : Opening) (f new : Family) (book : Book) (m now client c q : ℕ) → Keeps first f book m → m ≤ nanos now → 1 ≤ q → q < length f.pools
    → is_some (loan_of client c (pool_in q f).held) ≡ true → (lent : Lent (Unit {0})) → c ≡ lent.id → (mo : ℕ) → mo ≡ nanos now → (r : Given (Unit {0}))
    → r ≡ give_answer (pool_in q f).options (pool_in q f).closed mo true (loan_of client lent.id (pool_in q f).held) lent
    → FamilyLogs f q (give_marks lent.id mo r) new → new ≡ permits.stepped q (core_after_give (loan_of client lent.id (pool_in q f).held) lent mo r (pool_in q f)) f
    → (said r ≡ give_reply client q c book) × Keeps first new (after_give now q c (give_reply client q c book) book) (nanos now)
given-owned first f new book m now client c q k le child lt some lent same mo at r answer logs becomes =
    let all = given-found first f new book m now client lent.id q k le child lt lent.created.0 mo (loan_of client lent.id (pool_in q f).held) r refl (ap (λ n. is_some (loan_of client n (pool_in q f).held)) (sym same) ∙ some) at answer logs becomes in (
      ap said all.0 ∙ said-back (is_retired (account q book)) ∙ all.1.0 ∙ ap (λ n. give_reply client q n book) (sym same),
      subst (λ n. Keeps first new (after_give now q n (give_reply client q n book) book) (nanos now)) (sym same) all.1.1,
    )
