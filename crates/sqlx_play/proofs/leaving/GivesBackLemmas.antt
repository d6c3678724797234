-- The stage behind a connection that was given back.
use Rattle.std.proofs.Common.{◌≡◌, ℕ, ◌≤◌, ◌==◌, ◌&&◌, ◌||◌, Bool, true, false, not, List, [], ◌∷◌, find, count_by, Option, Some, None, is_some, refl, sym, ap, subst, ◌∙◌, arith}
use Rattle.std.proofs.lemmas.Bool.{eqb-true, and_parts}
use Rattle.sqlx_pool_marks.specs.declared.mark.Mark.{Mark}
use Rattle.sqlx_pool_marks.specs.declared.mark.Mark.TheVariants as mark
use Rattle.sqlx_pool_lists.specs.declared.steps.Lent.{Lent}
use Rattle.sqlx_pool_lists.specs.declared.steps.Given.{Given}
use Rattle.sqlx_pool_lists.specs.declared.steps.Given.TheVariants as given
use Rattle.sqlx_pool_lists.specs.Core.{Core, loan_of}
use Rattle.sqlx_pool_lists.specs.Sound.{IsNumbered}
use Rattle.sqlx_pool_lists.specs.Edits.{at_moment, core_without_loan, kept}
use Rattle.sqlx_pool_marks.specs.EventTable.{closes}
use Rattle.sqlx_pool_lists.specs.Limits.{limits_of}
use Rattle.sqlx_pool_core.specs.ReturnSteps.{give_answer, give_marks, core_after_give}
use Rattle.sqlx_pool_lists.specs.MaintenanceSteps.{without_first}
use Rattle.sqlx_pool_lists.specs.Makes.{Makes}
use Rattle.sqlx_pool_core.proofs.Fair.{makes-nothing}
use Rattle.sqlx_pool_lists.specs.StandsFor.{StandsFor}
use Rattle.sqlx_pool_marks.proofs.ListFacts.{found_passes}
use Rattle.sqlx_play.proofs.events.Numbers.{loan-found}
use Rattle.mem_store.specs.Store.{Store, Link}
use Rattle.sqlx_script.specs.declared.answers.GiveAnswers.{GiveAnswers}
use Rattle.sqlx_script.specs.Built.{accepts}
use Rattle.sqlx_savepoints.specs.Changes.{leaves, History}
use Rattle.sqlx_play.specs.declared.stage.loans.give.Returned.TheVariants as word
use Rattle.sqlx_play.specs.stage.Scene.{Scene}
use Rattle.sqlx_play.specs.stage.LinksStand.{LinksStand}
use Rattle.sqlx_play.specs.stage.LentLinks.{is_lent, without_lent}
use Rattle.sqlx_play.specs.stage.StageAdvance.{IsAt, StageAdvance}
use Rattle.sqlx_play.specs.events.GivesBack.{lets_rest, GivesBack}
use Rattle.sqlx_play.proofs.links.LinksSame.{links-same}
use Rattle.sqlx_play.proofs.links.LinksGone.{lent-counted, closed_in, links-leave}
use Rattle.sqlx_play.proofs.links.LinksKept.{links-kept}
use Rattle.sqlx_play.proofs.links.LentTaken.{first-only, without-unfound}
use Rattle.sqlx_play.proofs.links.Owners.{held-once}
use Rattle.sqlx_play.proofs.leaving.GiveAnswers.{Loaned, told-kept, told-closed, told-not_held, word-told, stranger-told, unlent-loan}

-- ---- no link

none-is : {X : Type 0} (o : Option X) → is_some o ≡ false → o ≡ None
none-is None e = refl
none-is (Some x) e = absurd cc

module _ (old : Scene) (answers : GiveAnswers) (m k c : ℕ) (sound : IsNumbered old.core) where
  -- what changed nothing
  pub stays : (core : Core Link) (new : Scene) (marks : List Mark) (past : History) → IsAt old marks past → new.pool ≡ old.pool → new.core ≡ old.core → new.out.store ≡ old.out.store → new.lent.items ≡ old.lent.items
      → StageAdvance old new marks [] past
  stays core new marks past at pool same store lent = record {
    pool = pool;
    makes = makes-nothing old.core.options.max_connections marks new.core (subst (λ (x : Core Link). StandsFor x marks) (sym same) at.stands);
    options = ap (λ (x : Core Link). x.options) same;
    places = ap (λ (x : Core Link). x.places) same ∙ at.places;
    tickets = ap (λ (x : Core Link). x.tickets) same;
    next = ap (λ (x : Core Link). x.next_ticket) same;
    links = subst (λ (x : Core Link). LinksStand x new.out.store new.lent.items past) (sym same)
        (subst (λ (x : Store). LinksStand old.core x new.lent.items past) (sym store) (subst (λ (l : List (Lent Link)). LinksStand old.core old.out.store l past) (sym lent) at.links));
  }

  pub returns-unlent : (new : Scene) → new.pool ≡ old.pool → new.core ≡ old.core → new.out.store ≡ old.out.store → new.lent.items ≡ without_first (is_lent c) old.lent.items → find (is_lent c) old.lent.items ≡ None
      → GivesBack old new answers m k c word.NotHeld
  returns-unlent new pool core store lent none marks past at = (
    stranger-told old.pool old.core marks past old.lent.items old.out.store c sound k m answers at.stands (unlent-loan old.pool old.core marks past old.lent.items old.out.store c k none at.links),
    stays old.core new marks past at pool core store (lent ∙ without-unfound (is_lent c) old.lent.items none),
  )

  pub returns-unowned : is_some (loan_of k c old.core.held) ≡ false → GivesBack old old answers m k c word.NotHeld
  returns-unowned none marks past at = (stranger-told old.pool old.core marks past old.lent.items old.out.store c sound k m answers at.stands (none-is (loan_of k c old.core.held) none), stays old.core old marks past at refl refl refl refl)

  -- ---- a link

  module _ (core : Core Link) (l : Lent Link) (late : old.core.last ≤ m) (found : find (is_lent c) old.lent.items ≡ Some l) where
    same_conn : l.id ≡ c
    same_conn = sym (eqb-true c l.id (found_passes (is_lent c) old.lent.items l found))

    found_own : find (is_lent l.id) old.lent.items ≡ Some l
    found_own = ap (λ (n : ℕ). find (is_lent n) old.lent.items) same_conn ∙ found

    lent_once : (past : History) → LinksStand old.core old.out.store old.lent.items past → count_by (is_lent c) old.lent.items ≤ 1
    lent_once past links = let same = lent-counted old.core old.lent.items c links.owned in let once = held-once old.core sound c in omega (arith, same, once)

    -- what the list without the link is
    without_is : (new : List (Lent Link)) (past : History) → LinksStand old.core old.out.store old.lent.items past → new ≡ without_first (is_lent c) old.lent.items → new ≡ without_lent l.id old.lent.items
    without_is new past links rest = rest ∙ first-only (is_lent c) old.lent.items (lent_once past links) ∙ ap (λ (n : ℕ). without_lent n old.lent.items) (sym same_conn)

    module _ (made : Given Link) (at_m : ℕ) (moment : at_m ≡ m)
        (makes : (marks : List Mark) → StandsFor old.core marks → Makes old.core.options.max_connections marks (give_marks l.id at_m made) core)
        (becomes : core ≡ core_after_give (loan_of k l.id old.core.held) l at_m made old.core) where
      makes_here : (marks : List Mark) → StandsFor old.core marks → Makes old.core.options.max_connections marks (give_marks c m made) core
      makes_here marks s = subst (λ (x : List Mark). Makes old.core.options.max_connections marks x core) (λ i. give_marks (same_conn i) (moment i) made) (makes marks s)

    -- it rests
    pub returns-kept : (new : Scene) (at_m : ℕ) → at_m ≡ m → new.pool ≡ old.pool → new.core ≡ core → new.out.store ≡ old.out.store → new.lent.items ≡ without_first (is_lent c) old.lent.items
        → given.Kept ≡ give_answer old.core.options old.core.shut at_m (lets_rest old.pool answers l.raw.depth) (loan_of k l.id old.core.held) l
        → ((marks : List Mark) → StandsFor old.core marks → Makes old.core.options.max_connections marks (give_marks {C = Link} l.id at_m given.Kept) core)
        → core ≡ core_after_give (loan_of k l.id old.core.held) l at_m given.Kept old.core
        → GivesBack old new answers m k c word.Kept
    returns-kept new at_m moment pool core_is store rest answer makes becomes marks past at =
        let loaned : Loaned (loan_of k l.id old.core.held) old.core.options old.core.shut m (lets_rest old.pool answers l.raw.depth) true
        = told-kept old.core.options old.core.shut m (lets_rest old.pool answers l.raw.depth) l (loan_of k l.id old.core.held)
        (answer ∙ ap (λ (n : ℕ). give_answer old.core.options old.core.shut n (lets_rest old.pool answers l.raw.depth) (loan_of k l.id old.core.held) l) moment) in
        let h = loaned.loan in
        let loan_c : loan_of k c old.core.held ≡ Some h = ap (λ (n : ℕ). loan_of k n old.core.held) (sym same_conn) ∙ loaned.is in
        let is : new.core ≡ at_moment m (kept (record l { created = h.created }) m (core_without_loan l.id old.core)) = core_is ∙ becomes ∙ (λ i. core_after_give (loaned.is i) l (moment i) given.Kept old.core) in
        let may = and_parts (lets_rest old.pool answers l.raw.depth) (not (closes (limits_of old.core.options) old.core.shut h.created.0 m)) loaned.told in
        let flat : l.raw.depth ≡ 0 = eqb-true l.raw.depth 0 (and_parts (l.raw.depth == 0) answers.ping (and_parts (not old.pool.after_release || accepts answers.after_release) ((l.raw.depth == 0) && answers.ping) may.0).1).0 in (
          word-told old.pool old.core marks past old.lent.items old.out.store c sound k m answers h l true at.set_up at.stands loan_c found at.links loaned.told,
          record {
            pool = pool;
            makes = subst (λ (x : Core Link). Makes old.core.options.max_connections marks (mark.Kept c m ∷ []) x) (sym core_is) (makes_here given.Kept at_m moment makes becomes marks at.stands);
            options = ap (λ (x : Core Link). x.options) is;
            places = ap (λ (x : Core Link). x.places) is ∙ at.places;
            tickets = ap (λ (x : Core Link). x.tickets) is;
            next = ap (λ (x : Core Link). x.next_ticket) is;
            links = subst (λ (x : Store). LinksStand new.core x new.lent.items past) (sym store)
                (subst (λ (x : List (Lent Link)). LinksStand new.core old.out.store x past) (sym (without_is new.lent.items past at.links rest))
                (links-same (kept (record l { created = h.created }) m (core_without_loan l.id old.core)) new.core old.out.store (without_lent l.id old.lent.items) past
                (links-kept old.core old.out.store old.lent.items past l at.links h.created m found_own (held-once old.core sound l.id) flat)
                (ap (λ (x : Core Link). x.held) is) (ap (λ (x : Core Link). x.idle) is) (ap (λ (x : Core Link). x.next_conn) is)));
          },
        )

    -- it is closed
    pub returns-closed : (new : Scene) (at_m : ℕ) (raw : Link) → at_m ≡ m → new.pool ≡ old.pool → new.core ≡ core → new.out.store ≡ closed_in raw.depth old.out.store → new.lent.items ≡ without_first (is_lent c) old.lent.items
        → given.Closed raw ≡ give_answer old.core.options old.core.shut at_m (lets_rest old.pool answers l.raw.depth) (loan_of k l.id old.core.held) l
        → ((marks : List Mark) → StandsFor old.core marks → Makes old.core.options.max_connections marks (give_marks l.id at_m (given.Closed raw)) core)
        → core ≡ core_after_give (loan_of k l.id old.core.held) l at_m (given.Closed raw) old.core
        → GivesBack old new answers m k c word.Closed
    returns-closed new at_m raw moment pool core_is store rest answer makes becomes marks past at =
        let told = told-closed old.core.options old.core.shut m (lets_rest old.pool answers l.raw.depth) l raw (loan_of k l.id old.core.held)
        (answer ∙ ap (λ (n : ℕ). give_answer old.core.options old.core.shut n (lets_rest old.pool answers l.raw.depth) (loan_of k l.id old.core.held) l) moment) in
        let loaned = told.0 in
        let h = loaned.loan in
        let loan_c : loan_of k c old.core.held ≡ Some h = ap (λ (n : ℕ). loan_of k n old.core.held) (sym same_conn) ∙ loaned.is in
        let is : new.core ≡ at_moment m (core_without_loan l.id old.core) = core_is ∙ becomes ∙ (λ i. core_after_give (loaned.is i) l (moment i) (given.Closed raw) old.core) in
        let owned = loan-found old.core sound k l.id h loaned.is in (
          word-told old.pool old.core marks past old.lent.items old.out.store c sound k m answers h l false at.set_up at.stands loan_c found at.links loaned.told,
          record {
            pool = pool;
            makes = subst (λ (x : Core Link). Makes old.core.options.max_connections marks (mark.Closed c ∷ []) x) (sym core_is) (makes_here (given.Closed raw) at_m moment makes becomes marks at.stands);
            options = ap (λ (x : Core Link). x.options) is;
            places = ap (λ (x : Core Link). x.places) is ∙ at.places;
            tickets = ap (λ (x : Core Link). x.tickets) is;
            next = ap (λ (x : Core Link). x.next_ticket) is;
            links = subst (λ (n : ℕ). LinksStand new.core new.out.store new.lent.items (leaves n ∷ past)) same_conn
                (subst (λ (x : Store). LinksStand new.core x new.lent.items (leaves l.id ∷ past)) (sym (store ∙ ap (λ (x : Link). closed_in x.depth old.out.store) told.1))
                (subst (λ (x : List (Lent Link)). LinksStand new.core (closed_in l.raw.depth old.out.store) x (leaves l.id ∷ past)) (sym (without_is new.lent.items past at.links rest))
                (links-same (core_without_loan l.id old.core) new.core (closed_in l.raw.depth old.out.store) (without_lent l.id old.lent.items) (leaves l.id ∷ past)
                (links-leave old.core old.out.store old.lent.items past l at.links found_own (held-once old.core sound l.id) owned.restless)
                (ap (λ (x : Core Link). x.held) is) (ap (λ (x : Core Link). x.idle) is) (ap (λ (x : Core Link). x.next_conn) is))));
          },
        )

    -- it isn't another's where the client owns it
    pub returns-owned : (at_m : ℕ) (lets : Bool) (raw : Link) → is_some (loan_of k c old.core.held) ≡ true → given.NotHeld raw ≡ give_answer old.core.options old.core.shut at_m lets (loan_of k l.id old.core.held) l → ⊥
    returns-owned at_m lets raw own answer =
        let told = told-not_held old.core.options old.core.shut at_m lets l raw (loan_of k l.id old.core.held) answer in
        let none : loan_of k c old.core.held ≡ None = ap (λ (n : ℕ). loan_of k n old.core.held) (sym same_conn) ∙ told.0 in
        absurd (let both : true ≡ false = sym own ∙ ap is_some none in cc)
