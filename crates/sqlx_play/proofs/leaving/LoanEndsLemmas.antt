-- A connection that a client owns leaves.
use Rattle.std.proofs.Common.{◌≡◌, ℕ, ◌+◌, ◌≤◌, Bool, true, false, cond, List, [], ◌∷◌, find, count_by, is_some, Option, Some, None, refl, sym, ap, subst, ◌∙◌, arith}
use Rattle.std.proofs.lemmas.Bool.{eqb-true}
use Rattle.sqlx_pool_marks.specs.declared.mark.Mark.{Mark}
use Rattle.sqlx_pool_lists.specs.declared.ticket.OwnedConn.{OwnedConn}
use Rattle.sqlx_pool_lists.specs.declared.steps.Lent.{Lent}
use Rattle.sqlx_pool_lists.specs.Core.{Core, loan_of}
use Rattle.sqlx_pool_lists.specs.Sound.{IsNumbered, rests}
use Rattle.sqlx_pool_lists.specs.Edits.{core_without_loan, without_loan}
use Rattle.sqlx_pool_core.specs.ReturnSteps.{leaked}
use Rattle.sqlx_pool_lists.specs.MaintenanceSteps.{without_first}
use Rattle.sqlx_pool_lists.specs.Makes.{Makes}
use Rattle.sqlx_pool_lists.specs.StandsFor.{StandsFor}
use Rattle.sqlx_pool_marks.proofs.ListFacts.{found_passes, count_by-cons}
use Rattle.sqlx_play.proofs.events.Numbers.{loan-found}
use Rattle.mem_store.specs.Store.{Store, Link}
use Rattle.sqlx_savepoints.specs.Changes.{leaves}
use Rattle.sqlx_play.specs.stage.Scene.{Scene}
use Rattle.sqlx_play.specs.stage.LinksStand.{LinksStand}
use Rattle.sqlx_play.specs.stage.LentLinks.{is_lent, without_lent}
use Rattle.sqlx_play.specs.stage.StageAdvance.{StageAdvance}
use Rattle.sqlx_play.specs.events.LoanEnds.{LoanEnds}
use Rattle.sqlx_play.proofs.links.LinksSame.{links-same}
use Rattle.sqlx_play.proofs.links.LinksGone.{lent-counted, closed_in, links-leave}
use Rattle.sqlx_play.proofs.links.LentTaken.{first-only}
use Rattle.sqlx_play.proofs.links.Owners.{owner-stands, held-once}
use Rattle.sqlx_play.proofs.events.StageAdvanceLemmas.{comes-nowhere}

-- What a loan's end leaves of a core.
pub record EndsLoan (old new : Core Link) (c : ℕ) : Type 0 where
  pub held : new.held ≡ without_loan c old.held
  pub idle : new.idle ≡ old.idle
  pub next_conn : new.next_conn ≡ old.next_conn
  pub options : new.options ≡ old.options
  pub places : new.places ≡ old.places
  pub tickets : new.tickets ≡ old.tickets
  pub next_ticket : new.next_ticket ≡ old.next_ticket

-- an element that was found
record Found {X : Type 0} (p : X → Bool) (xs : List X) : Type 0 where
  pub it : X
  pub is : find p xs ≡ Some it

found-counted : {X : Type 0} (p : X → Bool) (xs : List X) → 1 ≤ count_by p xs → Found p xs
found-counted p [] h = absurd (omega (arith, h))
found-counted {X} p (w ∷ xs) h = by (λ k. found-counted p xs k) (p w) refl (let same = count_by-cons p w xs in omega (arith, h, same))
  where
    by : (1 ≤ count_by p xs → Found p xs) → (b : Bool) → p w ≡ b → 1 ≤ cond (p w) 1 0 + count_by p xs → Found p (w ∷ xs)
    by rest true is k = record { it = w; is = ap (λ (b : Bool). cond b (Some w) (find p xs)) is }
    by rest false is k =
        let zero : cond {A = ℕ} (p w) 1 0 ≡ 0 = ap (λ (b : Bool). cond {A = ℕ} b 1 0) is in
        let f = rest (omega (arith, k, zero)) in record { it = f.it; is = ap (λ (b : Bool). cond b (Some w) (find p xs)) is ∙ f.is }

-- a loan that is there
record Loan (o : Option OwnedConn) : Type 0 where
  pub it : OwnedConn
  pub is : o ≡ Some it

some_loan : (o : Option OwnedConn) → is_some o ≡ true → Loan o
some_loan None e = absurd (cc)
some_loan (Some h) e = record { it = h; is = refl }

module _ (old : Scene) (x : Mark) (k c : ℕ) (sound : IsNumbered old.core) where
  -- it is another's
  pub departs-not : (core : Core Link) → false ≡ is_some (loan_of k c old.core.held) → core ≡ old.core → LoanEnds old (record old { core = core }) x k c false
  departs-not core none same marks past at = (
    none ∙ sym (owner-stands old.core sound marks k c at.stands),
    subst (λ (d : Core Link). StageAdvance old (record old { core = d }) marks [] past) (sym same) (comes-nowhere old marks past at),
  )

  pub departs : (new : Scene) → true ≡ is_some (loan_of k c old.core.held) → EndsLoan old.core new.core c → new.pool ≡ old.pool
      → ((marks : List Mark) → StandsFor old.core marks → Makes old.core.options.max_connections marks (x ∷ []) new.core)
      → ((l : Lent Link) → find (is_lent c) old.lent.items ≡ Some l → new.out.store ≡ closed_in l.raw.depth old.out.store) → new.lent.items ≡ without_first (is_lent c) old.lent.items
      → LoanEnds old new x k c true
  departs new some ends pool makes store rest marks past at =
      let loan = some_loan (loan_of k c old.core.held) (sym some) in
      let owned = loan-found old.core sound k c loan.it loan.is in
      let count = lent-counted old.core old.lent.items c at.links.owned in
      let held = owned.owned in
      let found = found-counted (is_lent c) old.lent.items (omega (arith, count, held)) in
      let l = found.it in
      let conn : l.id ≡ c = sym (eqb-true c l.id (found_passes (is_lent c) old.lent.items l found.is)) in
      let own : find (is_lent l.id) old.lent.items ≡ Some l = ap (λ (n : ℕ). find (is_lent n) old.lent.items) conn ∙ found.is in
      let restless : count_by (rests l.id) old.core.idle ≡ 0 = ap (λ (n : ℕ). count_by (rests n) old.core.idle) conn ∙ owned.restless in
      let lent : new.lent.items ≡ without_lent l.id old.lent.items = rest ∙ first-only (is_lent c) old.lent.items (omega (arith, count, held)) ∙ ap (λ (n : ℕ). without_lent n old.lent.items) (sym conn) in (
        some ∙ sym (owner-stands old.core sound marks k c at.stands),
        record {
          pool = pool;
          makes = makes marks at.stands;
          options = ends.options;
          places = ends.places ∙ at.places;
          tickets = ends.tickets;
          next = ends.next_ticket;
          links = subst (λ (n : ℕ). LinksStand new.core new.out.store new.lent.items (leaves n ∷ past)) conn
              (subst (λ (y : Store). LinksStand new.core y new.lent.items (leaves l.id ∷ past)) (sym (store l found.is))
              (subst (λ (y : List (Lent Link)). LinksStand new.core (closed_in l.raw.depth old.out.store) y (leaves l.id ∷ past)) (sym lent)
              (links-same (core_without_loan l.id old.core) new.core (closed_in l.raw.depth old.out.store) (without_lent l.id old.lent.items) (leaves l.id ∷ past)
              (links-leave old.core old.out.store old.lent.items past l at.links own (held-once old.core sound l.id) restless)
              (ends.held ∙ ap (λ (n : ℕ). without_loan n old.core.held) (sym conn)) ends.idle ends.next_conn)));
        },
      )

pub ends-loan : (old new : Core Link) (c : ℕ) → new ≡ core_without_loan c old → EndsLoan old new c
ends-loan old new c e = record {
  held = ap (λ (x : Core Link). x.held) e;
  idle = ap (λ (x : Core Link). x.idle) e;
  next_conn = ap (λ (x : Core Link). x.next_conn) e;
  options = ap (λ (x : Core Link). x.options) e;
  places = ap (λ (x : Core Link). x.places) e;
  tickets = ap (λ (x : Core Link). x.tickets) e;
  next_ticket = ap (λ (x : Core Link). x.next_ticket) e;
}

pub leaks-loan : (old new : Core Link) (c : ℕ) → new ≡ leaked c true old → EndsLoan old new c
leaks-loan old new c e = record {
  held = ap (λ (x : Core Link). x.held) e;
  idle = ap (λ (x : Core Link). x.idle) e;
  next_conn = ap (λ (x : Core Link). x.next_conn) e;
  options = ap (λ (x : Core Link). x.options) e;
  places = ap (λ (x : Core Link). x.places) e;
  tickets = ap (λ (x : Core Link). x.tickets) e;
  next_ticket = ap (λ (x : Core Link). x.next_ticket) e;
}
