-- The links and the store where a connection leaves the pool and is closed.
use Rattle.std.proofs.Common.{◌≡◌, ℕ, zero, suc, ◌≤◌, nat_lt, ◌==◌, ◌||◌, Bool, true, false, cond, not, List, ◌∷◌, map, filter, find, count_by, Some, refl, sym, ap, ◌∙◌, arith, lt-ltb}
use Rattle.std.specs.List.{list_any}
use Rattle.sqlx_pool_lists.specs.declared.steps.Lent.{Lent}
use Rattle.sqlx_pool_lists.specs.declared.steps.Idle.{Idle}
use Rattle.sqlx_pool_lists.specs.declared.ticket.OwnedConn.{OwnedConn}
use Rattle.sqlx_pool_lists.specs.Core.{Core}
use Rattle.sqlx_pool_lists.specs.Sound.{holds, rests}
use Rattle.sqlx_pool_lists.specs.Edits.{without_loan, without_idle, core_without_loan}
use Rattle.sqlx_pool_marks.proofs.ListFacts.{filter-map, count_by-map, All-filter_if, All-passing, number_comm, found_All}
use Rattle.mem_store.specs.Store.{Store, Link, closed_at, level_mark}
use Rattle.sqlx_savepoints.specs.Changes.{leaves, History}
use Rattle.sqlx_savepoints.specs.Links.{Linked, linked_after, new_link}
use Rattle.sqlx_savepoints.specs.Links as bracket
use Rattle.sqlx_play.specs.stage.LinksStand.{LinksStand, IsLinkOf, IsRestingLink, is_lent_in_level}
use Rattle.sqlx_play.specs.stage.LentLinks.{is_lent, without_lent}
use Rattle.sqlx_play.proofs.links.OneOut.{count-out, any-out}

-- the store that closed a link of this depth
abbrev pub closed_in : ℕ → Store → Store
closed_in depth store = closed_at depth store

-- what a lent link adds to the count of links with an open level
pub level_counts : (l : Lent Link) → cond {A = ℕ} (is_lent_in_level l) 1 0 ≡ level_mark l.raw.depth
level_counts l = by l.raw.depth
  where
    by : (d : ℕ) → cond {A = ℕ} (nat_lt 0 d) 1 0 ≡ level_mark d
    by zero = refl
    by (suc d) = let less : nat_lt 0 (suc d) ≡ true = lt-ltb 0 (suc d) (omega arith) in ap (λ (b : Bool). cond {A = ℕ} b 1 0) less ∙ omega arith

-- ---- the link of a connection that left

other_link : (past : History) (c d : ℕ) → (d == c) ≡ false → (linked_after (leaves c ∷ past)).link d ≡ (linked_after past).link d
other_link past c d e = ap (λ (b : Bool). cond b new_link ((linked_after past).link d)) e

turn : (c d : ℕ) → not (c == d) ≡ true → (d == c) ≡ false
turn c d e = number_comm d c ∙ no (c == d) e
  where
    no : (b : Bool) → not b ≡ true → b ≡ false
    no true h = cc
    no false h = refl

-- what holds of a new link and of the one before holds of the link of any connection
any_link : (P : bracket.Link → Type 0) (past : History) (c d : ℕ) → P new_link → ((d == c) ≡ false → P ((linked_after past).link d)) → P ((linked_after (leaves c ∷ past)).link d)
any_link P past c d new old = elim (d == c) as (λ (b : Bool). ((b ≡ false) → P ((linked_after past).link d)) → P (cond b new_link ((linked_after past).link d))) [
  | true ↦ λ h. new
  | false ↦ λ h. h refl
] old

pub lent-counted : (core : Core Link) (lent : List (Lent Link)) (c : ℕ) → map (λ (l : Lent Link). l.id) lent ≡ map (λ (h : OwnedConn). h.conn) core.held → count_by (is_lent c) lent ≡ count_by (holds c) core.held
lent-counted core lent c owned =
    sym (count_by-map (λ (l : Lent Link). l.id) (λ (n : ℕ). c == n) lent) ∙ ap (count_by (λ (n : ℕ). c == n)) owned ∙ count_by-map (λ (h : OwnedConn). h.conn) (λ (n : ℕ). c == n) core.held

-- the owned ones, without one
pub owned-without : (core : Core Link) (lent : List (Lent Link)) (c : ℕ) → map (λ (l : Lent Link). l.id) lent ≡ map (λ (h : OwnedConn). h.conn) core.held
    → map (λ (l : Lent Link). l.id) (without_lent c lent) ≡ map (λ (h : OwnedConn). h.conn) (without_loan c core.held)
owned-without core lent c owned =
    sym (filter-map (λ (l : Lent Link). l.id) (λ (n : ℕ). not (c == n)) lent) ∙ ap (filter (λ (n : ℕ). not (c == n))) owned ∙ filter-map (λ (h : OwnedConn). h.conn) (λ (n : ℕ). not (c == n)) core.held

-- ---- a connection that a client owns leaves

module _ (core : Core Link) (store : Store) (lent : List (Lent Link)) (past : History) (l : Lent Link) (s : LinksStand core store lent past) where
  unlent_still : (d : ℕ) → find (is_lent l.id) lent ≡ Some l → count_by (is_lent l.id) lent ≤ 1 → (d == l.id) ≡ false → list_any (is_lent d) (without_lent l.id lent) ≡ false → list_any (is_lent d) lent ≡ false
  unlent_still d found one other none = any-out (is_lent l.id) (is_lent d) lent l found one ∙ (λ i. none i || other i)

  -- the link is closed in the store
  pub links-leave : find (is_lent l.id) lent ≡ Some l → count_by (holds l.id) core.held ≤ 1 → count_by (rests l.id) core.idle ≡ 0
      → LinksStand (core_without_loan l.id core) (closed_in l.raw.depth store) (without_lent l.id lent) (leaves l.id ∷ past)
  links-leave found held_once restless =
      let one : count_by (is_lent l.id) lent ≤ 1 = let same = lent-counted core lent l.id s.owned in omega (arith, same, held_once) in
      record {
        accepted = (tt, s.accepted);
        rows = s.rows;
        owned = owned-without core lent l.id s.owned;
        lent_links = All-filter_if (λ (x : Lent Link). IsLinkOf (linked_after past) x.id x.raw) (λ (x : Lent Link). IsLinkOf (linked_after (leaves l.id ∷ past)) x.id x.raw) (λ (x : Lent Link). not (is_lent l.id x))
            (λ x other is. is ∙ sym (other_link past l.id x.id (turn l.id x.id other))) lent s.lent_links;
        idle_links = All-passing (λ (i : Idle Link). IsRestingLink (linked_after past) i.lent.id i.lent.raw) (λ (i : Idle Link). IsRestingLink (linked_after (leaves l.id ∷ past)) i.lent.id i.lent.raw) (rests l.id)
            (λ i other is. record { is = is.is ∙ sym (other_link past l.id i.lent.id (turn l.id i.lent.id other)); rests = is.rests }) core.idle restless s.idle_links;
        unopened = λ d h. any_link (λ (k : bracket.Link). k ≡ new_link) past l.id d refl (λ other. s.unopened d h);
        unlent = λ d none. any_link (λ (k : bracket.Link). k.depth ≡ 0) past l.id d refl (λ other. s.unlent d (unlent_still d found one other none));
        open_links = let out = count-out (is_lent l.id) is_lent_in_level lent l found one in let all = s.open_links in omega (arith, all, out, level_counts l);
      }

-- ---- an idle connection leaves

module _ (core : Core Link) (store : Store) (lent : List (Lent Link)) (past : History) (i : Idle Link) (s : LinksStand core store lent past) where
  at_rest : find (rests i.lent.id) core.idle ≡ Some i → i.lent.raw.depth ≡ 0
  at_rest found = (found_All (rests i.lent.id) (λ (x : Idle Link). IsRestingLink (linked_after past) x.lent.id x.lent.raw) core.idle i found s.idle_links).rests

  pub links-unrest : find (rests i.lent.id) core.idle ≡ Some i → count_by (rests i.lent.id) core.idle ≤ 1 → count_by (holds i.lent.id) core.held ≡ 0
      → LinksStand (record core { idle = without_idle i.lent.id core.idle }) (closed_in i.lent.raw.depth store) lent (leaves i.lent.id ∷ past)
  links-unrest found one unowned =
      let c = i.lent.id in
      let none : count_by (is_lent c) lent ≡ 0 = lent-counted core lent c s.owned ∙ unowned in
      record {
        accepted = (tt, s.accepted);
        rows = s.rows;
        owned = s.owned;
        lent_links = All-passing (λ (x : Lent Link). IsLinkOf (linked_after past) x.id x.raw) (λ (x : Lent Link). IsLinkOf (linked_after (leaves c ∷ past)) x.id x.raw) (is_lent c)
            (λ x other is. is ∙ sym (other_link past c x.id (turn c x.id other))) lent none s.lent_links;
        idle_links = All-filter_if (λ (j : Idle Link). IsRestingLink (linked_after past) j.lent.id j.lent.raw) (λ (j : Idle Link). IsRestingLink (linked_after (leaves c ∷ past)) j.lent.id j.lent.raw) (λ (j : Idle Link). not (rests c j))
            (λ j other is. record { is = is.is ∙ sym (other_link past c j.lent.id (turn c j.lent.id other)); rests = is.rests }) core.idle s.idle_links;
        unopened = λ d h. any_link (λ (k : bracket.Link). k ≡ new_link) past c d refl (λ other. s.unopened d h);
        unlent = λ d none'. any_link (λ (k : bracket.Link). k.depth ≡ 0) past c d refl (λ other. s.unlent d none');
        open_links = let all = s.open_links in let flat = at_rest found in omega (arith, all, flat);
      }
