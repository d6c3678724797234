-- Links and store where a connection is opened, lent from the idle ones, or closed.
use Rattle.std.proofs.Common.{◌≡◌, ℕ, ◌+◌, ◌≤◌, ◌==◌, ◌||◌, Bool, true, false, not, cond, List, [], ◌∷◌, ◌++◌, drop, count_by, refl, sym, ap, ◌∙◌, All, arith}
use Rattle.std.proofs.lemmas.List.Elements.{All-push, All-head, All-tail, All-same}
use Rattle.std.specs.List.{list_any}
use Rattle.sqlx_text.specs.declared.Moment.{Moment}
use Rattle.sqlx_pool_lists.specs.declared.steps.Lent.{Lent}
use Rattle.sqlx_pool_lists.specs.declared.steps.Idle.{Idle}
use Rattle.sqlx_pool_lists.specs.declared.ticket.OwnedConn.{OwnedConn}
use Rattle.sqlx_pool_lists.specs.Core.{Core}
use Rattle.sqlx_pool_lists.specs.Edits.{lent_to, core_without_first, opened}
use Rattle.sqlx_pool_lists.specs.Sound.{holds, rests}
use Rattle.sqlx_pool_marks.proofs.ListFacts.{number_comm, same_number, list_any-push, count_by-push, count_by-cons, count_by-map, map-push, All-passing}
use Rattle.mem_store.specs.Store.{Store, Link, connected, closed_at}
use Rattle.mem_store.specs.Store as driver
use Rattle.sqlx_savepoints.specs.Changes.{History, leaves}
use Rattle.sqlx_savepoints.specs.Links.{linked_after, new_link}
use Rattle.sqlx_play.specs.stage.LinksStand.{LinksStand, IsLinkOf, IsRestingLink, is_lent_in_level}
use Rattle.sqlx_play.proofs.links.LinksGone.{level_counts}

-- ---- of lists

or_left : (a b : Bool) → (a || b) ≡ false → a ≡ false
or_left false b e = refl
or_left true b e = e

unlent-push : (lent : List (Lent Link)) (l : Lent Link) (c : ℕ) → list_any (λ (x : Lent Link). c == x.id) (lent ++ l ∷ []) ≡ false → list_any (λ (x : Lent Link). c == x.id) lent ≡ false
unlent-push lent l c h = or_left (list_any (λ (x : Lent Link). c == x.id) lent) (c == l.id) (sym (list_any-push (λ (x : Lent Link). c == x.id) lent l) ∙ h)

-- ---- a new connection

module _ (core : Core Link) (store : Store) (lent : List (Lent Link)) (history : History) (s : LinksStand core store lent history) where
  -- the connection that is opened next is lent
  pub links-opened : (k : ℕ) (created : Moment)
      → LinksStand (lent_to k core.next_conn created (opened core)) (connected (store.given + 1) store) (lent ++ record { id = core.next_conn; created = created; raw = driver.new_link (store.given + 1) } ∷ []) history
  links-opened k created = record {
    accepted = s.accepted;
    rows = s.rows;
    owned = map-push (λ (l : Lent Link). l.id) lent new ∙ ap (λ (ids : List ℕ). ids ++ core.next_conn ∷ []) s.owned ∙ sym (map-push (λ (h : OwnedConn). h.conn) core.held (record { conn = core.next_conn; client = k; created = created }));
    lent_links = All-push (λ (l : Lent Link). IsLinkOf (linked_after history) l.id l.raw) lent new s.lent_links (sym (s.unopened core.next_conn (omega arith)));
    idle_links = s.idle_links;
    unopened = λ c h. s.unopened c (omega (arith, h));
    unlent = λ c h. s.unlent c (unlent-push lent new c h);
    open_links = let push = count_by-push is_lent_in_level lent new in let all = s.open_links in omega (arith, all, push);
  }
    where
      new : Lent Link
      new = record { id = core.next_conn; created = created; raw = driver.new_link (store.given + 1) }

  -- a connection was opened and closed again
  pub links-rejected : LinksStand core (closed_at 0 (connected (store.given + 1) store)) lent history
  links-rejected = record {
    accepted = s.accepted;
    rows = s.rows;
    owned = s.owned;
    lent_links = s.lent_links;
    idle_links = s.idle_links;
    unopened = s.unopened;
    unlent = s.unlent;
    open_links = let all = s.open_links in omega (arith, all);
  }

  -- ---- the first idle connection

  module _ (i : Idle Link) (rest : List (Idle Link)) (e : core.idle ≡ i ∷ rest) where
    first_link : IsRestingLink (linked_after history) i.lent.id i.lent.raw
    first_link = All-head (λ (x : Idle Link). IsRestingLink (linked_after history) x.lent.id x.lent.raw) i rest (All-same (λ (x : Idle Link). IsRestingLink (linked_after history) x.lent.id x.lent.raw) (i ∷ rest) core.idle (sym e) s.idle_links)

    rest_links : All (λ (x : Idle Link). IsRestingLink (linked_after history) x.lent.id x.lent.raw) rest
    rest_links = All-tail (λ (x : Idle Link). IsRestingLink (linked_after history) x.lent.id x.lent.raw) i rest (All-same (λ (x : Idle Link). IsRestingLink (linked_after history) x.lent.id x.lent.raw) (i ∷ rest) core.idle (sym e) s.idle_links)

    others : drop 1 core.idle ≡ rest
    others = ap (drop 1) e

    -- it is lent
    pub links-lent : (k : ℕ) (created : Moment)
        → LinksStand (lent_to k i.lent.id created (core_without_first core)) store (lent ++ record { id = i.lent.id; created = created; raw = i.lent.raw } ∷ []) history
    links-lent k created = record {
      accepted = s.accepted;
      rows = s.rows;
      owned = map-push (λ (l : Lent Link). l.id) lent new ∙ ap (λ (ids : List ℕ). ids ++ i.lent.id ∷ []) s.owned ∙ sym (map-push (λ (h : OwnedConn). h.conn) core.held (record { conn = i.lent.id; client = k; created = created }));
      lent_links = All-push (λ (l : Lent Link). IsLinkOf (linked_after history) l.id l.raw) lent new s.lent_links first_link.is;
      idle_links = All-same (λ (x : Idle Link). IsRestingLink (linked_after history) x.lent.id x.lent.raw) (drop 1 core.idle) rest others rest_links;
      unopened = s.unopened;
      unlent = λ c h. s.unlent c (unlent-push lent new c h);
      open_links = let push = count_by-push is_lent_in_level lent new in let mark = level_counts new in let all = s.open_links in let flat = first_link.rests in omega (arith, all, push, mark, flat);
    }
      where
        new : Lent Link
        new = record { id = i.lent.id; created = created; raw = i.lent.raw }

    -- it is closed, where each connection is owned or idle at most once
    pub links-closed : ((c : ℕ) → count_by (holds c) core.held + count_by (rests c) core.idle ≤ 1) → LinksStand (core_without_first core) (closed_at i.lent.raw.depth store) lent (leaves i.lent.id ∷ history)
    links-closed alone = record {
      accepted = (tt, s.accepted);
      rows = s.rows;
      owned = s.owned;
      lent_links = All-passing (λ (l : Lent Link). IsLinkOf (linked_after history) l.id l.raw) (λ (l : Lent Link). IsLinkOf (linked_after (leaves i.lent.id ∷ history)) l.id l.raw) (λ (l : Lent Link). i.lent.id == l.id)
          (λ l other is. is ∙ stays l.id other) lent no_lent s.lent_links;
      idle_links = All-same (λ (x : Idle Link). IsRestingLink (linked_after (leaves i.lent.id ∷ history)) x.lent.id x.lent.raw) (drop 1 core.idle) rest others
          (All-passing (λ (x : Idle Link). IsRestingLink (linked_after history) x.lent.id x.lent.raw) (λ (x : Idle Link). IsRestingLink (linked_after (leaves i.lent.id ∷ history)) x.lent.id x.lent.raw) (rests i.lent.id)
          (λ x other is. record { is = is.is ∙ stays x.lent.id other; rests = is.rests }) rest no_rest rest_links);
      unopened = λ c h. unopened_at c (s.unopened c h) (c == i.lent.id);
      unlent = λ c h. unlent_at c (s.unlent c h) (c == i.lent.id);
      open_links = let all = s.open_links in let flat = first_link.rests in omega (arith, all, flat);
    }
      where
        whole : count_by (rests i.lent.id) core.idle ≡ 1 + count_by (rests i.lent.id) rest
        whole =
            ap (count_by (rests i.lent.id)) e ∙ count_by-cons (rests i.lent.id) i rest
            ∙ ap (λ (b : Bool). cond {A = ℕ} b 1 0 + count_by (rests i.lent.id) rest) (same_number i.lent.id)

        unowned : count_by (holds i.lent.id) core.held ≡ 0
        unowned = let all = whole in let one = alone i.lent.id in omega (arith, all, one)

        no_lent : count_by (λ (l : Lent Link). i.lent.id == l.id) lent ≡ 0
        no_lent = sym (count_by-map (λ (l : Lent Link). l.id) (λ (c : ℕ). i.lent.id == c) lent) ∙ ap (count_by (λ (c : ℕ). i.lent.id == c)) s.owned ∙ count_by-map (λ (h : OwnedConn). h.conn) (λ (c : ℕ). i.lent.id == c) core.held ∙ unowned

        no_rest : count_by (rests i.lent.id) rest ≡ 0
        no_rest = let all = whole in let one = alone i.lent.id in omega (arith, all, one)

        stays : (d : ℕ) → not (i.lent.id == d) ≡ true → (linked_after history).link d ≡ cond (d == i.lent.id) new_link ((linked_after history).link d)
        stays d other = by (d == i.lent.id) (ap not (number_comm d i.lent.id) ∙ other)
          where
            by : (b : Bool) → not b ≡ true → (linked_after history).link d ≡ cond b new_link ((linked_after history).link d)
            by true h = absurd cc
            by false h = refl

        unopened_at : (c : ℕ) → (linked_after history).link c ≡ new_link → (b : Bool) → cond b new_link ((linked_after history).link c) ≡ new_link
        unopened_at c h true = refl
        unopened_at c h false = h

        unlent_at : (c : ℕ) → ((linked_after history).link c).depth ≡ 0 → (b : Bool) → (cond b new_link ((linked_after history).link c)).depth ≡ 0
        unlent_at c h true = refl
        unlent_at c h false = h
