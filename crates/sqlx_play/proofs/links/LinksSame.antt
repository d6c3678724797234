-- Links and store where a step changes no owned connection, no idle one and no number of connections.
use Rattle.std.proofs.Common.{◌≡◌, ℕ, ◌≤◌, List, [], map, refl, sym, ap, subst, ◌∙◌}
use Rattle.std.proofs.lemmas.List.Elements.{All-nil, All-same}
use Rattle.sqlx_pool_lists.specs.declared.steps.Lent.{Lent}
use Rattle.sqlx_pool_lists.specs.declared.steps.Idle.{Idle}
use Rattle.sqlx_pool_lists.specs.declared.ticket.OwnedConn.{OwnedConn}
use Rattle.sqlx_pool_lists.specs.Core.{Core}
use Rattle.mem_store.specs.Store.{Store, Link, new_store}
use Rattle.sqlx_savepoints.specs.Changes.{History}
use Rattle.sqlx_savepoints.specs.Links.{linked_after}
use Rattle.sqlx_play.specs.stage.LinksStand.{LinksStand, IsRestingLink}

pub links-same : (core new : Core Link) (store : Store) (lent : List (Lent Link)) (history : History) → LinksStand core store lent history
    → new.held ≡ core.held → new.idle ≡ core.idle → new.next_conn ≡ core.next_conn → LinksStand new store lent history
links-same core new store lent history s held idle next = record {
  accepted = s.accepted;
  rows = s.rows;
  owned = s.owned ∙ ap (λ (l : List OwnedConn). map (λ (h : OwnedConn). h.conn) l) (sym held);
  lent_links = s.lent_links;
  idle_links = All-same (λ (i : Idle Link). IsRestingLink (linked_after history) i.lent.id i.lent.raw) new.idle core.idle idle s.idle_links;
  unopened = λ c h. s.unopened c (subst (λ (n : ℕ). n ≤ c) next h);
  unlent = s.unlent;
  open_links = s.open_links;
}

-- no link yet
pub links-none : (core : Core Link) (lent : List (Lent Link)) → core.held ≡ [] → core.idle ≡ [] → lent ≡ [] → LinksStand core new_store lent []
links-none core lent held idle none = subst (λ (l : List (Lent Link)). LinksStand core new_store l []) (sym none) (record {
  accepted = tt;
  rows = refl;
  owned = ap (λ (l : List OwnedConn). map (λ (h : OwnedConn). h.conn) l) (sym held);
  lent_links = All-nil _;
  idle_links = All-same (λ (i : Idle Link). IsRestingLink (linked_after []) i.lent.id i.lent.raw) core.idle [] idle (All-nil _);
  unopened = λ c h. refl;
  unlent = λ c h. refl;
  open_links = refl;
})

-- equal parts stand as well
pub links-as : (core new : Core Link) (store now : Store) (lent given : List (Lent Link)) (history : History) → new ≡ core → now ≡ store → given ≡ lent → LinksStand core store lent history → LinksStand new now given history
links-as core new store now lent given history e f g s =
    subst (λ (c : Core Link). LinksStand c now given history) (sym e)
    (subst (λ (x : Store). LinksStand core x given history) (sym f)
    (subst (λ (l : List (Lent Link)). LinksStand core store l history) (sym g) s))
