-- When the links and the store of a stage are what the transactions of a script come to.
use Rattle.std.specs.Prelude.{◌≡◌, ℕ, ◌≤◌, ◌==◌, nat_lt, Bool, false, List, map, count_by, All}
use Rattle.std.specs.List.{list_any}
use Rattle.sqlx_pool_lists.specs.declared.steps.Lent.{Lent}
use Rattle.sqlx_pool_lists.specs.declared.steps.Idle.{Idle}
use Rattle.sqlx_pool_lists.specs.declared.ticket.OwnedConn.{OwnedConn}
use Rattle.sqlx_pool_lists.specs.Core.{Core}
use Rattle.mem_store.specs.Store.{Store, Link}
use Rattle.sqlx_savepoints.specs.Changes.{History}
use Rattle.sqlx_savepoints.specs.Links.{Linked, linked_after, new_link}
use Rattle.sqlx_savepoints.specs.Links as bracket
use Rattle.sqlx_savepoints.specs.Stores.{AreAccepted}

-- a link's own side, as brackets see it
abbrev pub side_of : Link → bracket.Link
side_of link = record { own = link.own; entries = link.entries; depth = link.depth }

-- the link is that of connection c
abbrev pub IsLinkOf : Linked → ℕ → Link → Type 0
IsLinkOf linked c link = side_of link ≡ linked.link c

-- the link of an idle connection, which has no level
pub record IsRestingLink (linked : Linked) (c : ℕ) (link : Link) : Type 0 where
  pub is : IsLinkOf linked c link
  pub rests : link.depth ≡ 0

-- ---- of links

-- a level is open on the link
abbrev pub is_in_level : Link → Bool
is_in_level link = nat_lt 0 link.depth

-- a level is open on the lent link
abbrev pub is_lent_in_level : Lent Link → Bool
is_lent_in_level l = is_in_level l.raw

-- The committed rows are those of the history, each client's connection and each idle one has its link, and the store knows how many links have an open level, all of them lent.
pub record LinksStand (core : Core Link) (store : Store) (lent : List (Lent Link)) (history : History) : Type 0 where
  pub accepted : AreAccepted history
  pub rows : store.rows ≡ (linked_after history).rows
  pub owned : map (λ (l : Lent Link). l.id) lent ≡ map (λ (h : OwnedConn). h.conn) core.held
  pub lent_links : All (λ (l : Lent Link). IsLinkOf (linked_after history) l.id l.raw) lent
  pub idle_links : All (λ (i : Idle Link). IsRestingLink (linked_after history) i.lent.id i.lent.raw) core.idle
  pub unopened : (c : ℕ) → core.next_conn ≤ c → (linked_after history).link c ≡ new_link
  pub unlent : (c : ℕ) → list_any (λ (l : Lent Link). c == l.id) lent ≡ false → ((linked_after history).link c).depth ≡ 0
  pub open_links : store.open_links ≡ count_by is_lent_in_level lent
