-- A bank before its first event.
use Rattle.std.specs.Prelude.{◌≡◌, ℕ, List, [], length, All}
use Rattle.sqlx_savepoints.specs.Changes.{History}
use Rattle.sqlx_savepoints.specs.Standing.{standing}
use Rattle.sqlx_savepoints.specs.Links.{linked_after, new_link}
use Rattle.sqlx_pool_lists.specs.Core.{Core}
use Rattle.sqlx_pool_lists.specs.declared.steps.Idle.{Idle}
use Rattle.mem_store.specs.Store.{Store, Link}
use Rattle.sqlx_play.specs.stage.LinksStand.{side_of}
use Rattle.sqlx_transfer_rules.specs.Transfers.{nobody}
use Rattle.sqlx_transfer_rules.specs.Values.{opening_rows}
use Rattle.sqlx_transfer.specs.At.{At}
use Rattle.sqlx_transfer.specs.Pool.{IsPool}

-- The opening balances of accounts 1 to n were written, on a connection without a level; no other has one.
pub record Wrote (opening n : ℕ) (store : Store) (link : Link) : Type 0 where
  pub past : History
  pub at : At past (λ _. new_link) nobody 0 0 store link
  pub stands : standing past ≡ opening_rows opening n
  pub flat : (linked_after past).link nobody ≡ new_link

-- So many connections of a pool are opened, and rest without a level.
pub record Fills (max count : ℕ) (core : Core Link) : Type 0 where
  pub idle : List (Idle Link)
  pub pool : IsPool max core [] idle
  pub count' : length idle ≡ count
  pub rests : All (λ i. side_of i.lent.raw ≡ new_link) idle

-- The stores have the same rows, levels and counts.
pub record AreAlike (old new : Store) : Type 0 where
  pub rows : new.rows ≡ old.rows
  pub open_links : new.open_links ≡ old.open_links
  pub runs : new.runs ≡ old.runs
