-- The store behind the closing of several links.
use Rattle.std.specs.Prelude.{List, [], ◌∷◌}
use Rattle.sqlx_pool_lists.specs.declared.steps.Idle.{Idle}
use Rattle.mem_store.specs.Store.{Store, Link, closed_at}

-- the links of these connections are closed, one by one
abbrev pub closed_all : List (Idle Link) → Store → Store
closed_all [] store = store
closed_all (i ∷ rest) store = closed_all rest (closed_at i.lent.raw.depth store)
