-- A connection that is borrowed, or one of a pool: it holds what either holds.
use Rattle.std.proofs.Common.{◌≡◌, refl, ap}
use Rattle.sqlx_tx.specs.Lending.{with_value}
use Rattle.sqlx_pool.specs.declared.maybe.MaybePoolConnectionOf.{MaybePoolConnectionOf}
use Rattle.sqlx_pool.specs.declared.maybe.MaybePoolConnectionOf.TheVariants as maybe

module _ {C P : Type 0} where
  -- the connection that is held
  abbrev pub held_of : (P → C) → MaybePoolConnectionOf C P → C
  held_of held (maybe.Connection borrowed) = borrowed.now
  held_of held (maybe.PoolConnection conn) = held conn

  -- the same holder, with another connection
  abbrev pub holding_of : (P → C → P) → MaybePoolConnectionOf C P → C → MaybePoolConnectionOf C P
  holding_of holding (maybe.Connection borrowed) conn = maybe.Connection (with_value borrowed conn)
  holding_of holding (maybe.PoolConnection pooled) conn = maybe.PoolConnection (holding pooled conn)

  -- the connection that is put in is the one that is held
  pub puts-of : (held : P → C) (holding : P → C → P) → ((p : P) (c : C) → held (holding p c) ≡ c)
      → (holder : MaybePoolConnectionOf C P) (c : C) → held_of held (holding_of holding holder c) ≡ c
  puts-of held holding puts (maybe.Connection borrowed) c = refl
  puts-of held holding puts (maybe.PoolConnection conn) c = puts conn c

  -- holding what is held changes nothing
  pub keeps-of : (held : P → C) (holding : P → C → P) → ((p : P) → holding p (held p) ≡ p)
      → (holder : MaybePoolConnectionOf C P) → holding_of holding holder (held_of held holder) ≡ holder
  keeps-of held holding keeps (maybe.Connection borrowed) = refl
  keeps-of held holding keeps (maybe.PoolConnection conn) = ap (λ (p : P). maybe.PoolConnection p) (keeps conn)

  -- the connection that is put in last counts
  pub again-of : (holding : P → C → P) → ((p : P) (a b : C) → holding (holding p a) b ≡ holding p b)
      → (holder : MaybePoolConnectionOf C P) (a b : C) → holding_of holding (holding_of holding holder a) b ≡ holding_of holding holder b
  again-of holding again (maybe.Connection borrowed) a b = refl
  again-of holding again (maybe.PoolConnection conn) a b = ap (λ (p : P). maybe.PoolConnection p) (again conn a b)
