-- A connection as it is lent.
use Rattle.std.specs.Prelude.{ℕ}
use Rattle.sqlx_text.specs.declared.Moment.{Moment}
use Rattle.sqlx_pool_lists.specs.declared.steps.Lent.{Lent}
use Rattle.sqlx_pool.specs.declared.connection.PoolConnectionOf.{PoolConnectionOf}

-- of this number, opened at this moment
abbrev pub lent_of : {C : Type 0} → ℕ → Moment → C → Lent C
lent_of id created raw = record { id = id; created = created; raw = raw }

-- as it was lent to who holds it, whichever value lies under the lock of its pool
abbrev pub as_lent : {C O S Stood Book Held Tally Name Log Logs : Type 0} → PoolConnectionOf C O S Stood Book Held Tally Name Log Logs → Lent C
as_lent conn = lent_of conn.id conn.created conn.raw
