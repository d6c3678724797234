-- What a poll of a pool came to.
use Rattle.std.specs.Prelude.{⊤, Bool, true, false}
use Rattle.sqlx_text.specs.declared.error.Error.{Error}
use Rattle.sqlx_pool.specs.declared.acquiring.Polling.{Polling}
use Rattle.sqlx_pool.specs.declared.acquiring.Polling.TheVariants as polling

module _ {T P : Type 0} where
  -- a connection was lent
  abbrev pub is_ready : Polling T P → Bool
  is_ready (polling.Ready conn) = true
  is_ready other = false

  -- Q of the connection that was lent, if one was
  abbrev pub IfReady : Polling T P → (T → Type 0) → Type 0
  IfReady (polling.Ready conn) Q = Q conn
  IfReady other Q = ⊤

  -- Q of the error by which the ticket ended, if it did
  abbrev pub IfFailed : Polling T P → (Error → Type 0) → Type 0
  IfFailed (polling.Failed error) Q = Q error
  IfFailed other Q = ⊤

  -- Q of the ticket that is polled again later, if it is
  abbrev pub IfPending : Polling T P → (P → Type 0) → Type 0
  IfPending (polling.Pending again why) Q = Q again
  IfPending other Q = ⊤
