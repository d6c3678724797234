-- Whom a call of an outside reaches that is made of a connector and of hooks.
use Rattle.std.specs.Prelude.{◌≡◌}
use Rattle.sqlx_traits.specs.Calls.{Closing, Outcome}
use Rattle.sqlx_traits.specs.Calls.Closing.{told, at_once}
use Rattle.sqlx_traits.specs.Calls as driver
use Rattle.sqlx_pool_core.specs.Calls.{Call, connect, ping, close, close_hard}

-- of hooks: what they are asked by a call; of connections: what their calls do, and how they end
module _ {C O H : Type 0} (asks : Call C O → H → H → Type 0) (does : driver.Call → C → Outcome → C → Type 0) (ends : Closing → C → Outcome → Type 0) where
  -- a hook's call asks the hooks, and no other does; a ping is the connection's own; and it is closed hard or gently, as is said
  abbrev pub Reaches : Call C O → H → H → Type 0
  Reaches (connect options answer) old new = new ≡ old
  Reaches (ping conn answer now) old new = (new ≡ old) × does driver.ping conn answer now
  Reaches (close conn) old new = (new ≡ old) × (outcome : Outcome) × ends told conn outcome
  Reaches (close_hard conn) old new = (new ≡ old) × (outcome : Outcome) × ends at_once conn outcome
  Reaches hook old new = asks hook old new
