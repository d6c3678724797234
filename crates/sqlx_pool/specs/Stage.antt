-- How far a poll has come.
use Rattle.std.specs.Prelude.{⊤, Bool, true, false}
use Rattle.sqlx_text.specs.declared.error.Error.{Error}
use Rattle.sqlx_pool_lists.specs.declared.steps.Lent.{Lent}
use Rattle.sqlx_pool.specs.declared.stage.Stage.{Stage}
use Rattle.sqlx_pool.specs.declared.stage.Stage.TheVariants as stage

module _ {C H : Type 0} where
  -- a connection was lent
  abbrev pub has_lent : Stage C H → Bool
  has_lent (stage.Lent lent held) = true
  has_lent other = false

  -- P of the connection that was lent, if one was
  abbrev pub IfLent : Stage C H → (Lent C → Type 0) → Type 0
  IfLent (stage.Lent lent held) P = P lent
  IfLent other P = ⊤

  -- P of the error by which the ticket ended, if it did
  abbrev pub IfEnded : Stage C H → (Error → Type 0) → Type 0
  IfEnded (stage.Failed error) P = P error
  IfEnded (stage.Left raw hard error) P = P error
  IfEnded other P = ⊤

  -- an idle connection is to be tested
  abbrev pub wants_test : Stage C H → Bool
  wants_test (stage.Test idle moment) = true
  wants_test other = false

  -- a connection is to be opened
  abbrev pub wants_connect : Stage C H → Bool
  wants_connect stage.Connect = true
  wants_connect other = false
