-- What a part of an event makes of a stage, where it changes no ticket.
use Rattle.std.specs.Prelude.{◌≡◌, List}
use Rattle.sqlx_pool_marks.specs.declared.mark.Mark.{Mark}
use Rattle.sqlx_pool_lists.specs.StandsFor.{StandsFor}
use Rattle.sqlx_pool_lists.specs.Makes.{Makes}
use Rattle.sqlx_savepoints.specs.Changes.{History}
use Rattle.sqlx_play.specs.stage.Scene.{Scene}
use Rattle.sqlx_play.specs.stage.LinksStand.{LinksStand}
use Rattle.sqlx_play.specs.stage.StageStands.{IsSetUp}

-- The stage has come to these marks and to this history.
pub record IsAt (stage : Scene) (marks : List Mark) (past : History) : Type 0 where
  pub set_up : IsSetUp stage.pool stage.core.options
  pub places : stage.core.places ≡ 0
  pub stands : StandsFor stage.core marks
  pub links : LinksStand stage.core stage.out.store stage.lent.items past

-- The stage comes from these marks, by those that were made, to this history; its tickets stay.
pub record StageAdvance (old new : Scene) (marks made : List Mark) (past : History) : Type 0 where
  pub pool : new.pool ≡ old.pool
  pub makes : Makes old.core.options.max_connections marks made new.core
  pub options : new.core.options ≡ old.core.options
  pub places : new.core.places ≡ 0
  pub tickets : new.core.tickets ≡ old.core.tickets
  pub next : new.core.next_ticket ≡ old.core.next_ticket
  pub links : LinksStand new.core new.out.store new.lent.items past
