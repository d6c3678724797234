use Rattle.sqlx_play.proofs.statements.StatementStands.{statement-plays_if}
use Rattle.sqlx_play.proofs.statements.RunsCounted.{statement-counted_if}
use Rattle.std.proofs.Common.{rules}
use Rattle.sqlx_play.specs.stage.Scene.{scene_of}
use Rattle.sqlx_play.proofs.stage.loans.statements.play.Goals as goal

pub returns-clause-ok : goal.returns-clause-ok
returns-clause-ok g c =
    statement-plays_if (scene_of c.args.stage.now) (scene_of c.run.new.stage) c.args.event.now c.in-Some.statement c.run.result c.run.ensures.numbered c.in-Some.ensures.some c.in-Some.ensures.met c.run.ensures.core c.run.ensures.pool c.run.ensures.ok

pub returns-clause-frame : goal.returns-clause-frame
returns-clause-frame g c = record {
  frame = search rules;
  runs = statement-counted_if (scene_of c.args.stage.now) (scene_of c.run.new.stage) c.in-Some.statement c.args.event.now.step c.run.result c.in-Some.ensures.act c.run.ensures.ok;
}
