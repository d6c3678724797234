use Rattle.std.proofs.Common.{ap}
use Rattle.sqlx_savepoints.specs.Texts.{text_of}
use Rattle.sqlx_savepoints.proofs.level_text.LevelText.parts.Goals as goal

pub returns-in-RollbackTo-clause-text : goal.returns-in-RollbackTo-clause-text
returns-in-RollbackTo-clause-text c = ap text_of c.in-RollbackTo.is
