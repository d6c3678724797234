use Rattle.std.proofs.Common.{◌∙◌, ap}
use Rattle.sqlx_savepoints.specs.Texts.{begin_at}
use Rattle.sqlx_play_levels.proofs.LevelLemmas.{begin_gives}
use Rattle.sqlx_play_levels.proofs.levels.begin.Goals as goal

pub returns : goal.returns
returns c =
    begin_gives c.depth-2.result c.begin_at-text.result c.args.conn.now.backend c.begin_level-answer.new.conn.backend c.begin_level-answer.result c.level_reply.result
    c.begin_level-answer.ensures.does (c.depth-2.ensures ∙ c.begin_level-answer.ensures.levels) (c.begin_at-text.ensures ∙ ap begin_at c.depth.ensures) c.level_reply.ensures
