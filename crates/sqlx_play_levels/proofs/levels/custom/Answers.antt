use Rattle.std.proofs.Common.{None, ◌∙◌, ap}
use Rattle.mem_driver.specs.Asked.{asked}
use Rattle.sqlx_play_levels.proofs.LevelLemmas.{custom_gives}
use Rattle.sqlx_play_levels.proofs.levels.custom.Goals as goal

pub returns : goal.returns
returns c =
    custom_gives c.args.starts (asked c.from_static-statement.result None) c.args.conn.now.backend c.begin_level-answer.new.conn.backend c.begin_level-answer.result c.level_reply.result
    (ap (λ text. asked text None) c.from_static-statement.ensures ∙ c.custom_text.ensures _) c.begin_level-answer.ensures.does c.level_reply.ensures
