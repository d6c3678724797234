use Rattle.std.proofs.Common.{rules}
use Rattle.sqlx_play_acts.proofs.by_store.run_on.Goals as goal

pub returns-in-GiveUp : goal.returns-in-GiveUp
returns-in-GiveUp c = search (rules, c.roll_back.ensures c.args.answer.now)
