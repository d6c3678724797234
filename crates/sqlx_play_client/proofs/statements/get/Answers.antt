use Rattle.std.proofs.Common.{to_z-of_z}
use Rattle.sqlx_play_levels.proofs.ReplyLemmas.{get_gives}
use Rattle.sqlx_play_client.proofs.statements.get.Goals as goal

pub returns : goal.returns
returns c =
    let comes = rw (to_z-of_z c.ranges.key) at c.get_number.ensures in
    get_gives c.args.key c.args.conn.now.backend.work c.get_number.result c.read.result c.get_number.new.conn.backend.work comes c.read.ensures
