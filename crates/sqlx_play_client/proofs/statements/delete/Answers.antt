use Rattle.std.proofs.Common.{to_z-of_z}
use Rattle.sqlx_play_levels.proofs.ReplyLemmas.{delete_gives}
use Rattle.sqlx_play_client.proofs.statements.delete.Goals as goal

pub returns : goal.returns
returns c =
    let comes = rw (to_z-of_z c.ranges.key) at c.delete_rows.ensures in
    delete_gives c.args.key c.args.conn.now.backend.work c.delete_rows.result c.written.result c.delete_rows.new.conn.backend.work comes c.written.ensures
