use Rattle.std.proofs.Common.{to_z-of_z}
use Rattle.sqlx_play_levels.proofs.ReplyLemmas.{put_gives}
use Rattle.sqlx_play_client.proofs.statements.put.Goals as goal

pub returns : goal.returns
returns c =
    let comes = rw (to_z-of_z c.ranges.key, to_z-of_z c.ranges.value) at c.put_rows.ensures in
    put_gives c.args.key c.args.value c.args.conn.now.backend.work c.put_rows.result c.written.result c.put_rows.new.conn.backend.work comes c.written.ensures
