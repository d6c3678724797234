use Rattle.sqlx_transfer.proofs.Acts.{begins_level}
use Rattle.sqlx_transfer.proofs.level.begin.Goals as goal

pub returns : goal.returns
returns g c = λ past o k n b at low few. begins_level past o k n b _ _ _ _ _ at low few c.in_ok-run.ensures.reply c.in_ok-run.ensures.store c.in_ok-run.ensures.link
