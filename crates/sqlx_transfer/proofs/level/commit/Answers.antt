use Rattle.sqlx_transfer.proofs.Acts.{commits_level}
use Rattle.sqlx_transfer.proofs.level.commit.Goals as goal

pub returns : goal.returns
returns g c = λ past o k n b at one. commits_level past o k n b _ _ _ _ _ at one c.in_ok-run.ensures.reply c.in_ok-run.ensures.store c.in_ok-run.ensures.link
