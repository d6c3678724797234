use Rattle.sqlx_transfer.proofs.Acts.{rolls_level_back}
use Rattle.sqlx_transfer.proofs.level.roll_back.Goals as goal

pub returns : goal.returns
returns g c = λ past o k n b at one. rolls_level_back past o k n b _ _ _ _ _ at one c.in_ok-run.ensures.reply c.in_ok-run.ensures.store c.in_ok-run.ensures.link
