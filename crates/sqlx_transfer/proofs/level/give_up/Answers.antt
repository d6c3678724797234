use Rattle.sqlx_transfer.proofs.Acts.{gives_level_up}
use Rattle.sqlx_transfer.proofs.level.give_up.Goals as goal

pub returns : goal.returns
returns g c = λ past o k n b at one. gives_level_up past o k n b _ _ _ _ _ at one c.in_ok-run.ensures.reply c.in_ok-run.ensures.store c.in_ok-run.ensures.link
