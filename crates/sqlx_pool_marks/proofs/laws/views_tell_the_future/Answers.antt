use Rattle.sqlx_pool_marks.proofs.FairLaws.{views-tell}
use Rattle.sqlx_pool_marks.proofs.laws.views_tell_the_future.Goals as goal

pub returns : goal.returns
returns c = views-tell
