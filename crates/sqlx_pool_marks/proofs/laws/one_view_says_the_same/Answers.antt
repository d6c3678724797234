use Rattle.sqlx_pool_marks.proofs.FairLaws.{says-the-same}
use Rattle.sqlx_pool_marks.proofs.laws.one_view_says_the_same.Goals as goal

pub returns : goal.returns
returns c = says-the-same
