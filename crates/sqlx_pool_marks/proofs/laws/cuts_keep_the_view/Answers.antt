use Rattle.sqlx_pool_marks.proofs.CutLemmas.{view-cut}
use Rattle.sqlx_pool_marks.proofs.laws.cuts_keep_the_view.Goals as goal

pub returns : goal.returns
returns c = view-cut
