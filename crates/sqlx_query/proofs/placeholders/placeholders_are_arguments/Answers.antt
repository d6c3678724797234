use Rattle.sqlx_query.proofs.PlaceholderLemmas.{counts, numbers, appends}
use Rattle.sqlx_query.proofs.placeholders.placeholders_are_arguments.Goals as goal

pub returns-clause-counts : goal.returns-clause-counts
returns-clause-counts g c = counts g.DB.ArgumentBuffer.ArgumentList.count g.DB.ArgumentBuffer.ArgumentList.first

pub returns-clause-numbers : goal.returns-clause-numbers
returns-clause-numbers g c = numbers g.DB.ArgumentBuffer.ArgumentList.count g.DB.ArgumentBuffer.ArgumentList.first g.met.DB.ArgumentBuffer.ArgumentList.first_of_all

pub returns-clause-texts : goal.returns-clause-texts
returns-clause-texts g c = appends g.DB.ArgumentBuffer.ArgumentList.count g.DB.ArgumentBuffer.ArgumentList.first
