use Rattle.std.proofs.Common.{◌≡◌, ◌∙◌, ◌∷◌, [], Err, ap}
use Rattle.sqlx_traits.specs.StepList.{results_of}
use Rattle.sqlx_traits.proofs.StepLemmas.{causes_of_results, unencoded_by}
use Rattle.sqlx_traits.proofs.executor.Executor.execute_many.Goals as goal

pub returns-clause-results : goal.returns-clause-results
returns-clause-results g c = (c.fetch_many.result, c.fetch_many.ensures.steps, c.new.ensures)

pub returns-clause-unencoded : goal.returns-clause-unencoded
returns-clause-unencoded g c =
    unencoded_by (λ e. c.fetch_many.result ≡ Err e ∷ []) (λ e. c.new.result ≡ Err e ∷ []) _ _ _ (λ e is. c.new.ensures ∙ ap results_of is) c.fetch_many.ensures.unencoded

pub returns-clause-causes : goal.returns-clause-causes
returns-clause-causes g c = rw c.new.ensures (causes_of_results _ _ _ c.fetch_many.result c.fetch_many.ensures.causes)
