use Rattle.std.proofs.Common.{◌≡◌, ◌∷◌, [], Err}
use Rattle.sqlx_traits.proofs.StepLemmas.{cause_of_first_error, unencoded_by}
use Rattle.sqlx_traits.proofs.executor.Executor.execute.Goals as goal

pub returns-clause-combined : goal.returns-clause-combined
returns-clause-combined g c = let ran = c.execute_many.ensures.results in (ran.0, ran.1, rw ran.2 at c.combine.ensures)

pub returns-clause-unencoded : goal.returns-clause-unencoded
returns-clause-unencoded g c =
    unencoded_by (λ e. c.execute_many.result ≡ Err e ∷ []) (λ e. c.combine.result ≡ Err e) _ _ _ (λ e is. rw is at c.combine.ensures) c.execute_many.ensures.unencoded

pub returns-clause-cause : goal.returns-clause-cause
returns-clause-cause g c = rw c.combine.ensures (cause_of_first_error _ _ _ c.execute_many.result _ c.execute_many.ensures.causes)
