use Rattle.std.proofs.Common.{◌≡◌, ◌∷◌, [], Err}
use Rattle.sqlx_text.specs.declared.error.Error.TheVariants as error
use Rattle.sqlx_traits.specs.Reads.{Answers}
use Rattle.sqlx_traits.specs.StepList.{all_of}
use Rattle.sqlx_traits.proofs.StepLemmas.{cause_of_all, cause_of_answer, unencoded_by}
use Rattle.sqlx_traits.proofs.executor.Executor.fetch_all.Goals as goal

pub returns-clause-rows : goal.returns-clause-rows
returns-clause-rows g c = let ran = c.fetch.ensures.rows in (ran.0, ran.1, rw ran.2 at c.all.ensures)

pub returns-clause-unencoded : goal.returns-clause-unencoded
returns-clause-unencoded g c =
    unencoded_by (λ e. c.fetch.result ≡ Err e ∷ []) (λ e. Answers (λ rows. rows.items) error.OutOfMemory (Err e) c.all.result) _ _ _ (λ e is. rw is at c.all.ensures)
    c.fetch.ensures.unencoded

pub returns-clause-cause : goal.returns-clause-cause
returns-clause-cause g c =
    cause_of_answer _ _ _ (λ rows. rows.items) (all_of c.fetch.result) c.all.result (cause_of_all _ _ _ c.fetch.result c.fetch.ensures.causes) c.all.ensures
