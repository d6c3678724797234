use Rattle.sqlx_steps.specs.AtWork.{IsAtRest}
use Rattle.sqlx_steps.proofs.Counting.{refused_then}
use Rattle.sqlx_steps.proofs.apply.run_refused.Goals as goal

pub returns-in-Some : goal.returns-in-Some
returns-in-Some g c = λ n before w.
    refused_then _ _ (λ s l. IsAtRest s l n before) (λ s l. IsAtRest s l n before) _ _ _ _ _ (λ k. c.give_up.ensures n before before k) (c.write-ran.ensures.text n before before w)
