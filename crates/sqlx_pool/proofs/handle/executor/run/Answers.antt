use Rattle.std.proofs.Common.{[], ◌∷◌, Err, inl, inr, ap, ◌∙◌}
use Rattle.sqlx_pool.proofs.HandleLemmas.{causes_counted, told_step}
use Rattle.sqlx_pool.proofs.TallyLemmas.{lent_back, risen_same}
use Rattle.sqlx_pool.proofs.handle.executor.run.Goals as goal

pub returns-in-Ok-clause-ran : goal.returns-in-Ok-clause-ran
returns-in-Ok-clause-ran g c =
    inr (c.in-Ok.lent.raw, c.run_on-list.new.conn.raw, c.in-Ok.ensures.flat, lent_back _ _ _ c.in-Ok.ensures.lent c.give_back.ensures.tally, c.run_on-list.ensures.steps, c.run_on-list.ensures.causes)

pub returns-in-Ok-clause-causes : goal.returns-in-Ok-clause-causes
returns-in-Ok-clause-causes g c =
    causes_counted _ _ _ _ _ c.run_on-list.result (risen_same _ _ _ c.in-Ok.ensures.counted c.give_back.ensures.calls) c.run_on-list.ensures.causes

pub returns-in-Err-clause-ran : goal.returns-in-Err-clause-ran
returns-in-Err-clause-ran g c =
    inl (c.in-Err.error, c.in-Err.ensures.causes, c.in-Err.ensures.refused, c.refused.ensures ∙ ap (λ e. Err e ∷ []) c.as_told.ensures)

pub returns-in-Err-clause-causes : goal.returns-in-Err-clause-causes
returns-in-Err-clause-causes g c = rw (c.refused.ensures, c.as_told.ensures) (told_step _ _ _ c.in-Err.error c.lend.ensures.counted, tt)
