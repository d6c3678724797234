use Rattle.std.proofs.Common.{Err, inl, inr, ap}
use Rattle.sqlx_pool.proofs.HandleLemmas.{errs_counted, told_fault}
use Rattle.sqlx_pool.proofs.TallyLemmas.{lent_back, risen_same}
use Rattle.sqlx_pool.proofs.handle.executor.prepare.Goals as goal

pub returns-in-Ok-clause-ran : goal.returns-in-Ok-clause-ran
returns-in-Ok-clause-ran g c =
    inr (c.in-Ok.lent.raw, c.prepare_on-prepared.new.conn.raw, c.in-Ok.ensures.flat, lent_back _ _ _ c.in-Ok.ensures.lent c.give_back.ensures.tally, c.prepare_on-prepared.ensures.prepared, c.prepare_on-prepared.ensures.cause)

pub returns-in-Ok-clause-cause : goal.returns-in-Ok-clause-cause
returns-in-Ok-clause-cause g c =
    errs_counted _ _ _ _ c.prepare_on-prepared.result (risen_same _ _ _ c.in-Ok.ensures.counted c.give_back.ensures.calls) c.prepare_on-prepared.ensures.cause

pub returns-in-Err-clause-ran : goal.returns-in-Err-clause-ran
returns-in-Err-clause-ran g c = inl (c.in-Err.error, c.in-Err.ensures.causes, c.in-Err.ensures.refused, ap Err c.as_told.ensures)

pub returns-in-Err-clause-cause : goal.returns-in-Err-clause-cause
returns-in-Err-clause-cause g c = rw (c.as_told.ensures) (told_fault _ _ _ c.lend.ensures.counted)
