use Rattle.sqlx_jobs.proofs.Standing.{if_ok, keeps_on}
use Rattle.sqlx_jobs.proofs.queue.JobQueue.work.Goals as goal

pub take_back-requires : goal.take_back-requires
take_back-requires g c = (c.lend-id.ensures c.requires.holds.1.link c.requires.holds.1.rests).1

pub returns-clause-answers : goal.returns-clause-answers
returns-clause-answers g c = if_ok c.run_event-reply.result _ _ (λ reply answers pairs h few.
    let lent = c.lend-id.ensures h.link h.rests in
    let done = answers h.number pairs (keeps_on h.number pairs _ h.link _ lent.0 h.keeps) few in
    (done.0, record { link = c.run_event-reply.new.link; number = h.number; rests = c.take_back.ensures; keeps = done.1 })) c.run_event-reply.ensures
