use Rattle.sqlx_jobs.proofs.Standing.{counted_on}
use Rattle.sqlx_jobs.proofs.queue.JobQueue.reply_to.Goals as goal

pub returns-in-Count-clause-answers : goal.returns-in-Count-clause-answers
returns-in-Count-clause-answers g c = λ pairs h few. counted_on _ _ c.args.self.now.lease pairs c.args.event.now _ c.in-Count.is h (c.count.ensures h.link c.args.self.now.lease h.number pairs h.keeps few)
