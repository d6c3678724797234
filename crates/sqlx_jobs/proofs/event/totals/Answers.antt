use Rattle.sqlx_jobs_rules.specs.Jobs.{jobs_of}
use Rattle.sqlx_jobs.proofs.Plans.{told}
use Rattle.sqlx_jobs.proofs.event.totals.Goals as goal

pub returns : goal.returns
returns c = λ n pairs link k.
    let t = told n pairs _ link k in
    (c.added.ensures (jobs_of pairs) t, (c.count.ensures (jobs_of pairs) t).of_done)
