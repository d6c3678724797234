use Rattle.std.proofs.Common.{◌∙◌}
use Rattle.sqlx_jobs_rules.specs.Texts.{closing_text}
use Rattle.sqlx_jobs.proofs.queue.JobQueueResponder.close.Goals as goal

pub returns : goal.returns
returns g c = λ first pairs s.
    let told = c.totals-added.ensures s.holds.number pairs s.holds.link s.holds.keeps in
    (c.fill_closing.ensures ∙ (λ i. closing_text (told.0 i) (told.1 i)), s)
