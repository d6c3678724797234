use Rattle.sqlx_pool_lists.specs.PollSteps.{phase_for, start_marks}
use Rattle.zangipuk_c.proofs.LogLemmas.{noted-start}
use Rattle.zangipuk_c.proofs.steps.start.Goals as goal

pub returns-clause-continues : goal.returns-clause-continues
returns-clause-continues c =
    let told = c.args.told in
    let phase = phase_for told.client told.ticket c.args.kept.now.core.pool.tickets in
    record {
      made = start_marks told.ticket phase c.start-started.result;
      makes = c.start-started.ensures.makes;
      notes = noted-start c.args.kept.now.log c.start.new.log told.ticket phase c.start-started.result c.waited-waited.result c.waited-waited.ensures c.start.ensures;
    }
