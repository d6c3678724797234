use Rattle.std.proofs.Common.{Ok, sym, subst}
use Rattle.sqlx_traits.specs.StepList.{StepCauses}
use Rattle.mem_driver.proofs.AnswersLemmas.{steps_need_no_cause}
use Rattle.mem_driver.proofs.session.MemSession.act.Goals as goal

pub returns-in-Ok-run-clause-causes : goal.returns-in-Ok-run-clause-causes
returns-in-Ok-run-clause-causes c arguments =
    subst (λ steps. StepCauses c.args.self.now.faults c.run.new.self.faults (Ok arguments) steps) (sym c.in-Ok.ensures.steps)
    (steps_need_no_cause c.args.act c.args.self.now.work c.args.self.now.faults c.run.new.self.faults arguments)
