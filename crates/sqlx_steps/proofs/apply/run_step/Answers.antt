use Rattle.std.proofs.Common.{pos, length, ◌+◌, arith}
use Rattle.sqlx_steps_rules.specs.Rules.{cost}
use Rattle.sqlx_steps.specs.AtWork.{IsAtRest}
use Rattle.sqlx_steps.specs.Texts.{stepped}
use Rattle.sqlx_steps.proofs.Counting.{texts_behind, text_stops}
use Rattle.sqlx_steps.proofs.apply.run_step.Goals as goal

pub returns-in-All : goal.returns-in-All
returns-in-All g c = λ n rows rests.
    let ran = c.in-All.ensures.text n rows rests in
    texts_behind (λ s l. IsAtRest s l n (stepped c.args.step.now (pos c.args.version) rows)) (λ s l. IsAtRest s l n rows) (length c.args.step.now + 2) (cost c.args.step.now) c.args.left.now c.begin-ran.new.left c.run_level.new.left
    c.run_level.result (g.W.Work.store c.run_level.new.work) (g.W.Work.link c.run_level.new.work) (omega arith) ran.1 c.begin-ran.ensures.counts (c.run_level.ensures n rows ran.0)

pub returns-in-Refused : goal.returns-in-Refused
returns-in-Refused g c = λ n rows rests.
    text_stops _ _ _ _ (cost c.args.step.now) 0 c.args.left.now c.args.left.now _ _ _ _ c.in-Refused.is (λ k. k) (omega arith) (λ some. some) (omega arith) (c.begin-ran.ensures.text n rows rests)
