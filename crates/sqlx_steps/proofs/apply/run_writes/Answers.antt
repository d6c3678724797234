use Rattle.std.proofs.Common.{pos, subst, length, ◌+◌, arith}
use Rattle.sqlx_savepoints.specs.Rows.{Rows}
use Rattle.sqlx_steps_rules.specs.declared.event.Write.{Write}
use Rattle.sqlx_steps_rules.specs.Rules.{changed, all_changed}
use Rattle.sqlx_steps.specs.AtWork.{IsWithin}
use Rattle.sqlx_steps.specs.Texts.{Text, stepped}
use Rattle.sqlx_steps.proofs.Counting.{text_behind, texts_stop}
use Rattle.sqlx_steps.proofs.apply.run_writes.Goals as goal

pub returns-in-All : goal.returns-in-All
returns-in-All g c = λ n before rows w.
    let ran = c.in-All.ensures n before rows w in
    text_behind (λ s l. IsWithin s l n before (stepped c.args.step.now (pos c.args.version) rows)) (λ s l. IsWithin s l n before (all_changed c.args.step.now rows)) (λ s l. IsWithin s l n before (stepped c.args.step.now (pos c.args.version) rows))
    (λ s l. (seen : Rows) × IsWithin s l n before seen) (length c.args.step.now) (length c.args.step.now + 1) c.args.left.now c.run_statements-ran.new.left c.write.new.left c.write.result (g.W.Work.store c.write.new.work) (g.W.Work.link c.write.new.work)
    (λ d. d) (λ k. (all_changed c.args.step.now rows, k)) (omega arith) ran.1 ran.2 c.write.ensures.counts (subst (λ (w : Write). Text (λ s l. IsWithin s l n before (changed w (all_changed c.args.step.now rows))) (λ s l. IsWithin s l n before (all_changed c.args.step.now rows)) c.run_statements-ran.new.left c.write.result (g.W.Work.store c.write.new.work) (g.W.Work.link c.write.new.work)) c.version_write.ensures (c.write.ensures.text n before _ ran.0))

pub returns-in-Refused : goal.returns-in-Refused
returns-in-Refused g c = λ n before rows w.
    texts_stop _ _ _ _ (length c.args.step.now) (length c.args.step.now + 1) _ _ _ _ _ _ _ _ c.in-Refused.is (λ k. k) (omega arith) (c.run_statements-ran.ensures n before rows w)
