use Rattle.std.proofs.Common.{subst}
use Rattle.sqlx_play_acts.specs.declared.act.Act.{Act}
use Rattle.mem_store.specs.Store.{at_work}
use Rattle.sqlx_steps.specs.Texts.{TextGives, answer_at}
use Rattle.sqlx_steps.proofs.TextLemmas.{write_text}
use Rattle.sqlx_steps.proofs.texts.write.Goals as goal

pub returns-clause-text : goal.returns-clause-text
returns-clause-text g c = λ n before rows within.
    write_text _ _ n before rows c.args.write _ _ _ _ c.run_text.ensures.gives.0 within
    (subst (λ (a : Act). TextGives a c.run_text.result (at_work (g.W.Work.store c.args.work.now) (g.W.Work.link c.args.work.now) (answer_at c.args.left.now)) (at_work (g.W.Work.store c.run_text.new.work) (g.W.Work.link c.run_text.new.work) c.run_text.ensures.gives.0)) c.act_of.ensures c.run_text.ensures.gives.1)
