use Rattle.std.proofs.Common.{not, subst, sym, Bool}
use Rattle.mem_store.specs.Store.{at_work}
use Rattle.sqlx_play_acts.specs.declared.act.Act.{Act}
use Rattle.sqlx_jobs.specs.Level.{Puts}
use Rattle.sqlx_jobs.proofs.Levels.{Did, puts}
use Rattle.sqlx_jobs.proofs.level.put.Goals as goal

pub returns : goal.returns
returns g c = λ n before rows begun writes within few.
    let did = subst (λ (a : Act). Did a (at_work c.args.store.now c.args.link.now c.answer_to.result) c.in_ok-reply.reply c.run.new.store c.run.new.link) c.act_of.ensures
    (c.in_ok-reply.ensures.reply, c.in_ok-reply.ensures.store, c.in_ok-reply.ensures.link) in
    subst (λ (b : Bool). Puts c.args.refused c.args.row n before rows begun writes (not b) c.run.new.store c.run.new.link) (sym c.is_io.ensures)
    (puts c.args.refused _ _ n before rows begun writes c.args.row _ _ _ _ c.answer_to.ensures did.0 did.1 did.2 within few)
