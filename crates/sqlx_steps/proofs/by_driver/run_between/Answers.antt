use Rattle.sqlx_steps.proofs.Driving.{gives_between}
use Rattle.sqlx_steps.proofs.by_driver.run_between.Goals as goal

pub returns : goal.returns
returns c =
    gives_between c.args.act _ c.at_work-conn.result.backend.work c.run_act-reply.new.conn.backend.work c.run_act-reply.result _ _ c.at_work-conn.ensures c.run_act-reply.ensures c.taken_apart-store.ensures.0 c.taken_apart-store.ensures.1
