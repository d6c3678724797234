use Rattle.sqlx_play_client.proofs.LinkLemmas.{gives_link, gives_reply, gives_store}
use Rattle.sqlx_play_client.proofs.by_driver.run_between.Goals as goal

pub returns-clause-reply : goal.returns-clause-reply
returns-clause-reply c = gives_reply c.args.act _ c.at_work-conn.result.backend.work c.run_act-reply.new.conn.backend.work c.run_act-reply.result c.at_work-conn.ensures c.run_act-reply.ensures

pub returns-clause-link : goal.returns-clause-link
returns-clause-link c =
    gives_link c.args.act _ c.at_work-conn.result.backend.work c.run_act-reply.new.conn.backend.work c.run_act-reply.result c.at_work-conn.ensures c.run_act-reply.ensures _ c.taken_apart-store.ensures.1

pub returns-clause-store : goal.returns-clause-store
returns-clause-store c =
    gives_store c.args.act _ c.at_work-conn.result.backend.work c.run_act-reply.new.conn.backend.work c.run_act-reply.result c.at_work-conn.ensures c.run_act-reply.ensures _ c.taken_apart-store.ensures.0
