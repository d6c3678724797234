use Rattle.std.proofs.Common.{◌≡◌, ◌+◌, subst}
use Rattle.mem_store.specs.Store.{Store, connected, new_link}
use Rattle.sqlx_jobs.proofs.Standing.{new_stands}
use Rattle.sqlx_jobs.proofs.queue.JobQueue.new.Goals as goal

pub returns : goal.returns
returns g c =
    new_stands _ _ _ c.args.line c.requires.small c.opened.ensures
    (subst (λ (s : Store). c.connect.new.store ≡ connected (s.given + 1) s) c.new-store.ensures c.in_ok-link.ensures.ok)
    (subst (λ (s : Store). c.in_ok-link.link ≡ new_link (s.given + 1)) c.new-store.ensures c.in_ok-link.ensures.link)
