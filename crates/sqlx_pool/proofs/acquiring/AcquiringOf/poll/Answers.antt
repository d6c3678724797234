use Rattle.std.proofs.Common.{subst}
use Rattle.sqlx_pool.specs.PollChain.{Polls}
use Rattle.sqlx_pool.specs.Lent.{lent_of}
use Rattle.sqlx_pool.proofs.acquiring.AcquiringOf.poll.Goals as goal

pub returns-clause-polls : goal.returns-clause-polls
returns-clause-polls g c = (
  c.poll_seen.new.me,
  subst (λ seen. Polls g.X.Outside.does g.X.Outside.depth g.C.Depth.levels g.S.PoolSteps.stands g.S.PoolSteps.does c.args.self.pool.shared.value.name c.args.self.client c.args.self.ticket g.S.PoolSteps.tells c.args.now c.args.self.pool.shared.value.options
      (λ conn. lent_of conn.id conn.created conn.raw) seen c.poll_seen.new.me c.poll_seen.result c.args.out.now c.poll_seen.new.out) c.front-me.ensures c.poll_seen.ensures.polls,
)
