use Rattle.std.proofs.Common.{true, false, refl, subst}
use Rattle.sqlx_pool_history.proofs.Showing.{showed_last, showed_sooner}
use Rattle.sqlx_pool.specs.Calls as call
use Rattle.sqlx_pool.specs.Seen.{HasSeen}
use Rattle.sqlx_pool.proofs.close_event.CloseEventOf.do_until.Goals as goal

pub returns-then-is_closed_at_first : goal.returns-then-is_closed_at_first
returns-then-is_closed_at_first g c = (refl, showed_last c.args.self.now.front c.is_closed_at_first.new.self.front _ (c.if-is_closed_at_first.ensures.saw refl))

pub returns-then-poll : goal.returns-then-poll
returns-then-poll g c = (
  refl,
  subst (λ p. HasSeen g.S.PoolSteps.stands c.args.self.now.front c.poll-in-None.new.self.front (g.S.PoolSteps.tells (call.IsClosed p.shared.value.name true))) c.is_closed_at_first.ensures.same
      (showed_sooner c.args.self.now.front c.is_closed_at_first.new.self.front c.poll-in-None.new.self.front _ c.is_closed_at_first.ensures.later
      (showed_last c.is_closed_at_first.new.self.front c.poll-in-None.new.self.front _ c.if-poll.ensures.saw)),
)

pub returns-else-poll : goal.returns-else-poll
returns-else-poll g c =
    subst (λ p. HasSeen g.S.PoolSteps.stands c.args.self.now.front c.poll-in-None.new.self.front (g.S.PoolSteps.tells (call.IsClosed p.shared.value.name false))) c.is_closed_at_first.ensures.same
    (showed_sooner c.args.self.now.front c.is_closed_at_first.new.self.front c.poll-in-None.new.self.front _ c.is_closed_at_first.ensures.later
    (showed_last c.is_closed_at_first.new.self.front c.poll-in-None.new.self.front _ c.if-poll.ensures.saw))
