use Rattle.std.proofs.Common.{false, inr}
use Rattle.sqlx_pool_history.proofs.Showing.{showed_sooner}
use Rattle.sqlx_pool_parts.specs.Opened.{IsCounted}
use Rattle.sqlx_pool.specs.Seen.{HasSeen}
use Rattle.sqlx_pool.specs.Calls as call
use Rattle.sqlx_pool.proofs.RefusalLemmas.{counted_sooner}
use Rattle.sqlx_pool.proofs.UpkeepLemmas.{ends-weaker, unfilled-why}
use Rattle.sqlx_pool.proofs.pool.PoolOf.keep_minimum_seen.Goals as goal

pub returns-in-Full-clause-ends : goal.returns-in-Full-clause-ends
returns-in-Full-clause-ends g c =
    λ tells.
    let why = unfilled-why (HasSeen g.S.PoolSteps.stands c.loop-opened.me c.open_one.new.me (g.S.PoolSteps.tells (call.IsFilled c.args.self.now.shared.value.name))) (IsCounted g.X.Outside.faults g.X.Outside.refusals c.loop-opened.out c.open_one.new.out) c.open_one.result c.in-Full.is (c.open_one.ensures.unfilled tells) in
    ends-weaker c.args.self.now.shared.value.options (record { opened = c.loop-opened.opened; short = false })
    (λ saw. showed_sooner c.args.me.now c.loop-opened.me c.open_one.new.me _ c.loop-opened.invariant.2 saw)
    (λ counted. counted_sooner g.X.Outside.faults g.X.Outside.refusals c.args.out.now c.loop-opened.out c.open_one.new.out c.loop-opened.invariant.0 c.loop-opened.invariant.1 counted)
    (inr (inr why))
