use Rattle.std.proofs.Common.{◌<◌, ◌≤◌, arith, length}
use Rattle.sqlx_family.specs.Pools.{pools_of}
use Rattle.sqlx_family.proofs.RootLineLemmas.{left-first, left-none, left-some, left-end}
use Rattle.sqlx_family.proofs.family.Family.root_admits.Goals as goal

pub loop-i-init : goal.loop-i-init
loop-i-init g c =
    left-first c.args.ticket (pools_of c.self.inside.pools.items c.self.inside.shared) c.index-root.result.now c.num_free-free.result c.ahead-ahead.result c.self.invariant.some c.index-root.ensures c.num_free-free.ensures c.ahead-ahead.ensures c.if-free-ahead.false

pub returns-then-left-more : goal.returns-then-left-more
returns-then-left-more g c =
    let lt : c.loop-i.i < length c.self.inside.pools.items = grind arith in
    left-none c.args.ticket (pools_of c.self.inside.pools.items c.self.inside.shared) c.loop-i.left c.lined_ahead-more.result c.loop-i.i c.index.result.now c.loop-i.invariant lt c.index.ensures c.lined_ahead-more.ensures c.if-left-more.true c.self.view_is

pub loop-i-preserved : goal.loop-i-preserved
loop-i-preserved g c =
    let lt : c.loop-i.i < length c.self.inside.pools.items = grind arith in
    left-some c.args.ticket (pools_of c.self.inside.pools.items c.self.inside.shared) c.loop-i.left c.lined_ahead-more.result c.loop-i.i c.index.result.now c.loop-i.invariant lt c.index.ensures c.lined_ahead-more.ensures c.if-left-more.false

pub returns : goal.returns
returns g c =
    let le : length c.self.inside.pools.items ≤ c.loop-i.i = grind arith in
    left-end c.args.ticket (pools_of c.self.inside.pools.items c.self.inside.shared) c.loop-i.left c.loop-i.i c.loop-i.invariant le c.self.view_is
