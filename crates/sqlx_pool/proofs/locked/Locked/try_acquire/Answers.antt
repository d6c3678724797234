use Rattle.std.proofs.Common.{Some, inr, sym, arith}
use Rattle.sqlx_pool_core.specs.Logs.{moment_of}
use Rattle.sqlx_pool.proofs.LeavesLemmas.{leaves-along, try-leaves, try-flat}
use Rattle.sqlx_pool.proofs.StepLemmas.{stepped}
use Rattle.sqlx_pool.specs.Steps.{passes}
use Rattle.sqlx_pool.proofs.locked.Locked.try_acquire.Goals as goal

pub invariant_of-self : goal.invariant_of-self
invariant_of-self g c =
    let core = c.self.inside.core.pool in
    let lent = c.in-Some.lent in
    let owned = c.lend-held.ensures.owned in
    let made = c.lend-held.ensures.made in
    let few = c.is_full.ensures.few c.if-is_full.false in
    stepped c.self.invariant c.in-Some.ensures.balance c.in-Some.ensures.makes
    (leaves-along g.C.Depth.levels core _ _ c.in-Some.ensures.becomes (try-leaves g.C.Depth.levels c.args.client (moment_of core c.args.now) (Some lent) core))
    c.self.inside.connect c.lend-held.new.self (record { owned = omega (arith, owned); made_is = made; few = inr (omega (arith, made, few)) })
    _ _ c.in-Some.ensures.marks c.in-Some.ensures.room

pub returns-in-Some-clause-flat : goal.returns-in-Some-clause-flat
returns-in-Some-clause-flat g c =
    let core = c.self.inside.core.pool in
    try-flat g.C.Depth.levels (passes core) core.idle c.in-Some.lent (sym c.in-Some.ensures.first) c.self.invariant.standing.rest
