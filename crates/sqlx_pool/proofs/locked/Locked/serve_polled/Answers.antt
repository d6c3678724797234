use Rattle.std.proofs.Common.{true, [], ◌∷◌, ◌++◌, Some, inl, sym, ap, ◌∙◌, append_assoc, length, length-append, arith}
use Rattle.sqlx_pool_marks.specs.declared.mark.Mark.TheVariants.{Left, Taken, Lent, Ended}
use Rattle.sqlx_pool_core.specs.Logs.{moment_of}
use Rattle.sqlx_pool.proofs.LeavesLemmas.{leaves-along, first-leaves, try-flat}
use Rattle.sqlx_pool.proofs.StepLemmas.{stepped}
use Rattle.sqlx_pool.proofs.locked.Locked.serve_polled.Goals as goal

-- four marks are made of those that are due
pub take-requires : goal.take-requires
take-requires g c =
    let room = c.self.invariant.room in
    let paid = c.in-Some.ensures.balance.paid in
    omega (arith, room, paid)

pub lend-requires : goal.lend-requires
lend-requires g c =
    let room = c.self.invariant.room in
    let paid = c.in-Some.ensures.balance.paid in
    let more = ap length c.take.ensures.items ∙ length-append c.self.inside.log.items (Left c.args.ticket ∷ Taken c.in-Some.lent.id ∷ []) in
    let capacity = c.take.ensures.capacity in
    omega (arith, room, paid, more, capacity)

pub invariant_of-self : goal.invariant_of-self
invariant_of-self g c =
    let core = c.self.inside.core.pool in
    let lent = c.in-Some.lent in
    let owned = c.lend-held.ensures.owned in
    let room = c.self.invariant.room in
    let taken = c.take.ensures.capacity in
    let ended = c.lend.ensures.capacity in
    stepped c.self.invariant c.in-Some.ensures.balance c.in-Some.ensures.makes
    (leaves-along g.C.Depth.levels core _ _ c.in-Some.ensures.becomes (first-leaves g.C.Depth.levels c.args.client c.args.ticket (moment_of core c.args.now) (Some lent) core))
    c.self.inside.connect c.lend-held.new.self (record { owned = omega (arith, owned); made_is = c.lend-held.ensures.made; few = inl (omega arith) })
    _ _ (c.lend.ensures.items ∙ ap (λ l. l ++ Lent c.args.client lent.id ∷ Ended c.args.ticket ∷ []) c.take.ensures.items ∙ append_assoc c.self.inside.log.items (Left c.args.ticket ∷ Taken lent.id ∷ []) (Lent c.args.client lent.id ∷ Ended c.args.ticket ∷ []))
    (omega (arith, room, taken, ended))

pub returns-in-Some-clause-flat : goal.returns-in-Some-clause-flat
returns-in-Some-clause-flat g c = try-flat g.C.Depth.levels true c.self.inside.core.pool.idle c.in-Some.lent (sym c.in-Some.ensures.first) c.self.invariant.standing.rest
