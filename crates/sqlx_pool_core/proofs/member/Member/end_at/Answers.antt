use Rattle.sqlx_pool_core.proofs.Soundness.{sound-ended}
use Rattle.sqlx_pool_core.proofs.member.Member.end_at.Goals as goal

pub invariant_of-self : goal.invariant_of-self
invariant_of-self g c = (rw c.end.ensures (sound-ended c.args.number c.args.moment.0 _ c.self.invariant.0), c.self.invariant.1)
