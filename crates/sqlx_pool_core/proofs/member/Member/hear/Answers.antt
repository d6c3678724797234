use Rattle.sqlx_pool_core.proofs.SharedLemmas.{hearing-sound}
use Rattle.sqlx_pool_core.proofs.member.Member.hear.Goals as goal

pub invariant_of-self : goal.invariant_of-self
invariant_of-self g c =
    (hearing-sound _ _ c.args.closed c.args.shared c.self.view_is c.self.invariant.0 c.requires.tickets c.requires.few c.requires.conns c.requires.own, c.self.invariant.1)
