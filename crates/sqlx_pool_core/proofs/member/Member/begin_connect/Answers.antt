use Rattle.sqlx_pool_core.proofs.PollCode.{begun-connect}
use Rattle.sqlx_pool_core.proofs.member.Member.begin_connect.Goals as goal

pub invariant_of-self : goal.invariant_of-self
invariant_of-self g c =
    let both = begun-connect c.args._entitled _ _ c.args.found c.trying.result c.args.moment.0 c.put.new.self c.self.view_is c.self.invariant.0 c.trying.ensures c.put.ensures c.requires.turn c.requires.permit c.requires.found in
    (both.0, c.self.invariant.1)

pub returns : goal.returns
returns g c =
    let both = begun-connect c.args._entitled _ _ c.args.found c.trying.result c.args.moment.0 c.put.new.self c.self.view_is c.self.invariant.0 c.trying.ensures c.put.ensures c.requires.turn c.requires.permit c.requires.found in
    record { becomes = both.1 }
