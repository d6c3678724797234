use Rattle.std.proofs.Common.{◌<◌, length, rules}
use Rattle.sqlx_family.proofs.LogLemmas.{logs-retired}
use Rattle.sqlx_family.proofs.BalanceLemmas.{balance-retired}
use Rattle.sqlx_family.proofs.family.Family.retire.Goals as goal

pub returns-clause-makes : goal.returns-clause-makes
returns-clause-makes g c =
    let here : c.args.pool < length c.close-idle.new.self.pools = search rules in
    logs-retired _ c.args.pool _ c.close-idle.new.self c.settle.new.self here c.close-idle.ensures.makes (rw c.mark_retired.ensures.becomes at c.settle.ensures.becomes)

pub returns-clause-balance : goal.returns-clause-balance
returns-clause-balance g c =
    let here : c.args.pool < length c.close-idle.new.self.pools = search rules in
    balance-retired _ c.close-idle.new.self c.settle.new.self c.args.pool _ here c.close-idle.ensures.balance (rw c.mark_retired.ensures.becomes at c.settle.ensures.becomes)
