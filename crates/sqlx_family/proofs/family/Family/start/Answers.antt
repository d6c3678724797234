use Rattle.sqlx_family.proofs.PollLemmas.{permit-there, start-answered, start-logged}
use Rattle.sqlx_family.proofs.BalanceLemmas.{balance-granted}
use Rattle.sqlx_family.proofs.family.Family.start.Goals as goal

pub start_at-requires-clause-permit : goal.start_at-requires-clause-permit
start_at-requires-clause-permit g c =
    rw c.grant.ensures.becomes
    (permit-there c.takes_permit-takes.result c.args.pool c.args.self.now c.is_entitled_alone-alone.result c.either.result c.either.ensures c.is_entitled_alone-alone.ensures.permit (rw c.grant.ensures.becomes at c.grant.ensures.permit))

pub returns-clause-answer : goal.returns-clause-answer
returns-clause-answer g c =
    rw (← c.moment-moment.ensures)
    (start-answered c.args.pool c.args.client c.args.ticket c.moment-moment.result.0 c.args.self.now c.requires.named c.takes_permit-takes.result c.is_entitled_alone-alone.result c.either.result c.takes_permit-takes.ensures.answer c.is_entitled_alone-alone.ensures.answer c.either.ensures c.start_at.result
    (rw c.grant.ensures.becomes at c.start_at.ensures.answer))

pub returns-clause-makes : goal.returns-clause-makes
returns-clause-makes g c =
    start-logged c.args.pool c.args.client c.args.ticket c.moment-moment.result.0 c.args.self.now c.requires.named c.takes_permit-takes.result c.is_entitled_alone-alone.result c.either.result c.takes_permit-takes.ensures.answer c.is_entitled_alone-alone.ensures.answer c.either.ensures c.start_at.result
    c.start_at.new.self (rw c.grant.ensures.becomes at c.start_at.ensures.makes)

pub returns-clause-balance : goal.returns-clause-balance
returns-clause-balance g c =
    balance-granted c.takes_permit-takes.result c.args.pool c.args.client c.args.ticket c.args.self.now c.start_at.new.self c.start_at.result c.requires.named (rw c.grant.ensures.becomes at c.start_at.ensures.balance)
