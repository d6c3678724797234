use Rattle.std.proofs.Common.{rules}
use Rattle.sqlite_driver.proofs.TextLemmas.{ran_as}
use Rattle.sqlite_driver.proofs.connection.SqliteConnection.end_level.Goals as goal

pub returns-in-Ok-clause-ends : goal.returns-in-Ok-clause-ends
returns-in-Ok-clause-ends c = λ due is.
    let ran : _ = ran_as c.perform.result due c.args.text c.args.self.now c.perform.new.self is c.perform.ensures.ran in
    search rules

pub returns-in-Err-clause-ends : goal.returns-in-Err-clause-ends
returns-in-Err-clause-ends c = λ due is. (c.perform.new.self, c.in-Err.ensures.refused due is, c.perform.ensures.depth, c.give_up.ensures.new)

pub returns-in-Err-clause-levels : goal.returns-in-Err-clause-levels
returns-in-Err-clause-levels c = search rules
