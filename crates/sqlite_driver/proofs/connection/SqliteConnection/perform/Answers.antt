use Rattle.sqlite_driver.proofs.TextLemmas.{ran_settled, refused_settled}
use Rattle.sqlite_driver.proofs.connection.SqliteConnection.perform.Goals as goal

pub returns-in-Ok-text-clause-ran : goal.returns-in-Ok-text-clause-ran
returns-in-Ok-text-clause-ran c =
    let ran : _ = ran_settled c.hand_on.result c.in-Ok-text.text c.args.self.now c.settle.new.self c.hand_on.new.self c.in-Ok.ensures.pings c.hand_on.ensures.ran c.hand_on.ensures.noted in
    rw c.in-Ok-text.is ran

pub returns-in-Ok-text-clause-refused : goal.returns-in-Ok-text-clause-refused
returns-in-Ok-text-clause-refused c = refused_settled c.hand_on.result c.args.text c.in-Ok-text.text c.args.self.now c.settle.new.self c.hand_on.new.self c.in-Ok-text.is c.in-Ok.ensures.pings c.in-Ok.ensures.rises c.hand_on.ensures.refused c.hand_on.ensures.noted c.hand_on.ensures.risen
